use Rattle.std.proofs.Common.{◌≡◌, ◌∙◌, ap, arith, length, map, sym, subst, List, ℕ}
use Rattle.fact_tables.specs.declared.row.Row.{Row}
use Rattle.fact_tables.specs.Numbered.{numbered_at, among_blank}
use Rattle.fact_tables.specs.Sheets.{OnlyCurrent}
use Rattle.fact_tables.proofs.OwnersOf.{non_owners_of}
use Rattle.fact_tables.proofs.KeptRows.{kept_all}
use Rattle.fact_tables.proofs.sheet.Sheet.keep.Goals as goal

module _ (c : goal.After-len) where
  abbrev here : List Row
  here = c.self.inside.rows.items

  numbered : c.in_ok-rows.rows.items ≡ map (numbered_at here) c.self.inside.marked.items
  numbered = c.in_ok-rows.ensures ∙ ap (λ (rows : List Row). map (numbered_at rows) c.deref-2.result.now) c.deref.ensures.value ∙ ap (map (numbered_at here)) c.deref-2.ensures.value

  count : c.len.result ≡ length here
  count = omega (arith, c.len.ensures, c.self.inside.rows.ok.0)

  same_rows : among_blank c.len.result c.in_ok-rows.rows.items ≡ here
  same_rows = ap (λ (n : ℕ). among_blank n c.in_ok-rows.rows.items) count ∙ ap (among_blank (length here)) numbered ∙ kept_all c.self.inside.marked.items here c.self.invariant.0

pub invariant_of-result : goal.invariant_of-result
invariant_of-result c = (
  subst (λ (rows : List Row). OnlyCurrent c.in_ok-current.current.items rows) (sym (same_rows c)) (subst (λ (us : List ℕ). OnlyCurrent us (here c)) (sym (c.in_ok-current.ensures.items ∙ c.deref-3.ensures.value)) c.self.invariant.1),
  non_owners_of c.in_ok-non_owners.non_owners.items c.self.inside.non_owners.items c.in_ok-class_owners.class_owners.items c.self.inside.class_owners.items (among_blank c.len.result c.in_ok-rows.rows.items) (here c) (c.in_ok-non_owners.ensures.items ∙ c.deref-5.ensures.value) (c.in_ok-class_owners.ensures.items ∙ c.deref-4.ensures.value) (same_rows c) c.self.invariant.2,
)

pub returns : goal.returns
returns c = same_rows c ∙ c.self.view_is
