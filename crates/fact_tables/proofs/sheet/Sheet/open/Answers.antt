use Rattle.std.proofs.Common.{◌≡◌, ◌∙◌, ap, length, map, replicate, [], sym, List, ℕ, subst}
use Rattle.fact_tables.specs.EachListed.{each_listed, copied}
use Rattle.fact_tables.proofs.EachListed.{wiped_all}
use Rattle.fact_tables.specs.declared.numbered.Numbered.{Numbered}
use Rattle.fact_tables.specs.declared.row.Row.{Row}
use Rattle.fact_tables.specs.Numbered.{number_of, written, among_blank}
use Rattle.fact_tables.specs.Sheets.{OnlyMarked, OnlyCurrent, blank}
use Rattle.fact_tables.proofs.OwnersOf.{non_owners_of}
use Rattle.fact_tables.proofs.KeptRows.{length_among, written_marked}
use Rattle.fact_tables.proofs.sheet.Sheet.open.Goals as goal
use Rattle.fact_tables.proofs.sheet.Sheet.open.Goals.{After-drop-self-inside-4}

module _ (c : After-drop-self-inside-4) where
  abbrev kept : List Row
  kept = among_blank c.kept.inside.count c.kept.inside.rows.items

  same_marks : c.in_ok-marked.marked.items ≡ map number_of c.kept.inside.rows.items
  same_marks = c.in_ok-marked.ensures ∙ ap (map number_of) c.deref.ensures.value

  same_current : c.in_ok-current.current.items ≡ c.kept.inside.current.items
  same_current = c.in_ok-current.ensures.items ∙ c.deref-2.ensures.value

  same_class_owners : c.in_ok-class_owners.class_owners.items ≡ c.kept.inside.class_owners.items
  same_class_owners = c.in_ok-class_owners.ensures.items ∙ c.deref-3.ensures.value

  same_non_owners : c.in_ok-non_owners.non_owners.items ≡ c.kept.inside.non_owners.items
  same_non_owners = c.in_ok-non_owners.ensures.items ∙ c.deref-4.ensures.value

  long : length c.self.inside.rows.items ≡ c.kept.inside.count
  long = ap length c.self.view_is ∙ c.requires ∙ sym (ap length c.kept.view_is) ∙ length_among c.kept.inside.count c.kept.inside.rows.items

  cleared : c.copy.new.rows.items ≡ replicate c.kept.inside.count blank
  cleared = c.copy.ensures ∙ ap (λ (m : List ℕ). each_listed blank (copied blank []) m c.self.inside.rows.items) c.deref-5.ensures.value ∙ wiped_all blank c.self.inside.marked.items c.self.inside.rows.items c.self.invariant.0 ∙ ap (λ (n : ℕ). replicate n blank) long

  same_rows : c.write_rows.new.rows.items ≡ kept
  same_rows = c.write_rows.ensures ∙ ap (λ (numbered : List Numbered). written numbered c.copy.new.rows.items) c.deref-6.ensures.value ∙ ap (written c.kept.inside.rows.items) cleared

pub invariant_of-self : goal.invariant_of-self
invariant_of-self c = (
  subst (λ (rows : List Row). OnlyMarked c.in_ok-marked.marked.items rows) (sym (same_rows c)) (subst (λ (marked : List ℕ). OnlyMarked marked (kept c)) (sym (same_marks c)) (written_marked c.kept.inside.count c.kept.inside.rows.items)),
  subst (λ (rows : List Row). OnlyCurrent c.in_ok-current.current.items rows) (sym (same_rows c)) (subst (λ (us : List ℕ). OnlyCurrent us (kept c)) (sym (same_current c)) c.kept.invariant.0),
  non_owners_of c.in_ok-non_owners.non_owners.items c.kept.inside.non_owners.items c.in_ok-class_owners.class_owners.items c.kept.inside.class_owners.items c.write_rows.new.rows.items (kept c) (same_non_owners c) (same_class_owners c) (same_rows c) c.kept.invariant.1,
)

pub returns-clause-ok : goal.returns-clause-ok
returns-clause-ok c = same_rows c ∙ c.kept.view_is
