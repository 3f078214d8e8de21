use Rattle.std.proofs.Common.{◌≡◌, ◌∙◌, ap, length, replicate, [], sym, List, ℕ, subst}
use Rattle.fact_tables.specs.EachListed.{each_listed, copied}
use Rattle.fact_tables.proofs.EachListed.{wiped_all, copied_all}
use Rattle.fact_tables.specs.declared.row.Row.{Row}
use Rattle.fact_tables.specs.Sheets.{OnlyMarked, OnlyCurrent, blank}
use Rattle.fact_tables.proofs.OwnersOf.{non_owners_of}
use Rattle.fact_tables.proofs.sheet.Sheet.set_from.Goals as goal
use Rattle.fact_tables.proofs.sheet.Sheet.set_from.Goals.{After-refill-4}

module _ (c : After-refill-4) where
  same_marks : c.refill.new.list.items ≡ c.other.inside.marked.items
  same_marks = c.refill.ensures ∙ c.deref-8.ensures.value

  same_current : c.refill-2.new.list.items ≡ c.other.inside.current.items
  same_current = c.refill-2.ensures ∙ c.deref-9.ensures.value

  same_class_owners : c.refill-3.new.list.items ≡ c.other.inside.class_owners.items
  same_class_owners = c.refill-3.ensures ∙ c.deref-10.ensures.value

  same_non_owners : c.refill-4.new.list.items ≡ c.other.inside.non_owners.items
  same_non_owners = c.refill-4.ensures ∙ c.deref-11.ensures.value

  long : length c.self.inside.rows.items ≡ length c.other.inside.rows.items
  long = ap length c.self.view_is ∙ c.requires ∙ sym (ap length c.other.view_is)

  same_rows : c.copy-2.new.rows.items ≡ c.other.inside.rows.items
  same_rows = c.copy-2.ensures ∙ ap (λ others. each_listed blank (copied blank others) c.deref-6.result.now c.copy.new.rows.items) c.deref-7.ensures.value ∙ copied_all blank c.deref-6.result.now c.copy.new.rows.items c.other.inside.rows.items
      (subst (λ (marked : List ℕ). OnlyMarked marked c.other.inside.rows.items) (sym c.deref-6.ensures.value) c.other.invariant.0)
      (c.copy.ensures ∙ ap (λ m. each_listed blank (copied blank []) m c.self.inside.rows.items) (c.deref-5.ensures.value ∙ c.in_ok-make_room.ensures.items) ∙ wiped_all blank c.self.inside.marked.items c.self.inside.rows.items c.self.invariant.0 ∙ ap (λ n. replicate n blank) long)

pub invariant_of-self-2 : goal.invariant_of-self-2
invariant_of-self-2 c = (
  subst (λ (rows : List Row). OnlyMarked c.refill.new.list.items rows) (sym (same_rows c)) (subst (λ (marked : List ℕ). OnlyMarked marked c.other.inside.rows.items) (sym (same_marks c)) c.other.invariant.0),
  subst (λ (rows : List Row). OnlyCurrent c.refill-2.new.list.items rows) (sym (same_rows c)) (subst (λ (us : List ℕ). OnlyCurrent us c.other.inside.rows.items) (sym (same_current c)) c.other.invariant.1),
  non_owners_of c.refill-4.new.list.items c.other.inside.non_owners.items c.refill-3.new.list.items c.other.inside.class_owners.items c.copy-2.new.rows.items c.other.inside.rows.items (same_non_owners c) (same_class_owners c) (same_rows c) c.other.invariant.2,
)

pub returns-clause-ok : goal.returns-clause-ok
returns-clause-ok c = same_rows c ∙ c.other.view_is
