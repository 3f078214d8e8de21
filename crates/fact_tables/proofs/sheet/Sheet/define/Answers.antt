use Rattle.std.proofs.Common.{◌≡◌, ◌⊎◌, ◌∙◌, ap, length, sym, subst, map, true, List, ℕ, slice_set}
use Rattle.lemmas.specs.Lists.{IsIn}
use Rattle.fact_tables.specs.declared.row.Row.{Row}
use Rattle.fact_tables.specs.declared.sweeps.Change.TheVariants.{Off}
use Rattle.fact_tables.specs.Owners.{owns_class, ListsNonOwners}
use Rattle.fact_tables.specs.Sheets.{row_at, is_settled, with_mark, with_current, EachRow, OnlyMarked, OnlyCurrent, changed, off_row}
use Rattle.fact_tables.specs.Uses.{OnlyUsers}
use Rattle.fact_tables.proofs.Defines.{off_all, defined_marked, defined_current, defined_non_owners}
use Rattle.fact_tables.proofs.OwnersOf.{kept_non_owners, recorded_non_owners}
use Rattle.fact_tables.proofs.Listed.{more_unless}
use Rattle.fact_tables.proofs.Sheets.{more_marked}
use Rattle.fact_tables.proofs.sheet.Sheet.define.Goals as goal

module _ (rows seen : List Row) (marked next : List ℕ) (v at : ℕ) (before : Row) (recorded : next ≡ with_mark at before marked) (found : before ≡ row_at seen at) (same : seen ≡ rows) (is : at ≡ v) where
  marks : next ≡ with_mark v (row_at rows v) marked
  marks = recorded ∙ ap (λ (row : Row). with_mark at row marked) (found ∙ ap (λ (l : List Row). row_at l at) same) ∙ ap (λ (u : ℕ). with_mark u (row_at rows u) marked) is

  all_marked : OnlyMarked marked rows → OnlyMarked next rows
  all_marked only = subst (λ (us : List ℕ). OnlyMarked us rows) (sym marks) (more_marked v (row_at rows v) marked rows only)

pub invariant_of-self-in_err-record_one : goal.invariant_of-self-in_err-record_one
invariant_of-self-in_err-record_one c = (
  all_marked c.self.inside.rows.items c.deref.result.now c.self.inside.marked.items c.mark.new.marked.items c.args.v c.number-at.result c.row_at-before.result c.in_ok-mark.ensures.ok c.row_at-before.ensures c.deref.ensures.value c.number-at.ensures c.self.invariant.0,
  subst (λ (us : List ℕ). OnlyCurrent us c.self.inside.rows.items) (sym c.in_err-record_one.ensures.err) c.self.invariant.1,
  c.self.invariant.2,
)

-- the rows that are current then
recorded_current : (rows seen : List Row) (v at : ℕ) (row before : Row) (current next : List ℕ) → next ≡ with_current at before row current → before ≡ row_at seen at → seen ≡ rows → at ≡ v → next ≡ with_current v (row_at rows v) row current
recorded_current rows seen v at row before current next recorded is same e = recorded ∙ ap (λ (r : Row). with_current at r row current) (is ∙ ap (λ (l : List Row). row_at l at) same) ∙ ap (λ u. with_current u (row_at rows u) row current) e

pub invariant_of-self-in_err-record_non_owner : goal.invariant_of-self-in_err-record_non_owner
invariant_of-self-in_err-record_non_owner c = (
  all_marked c.self.inside.rows.items c.deref.result.now c.self.inside.marked.items c.mark.new.marked.items c.args.v c.number-at.result c.row_at-before.result c.in_ok-mark.ensures.ok c.row_at-before.ensures c.deref.ensures.value c.number-at.ensures c.self.invariant.0,
  more_unless is_settled c.args.v (row_at c.self.inside.rows.items c.args.v) c.args.row c.self.inside.current.items c.record_one.new.current.items c.self.inside.rows.items
      (recorded_current c.self.inside.rows.items c.deref.result.now c.args.v c.number-at.result c.args.row c.row_at-before.result c.self.inside.current.items c.record_one.new.current.items c.in_ok-record_one.ensures.ok c.row_at-before.ensures c.deref.ensures.value c.number-at.ensures) c.self.invariant.1,
  kept_non_owners c.deref-2.result.now c.self.inside.rows.items c.deref-2.ensures.value c.self.inside.non_owners.items c.record_non_owner.new.non_owners.items c.self.inside.class_owners.items c.record_non_owner.new.class_owners.items c.record_non_owner.ensures.kept c.self.invariant.2,
)

module _ (c : goal.After-write) where
  abbrev before : List Row
  before = c.self.inside.rows.items

  off : EachRow (changed (Off c.args.v)) before c.end_names.new.rows.items
  off = c.end_names.ensures (subst (λ (rows : List Row). OnlyUsers c.args.uses.now rows) (sym c.self.view_is) c.requires) (subst (λ (us : List ℕ). OnlyMarked us before) (sym c.deref-3.ensures.value) (all_marked before c.deref.result.now c.self.inside.marked.items c.mark.new.marked.items c.args.v c.number-at.result c.row_at-before.result c.in_ok-mark.ensures.ok c.row_at-before.ensures c.deref.ensures.value c.number-at.ensures c.self.invariant.0))

  is : c.write.new.rows.items ≡ slice_set (map (off_row c.args.v) before) c.args.v c.args.row
  is = c.write.ensures ∙ ap (λ (at : ℕ). slice_set c.end_names.new.rows.items at c.args.row) c.number-at.ensures ∙ ap (λ (rows : List Row). slice_set rows c.args.v c.args.row) (off_all c.args.v before c.end_names.new.rows.items off)

  notes : c.record_one.new.current.items ≡ with_current c.args.v (row_at before c.args.v) c.args.row c.self.inside.current.items
  notes = recorded_current before c.deref.result.now c.args.v c.number-at.result c.args.row c.row_at-before.result c.self.inside.current.items c.record_one.new.current.items c.in_ok-record_one.ensures.ok c.row_at-before.ensures c.deref.ensures.value c.number-at.ensures

  kept : ListsNonOwners c.record_non_owner.new.non_owners.items c.record_non_owner.new.class_owners.items before
  kept = kept_non_owners c.deref-2.result.now before c.deref-2.ensures.value c.self.inside.non_owners.items c.record_non_owner.new.non_owners.items c.self.inside.class_owners.items c.record_non_owner.new.class_owners.items c.record_non_owner.ensures.kept c.self.invariant.2

  recorded : IsIn c.args.v c.record_non_owner.new.non_owners.items ⊎ (owns_class (length before) c.record_non_owner.new.class_owners.items c.args.v c.args.row ≡ true)
  recorded = subst (λ (at : ℕ). IsIn at c.record_non_owner.new.non_owners.items ⊎ (owns_class (length before) c.record_non_owner.new.class_owners.items at c.args.row ≡ true)) c.number-at.ensures
      (recorded_non_owners c.deref-2.result.now before c.deref-2.ensures.value c.number-at.result c.args.row c.self.inside.non_owners.items c.record_non_owner.new.non_owners.items c.self.inside.class_owners.items c.record_non_owner.new.class_owners.items c.in_ok-record_non_owner.ensures.recorded c.self.invariant.2)

pub invariant_of-self-2 : goal.invariant_of-self-2
invariant_of-self-2 c = (
  subst (λ (rows : List Row). OnlyMarked c.mark.new.marked.items rows) (sym (is c)) (subst (λ (us : List ℕ). OnlyMarked us (slice_set (map (off_row c.args.v) (before c)) c.args.v c.args.row)) (sym (marks (before c) c.deref.result.now c.self.inside.marked.items c.mark.new.marked.items c.args.v c.number-at.result c.row_at-before.result c.in_ok-mark.ensures.ok c.row_at-before.ensures c.deref.ensures.value c.number-at.ensures)) (defined_marked c.args.v (before c) c.args.row c.self.inside.marked.items c.self.invariant.0)),
  subst (λ (rows : List Row). OnlyCurrent c.record_one.new.current.items rows) (sym (is c)) (subst (λ (us : List ℕ). OnlyCurrent us (slice_set (map (off_row c.args.v) (before c)) c.args.v c.args.row)) (sym (notes c)) (defined_current c.args.v (before c) c.args.row c.self.inside.current.items c.self.invariant.1)),
  subst (λ (rows : List Row). ListsNonOwners c.record_non_owner.new.non_owners.items c.record_non_owner.new.class_owners.items rows) (sym (is c)) (defined_non_owners c.args.v (before c) c.args.row c.record_non_owner.new.class_owners.items c.record_non_owner.new.non_owners.items (kept c) (recorded c)),
)

pub returns-clause-ok : goal.returns-clause-ok
returns-clause-ok c = is c ∙ ap (λ (rows : List Row). slice_set (map (off_row c.args.v) rows) c.args.v c.args.row) c.self.view_is
