use Rattle.std.proofs.Common.{◌≡◌, ◌∙◌, ap, sym, subst, refl, List, ℕ, slice_set}
use Rattle.fact_tables.specs.declared.row.Row.{Row}
use Rattle.fact_tables.specs.Sheets.{row_at, is_settled, with_mark, with_current, OnlyMarked, OnlyCurrent}
use Rattle.fact_tables.proofs.OwnersOf.{put_non_owners, kept_non_owners, recorded_non_owners}
use Rattle.fact_tables.proofs.Listed.{set_unless, more_unless}
use Rattle.fact_tables.proofs.Sheets.{set_marked, more_marked}
use Rattle.fact_tables.proofs.sheet.Sheet.set.Goals as goal
use Rattle.fact_tables.proofs.sheet.Sheet.set.Goals.{In_ok-mark, In_ok-record_one}

marks : (c : In_ok-mark) → c.mark.new.marked.items ≡ with_mark c.args.at (row_at c.self.inside.rows.items c.args.at) c.self.inside.marked.items
marks c = c.in_ok-mark.ensures.ok ∙ ap (λ (row : Row). with_mark c.args.at row c.self.inside.marked.items) (c.row_at-before.ensures ∙ ap (λ (rows : List Row). row_at rows c.args.at) c.deref.ensures.value)

notes : (c : In_ok-record_one) → c.record_one.new.current.items ≡ with_current c.args.at (row_at c.self.inside.rows.items c.args.at) c.args.row c.self.inside.current.items
notes c = c.in_ok-record_one.ensures.ok ∙ ap (λ (row : Row). with_current c.args.at row c.args.row c.self.inside.current.items) (c.row_at-before.ensures ∙ ap (λ (rows : List Row). row_at rows c.args.at) c.deref.ensures.value)

pub invariant_of-self-in_err-record_one : goal.invariant_of-self-in_err-record_one
invariant_of-self-in_err-record_one c = (
  subst (λ (us : List ℕ). OnlyMarked us c.self.inside.rows.items) (sym (marks (goal.at.invariant_of-self-in_err-record_one c).In_ok-mark)) (more_marked c.args.at (row_at c.self.inside.rows.items c.args.at) c.self.inside.marked.items c.self.inside.rows.items c.self.invariant.0),
  subst (λ (us : List ℕ). OnlyCurrent us c.self.inside.rows.items) (sym c.in_err-record_one.ensures.err) c.self.invariant.1,
  c.self.invariant.2,
)

pub invariant_of-self-in_err-record_non_owner : goal.invariant_of-self-in_err-record_non_owner
invariant_of-self-in_err-record_non_owner c = (
  subst (λ (us : List ℕ). OnlyMarked us c.self.inside.rows.items) (sym (marks (goal.at.invariant_of-self-in_err-record_non_owner c).In_ok-mark)) (more_marked c.args.at (row_at c.self.inside.rows.items c.args.at) c.self.inside.marked.items c.self.inside.rows.items c.self.invariant.0),
  more_unless is_settled c.args.at (row_at c.self.inside.rows.items c.args.at) c.args.row c.self.inside.current.items c.record_one.new.current.items c.self.inside.rows.items (notes (goal.at.invariant_of-self-in_err-record_non_owner c).In_ok-record_one) c.self.invariant.1,
  kept_non_owners c.deref-then-at-len.result.now c.self.inside.rows.items c.deref-then-at-len.ensures.value c.self.inside.non_owners.items c.record_non_owner.new.non_owners.items c.self.inside.class_owners.items c.record_non_owner.new.class_owners.items c.record_non_owner.ensures.kept c.self.invariant.2,
)

pub invariant_of-self-then-at-len : goal.invariant_of-self-then-at-len
invariant_of-self-then-at-len c = (
  subst (λ (us : List ℕ). OnlyMarked us (slice_set rows c.args.at c.args.row)) (sym (marks (goal.at.invariant_of-self-then-at-len c).In_ok-mark)) (set_marked c.args.at c.args.row c.self.inside.marked.items rows c.self.invariant.0),
  subst (λ (us : List ℕ). OnlyCurrent us (slice_set rows c.args.at c.args.row)) (sym (notes (goal.at.invariant_of-self-then-at-len c).In_ok-record_one)) (set_unless is_settled (λ u. refl) c.args.at c.args.row c.self.inside.current.items rows c.self.invariant.1),
  put_non_owners c.args.at c.args.row rows c.record_non_owner.new.class_owners.items c.record_non_owner.new.non_owners.items
      (kept_non_owners c.deref-then-at-len.result.now rows c.deref-then-at-len.ensures.value c.self.inside.non_owners.items c.record_non_owner.new.non_owners.items c.self.inside.class_owners.items c.record_non_owner.new.class_owners.items c.record_non_owner.ensures.kept c.self.invariant.2)
      (recorded_non_owners c.deref-then-at-len.result.now rows c.deref-then-at-len.ensures.value c.args.at c.args.row c.self.inside.non_owners.items c.record_non_owner.new.non_owners.items c.self.inside.class_owners.items c.record_non_owner.new.class_owners.items c.in_ok-record_non_owner.ensures.recorded c.self.invariant.2),
) where
  rows : List Row
  rows = c.self.inside.rows.items
