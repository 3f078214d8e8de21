use Rattle.std.proofs.Common.{sym, subst, refl, List, ℕ, length}
use Rattle.fact_tables.specs.declared.row.Row.{Row}
use Rattle.fact_tables.specs.declared.sweeps.Change.TheVariants.{Off}
use Rattle.fact_tables.specs.Owners.{owns_class}
use Rattle.fact_tables.specs.Sheets.{EachRow, OnlyMarked, changed, is_settled}
use Rattle.fact_tables.specs.Uses.{OnlyUsers}
use Rattle.fact_tables.proofs.Current.{marked_after, off_settled}
use Rattle.fact_tables.proofs.OwnersOf.{as_many, off_owns}
use Rattle.fact_tables.proofs.Listed.{unless_after}
use Rattle.fact_tables.proofs.sheet.Sheet.end_names.Goals as goal

module _ (c : goal.After-end_names) where
  abbrev before : List Row
  before = c.self.inside.rows.items

  abbrev after : List Row
  after = c.end_names.new.rows.items

  off : EachRow (changed (Off c.args.v)) before after
  off = c.end_names.ensures (subst (λ (rows : List Row). OnlyUsers c.args.uses.now rows) (sym c.self.view_is) c.requires) (subst (λ (us : List ℕ). OnlyMarked us before) (sym c.deref.ensures.value) c.self.invariant.0)

pub invariant_of-self : goal.invariant_of-self
invariant_of-self c = (
  marked_after (changed (Off c.args.v)) (λ u. refl) (before c) (after c) (off c) c.self.inside.marked.items c.self.invariant.0,
  unless_after (changed (Off c.args.v)) (λ u. refl) (before c) (after c) (off c) is_settled c.self.inside.current.items (off_settled c.args.v) c.self.invariant.1,
  as_many c.self.inside.class_owners.items c.self.inside.non_owners.items (before c) (after c) (off c).0
      (unless_after (changed (Off c.args.v)) (λ u. refl) (before c) (after c) (off c) (owns_class (length (before c)) c.self.inside.class_owners.items) c.self.inside.non_owners.items (off_owns (length (before c)) c.self.inside.class_owners.items c.args.v) c.self.invariant.2),
)

pub returns : goal.returns
returns c = subst (λ (rows : List Row). EachRow (changed (Off c.args.v)) rows (after c)) c.self.view_is (off c)
