use Rattle.std.proofs.Common.{◌≡◌, ◌⊎◌, ◌∙◌, ap, sym, subst, refl, List}
use Rattle.fact_tables.specs.declared.row.Row.{Row}
use Rattle.fact_tables.specs.declared.known.Known.TheVariants.{Nothing}
use Rattle.fact_tables.specs.Sheets.{row_at, is_settled}
use Rattle.fact_tables.proofs.OwnersOf.{change_non_owners}
use Rattle.fact_tables.proofs.Listed.{change_unless}
use Rattle.fact_tables.proofs.Sheets.{change_marked}
use Rattle.fact_tables.proofs.sheet.Sheet.change.Goals as goal

pub invariant_of-self : goal.invariant_of-self
invariant_of-self c = (
  change_marked c.args.at c.args.row c.self.inside.marked.items c.self.inside.rows.items c.self.invariant.0 (λ e. c.requires.filled (ap (λ (rows : List Row). row_at rows c.args.at) (sym c.self.view_is) ∙ e)),
  change_unless is_settled (λ u. refl) c.args.at c.args.row c.self.inside.current.items c.self.inside.rows.items c.self.invariant.1 (λ e. c.requires.settled (ap (λ (rows : List Row). is_settled c.args.at (row_at rows c.args.at)) (sym c.self.view_is) ∙ e)),
  change_non_owners c.args.at c.args.row c.self.inside.rows.items c.self.inside.class_owners.items c.self.inside.non_owners.items c.self.invariant.2
      (subst (λ (rows : List Row). (c.args.row.known ≡ (row_at rows c.args.at).known) ⊎ (c.args.row.known ≡ Nothing)) (sym c.self.view_is) c.requires.known),
)
