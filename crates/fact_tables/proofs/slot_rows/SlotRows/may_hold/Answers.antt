use Rattle.std.proofs.Common.{◌≡◌, ◌∙◌, ap, sym, subst, false, List}
use Rattle.std.specs.Prelude.{nat_eq}
use Rattle.std.specs.List.{list_any}
use Rattle.indexmap.specs.IndexMap.{get}
use Rattle.fact_tables.specs.declared.known.SlotFact.{SlotFact}
use Rattle.fact_tables.specs.Rows.{holds}
use Rattle.fact_tables.proofs.Keepers.{unkept}
use Rattle.fact_tables.proofs.slot_rows.SlotRows.may_hold.Goals as goal

pub returns : goal.returns
returns c = λ e. subst (λ (slots : List SlotFact). list_any (holds c.args.c) slots ≡ false) c.self.view_is
    (unkept c.self.inside.keepers c.self.inside.slots.items c.self.invariant.2 c.args.c c.newest.result (c.newest.ensures ∙ ap (get nat_eq c.self.inside.keepers.newest) c.number.ensures) (sym c.is_some.ensures ∙ e))
