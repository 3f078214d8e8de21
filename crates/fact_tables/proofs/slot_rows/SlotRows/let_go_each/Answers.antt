use Rattle.std.proofs.Common.{◌≡◌, ◌∙◌, ap, sym, subst, map, List}
use Rattle.fact_tables.specs.declared.known.SlotFact.{SlotFact}
use Rattle.fact_tables.specs.Rows.{let_go}
use Rattle.fact_tables.specs.SlotRows.{AreRecorded}
use Rattle.fact_tables.proofs.Keepers.{keepers_let_go, let_go_keepers}
use Rattle.fact_tables.proofs.SlotLists.{let_go_filled, let_go_holding}
use Rattle.fact_tables.proofs.slot_rows.SlotRows.let_go_each.Goals as goal

module _ (c : goal.After-let_go_each) where
  abbrev before : List SlotFact
  before = c.self.inside.slots.items

  is : c.let_go_each.new.slots.items ≡ map (let_go c.args.c c.args.nonnull) before
  is = c.let_go_each.ensures ∙ keepers_let_go c.args.c c.args.nonnull c.self.inside.keepers before c.self.invariant.2

pub invariant_of-self : goal.invariant_of-self
invariant_of-self c = subst (AreRecorded c.self.inside.filled.items c.self.inside.holding.items c.self.inside.keepers) (sym (is c)) (
  let_go_filled c.args.c c.args.nonnull c.self.inside.filled.items (before c) c.self.invariant.0,
  let_go_holding c.args.c c.args.nonnull c.self.inside.holding.items (before c) c.self.invariant.1,
  let_go_keepers c.args.c c.args.nonnull c.self.inside.keepers (before c) c.self.invariant.2,
)

pub returns : goal.returns
returns c = is c ∙ ap (map (let_go c.args.c c.args.nonnull)) c.self.view_is
