use Rattle.std.proofs.Common.{◌≡◌, ◌∙◌, ap, sym, subst, map, List, ℕ, []}
use Rattle.fact_tables.specs.EachListed.{each_listed}
use Rattle.fact_tables.specs.declared.known.SlotFact.{SlotFact}
use Rattle.fact_tables.specs.Rows.{open_slot, end_hold}
use Rattle.fact_tables.specs.SlotRows.{OnlyFilled, OnlyHolding, OnlyKeepers}
use Rattle.fact_tables.proofs.Keepers.{end_keepers}
use Rattle.fact_tables.proofs.SlotLists.{end_all, end_filled, end_none}
use Rattle.fact_tables.proofs.slot_rows.SlotRows.end_holds.Goals as goal

module _ (c : goal.After-drop-self-inside-5) where
  abbrev before : List SlotFact
  before = c.self.inside.slots.items

  is : c.end_holds.new.slots.items ≡ map (end_hold c.args.values.now.classes) before
  is = c.end_holds.ensures ∙ ap (λ (us : List ℕ). each_listed open_slot (λ s. end_hold c.args.values.now.classes) us before) c.deref.ensures.value ∙ end_all c.args.values.now.classes c.self.inside.holding.items before c.self.invariant.1

pub invariant_of-self : goal.invariant_of-self
invariant_of-self c = (
  subst (OnlyFilled c.self.inside.filled.items) (sym (is c)) (end_filled c.args.values.now.classes c.self.inside.filled.items (before c) c.self.invariant.0),
  subst (λ (us : List ℕ). OnlyHolding us c.end_holds.new.slots.items) (sym c.clear.ensures.items) (subst (OnlyHolding []) (sym (is c)) (end_none c.args.values.now.classes (before c))),
  subst (OnlyKeepers c.new.result) (sym (is c)) (end_keepers c.args.values.now.classes c.new.result (before c)),
)

pub returns : goal.returns
returns c = is c ∙ ap (map (end_hold c.args.values.now.classes)) c.self.view_is
