use Rattle.std.proofs.Common.{◌≡◌, ◌∙◌, ap, sym, subst, List, ℕ, slice_set}
use Rattle.fact_tables.specs.declared.known.SlotFact.{SlotFact}
use Rattle.fact_tables.specs.Rows.{slot_at}
use Rattle.fact_tables.specs.SlotRows.{AreRecorded, let_go_others}
use Rattle.fact_tables.proofs.Keepers.{last_let_go, others_keepers}
use Rattle.fact_tables.proofs.SlotLists.{others_filled, others_holding}
use Rattle.fact_tables.proofs.slot_rows.SlotRows.let_go_others.Goals as goal

module _ (c : goal.After-write) where
  abbrev before : List SlotFact
  before = c.self.inside.slots.items

  is : c.write.new.slots.items ≡ let_go_others c.args.s c.args.last.now c.args.nonnull before
  is = c.write.ensures ∙ ap (λ (at : ℕ). slice_set c.let_go_last.new.slots.items at c.slot_at-kept.result) c.number-at.ensures
      ∙ ap (slice_set c.let_go_last.new.slots.items c.args.s) (c.slot_at-kept.ensures ∙ ap (λ (slots : List SlotFact). slot_at slots c.number-at.result) c.deref.ensures.value ∙ ap (slot_at before) c.number-at.ensures)
      ∙ ap (λ (slots : List SlotFact). slice_set slots c.args.s (slot_at before c.args.s)) (c.let_go_last.ensures ∙ last_let_go c.self.inside.keepers before c.self.invariant.2 c.args.last.now c.args.nonnull)

pub invariant_of-self : goal.invariant_of-self
invariant_of-self c = subst (AreRecorded c.self.inside.filled.items c.self.inside.holding.items c.self.inside.keepers) (sym (is c)) (
  others_filled c.args.s c.args.last.now c.args.nonnull (before c) c.self.inside.filled.items c.self.invariant.0,
  others_holding c.args.s c.args.last.now c.args.nonnull (before c) c.self.inside.holding.items c.self.invariant.1,
  others_keepers c.self.inside.keepers (before c) c.self.invariant.2 c.args.s c.args.last.now c.args.nonnull,
)

pub returns : goal.returns
returns c = is c ∙ ap (let_go_others c.args.s c.args.last.now c.args.nonnull) c.self.view_is
