use Rattle.std.proofs.Common.{◌∙◌, ap, sym, subst, slice_set, List, ℕ}
use Rattle.std.proofs.lemmas.Result.{on_ok_weaker}
use Rattle.fact_tables.specs.declared.known.SlotFact.{SlotFact}
use Rattle.fact_tables.specs.SlotRows.{OnlyFilled, OnlyHolding, with_filled}
use Rattle.fact_tables.proofs.Keepers.{more_holding, more_keepers, set_keepers}
use Rattle.fact_tables.proofs.SlotLists.{more_filled, set_filled, set_holding}
use Rattle.fact_tables.proofs.slot_sweeps.record_one.Goals as goal

pub returns-in_err-record_holding-clause-kept : goal.returns-in_err-record_holding-clause-kept
returns-in_err-record_holding-clause-kept c = λ recorded. (
  subst (λ (us : List ℕ). OnlyFilled us c.args.slots.now) (sym c.in_ok-record_filled.ensures.ok) (more_filled c.args.at c.slot_at-before.result c.args.filled.now.items c.args.slots.now recorded.0),
  subst (λ (us : List ℕ). OnlyHolding us c.args.slots.now) (sym c.in_err-record_holding.ensures.err) recorded.1,
  recorded.2,
)

pub returns-clause-kept : goal.returns-clause-kept
returns-clause-kept c = λ recorded. (
  subst (λ (us : List ℕ). OnlyFilled us c.args.slots.now) (sym c.in_ok-record_filled.ensures.ok) (more_filled c.args.at c.slot_at-before.result c.args.filled.now.items c.args.slots.now recorded.0),
  subst (λ (us : List ℕ). OnlyHolding us c.args.slots.now) (sym c.in_ok-record_holding.ensures.ok) (more_holding c.args.at c.args.after.now.holds c.args.holding.now.items c.args.slots.now recorded.1),
  more_keepers c.args.keepers.now c.record_keeper.new.keepers c.args.slots.now c.record_keeper.ensures.kept recorded.2,
)

pub returns-clause-recorded : goal.returns-clause-recorded
returns-clause-recorded c = on_ok_weaker c.record_keeper.result
    (λ there recorded. (
      subst (λ (us : List ℕ). OnlyFilled us (slice_set c.args.slots.now c.args.at c.args.after.now)) (sym (c.in_ok-record_filled.ensures.ok ∙ ap (λ (slot : SlotFact). with_filled c.args.at slot c.args.filled.now.items) c.slot_at-before.ensures)) (set_filled c.args.at c.args.after.now c.args.slots.now c.args.filled.now.items recorded.0),
      subst (λ (us : List ℕ). OnlyHolding us (slice_set c.args.slots.now c.args.at c.args.after.now)) (sym c.in_ok-record_holding.ensures.ok) (set_holding c.args.at c.args.after.now c.args.slots.now c.args.holding.now.items recorded.1),
      set_keepers c.record_keeper.new.keepers c.args.at c.args.after.now c.args.slots.now there (more_keepers c.args.keepers.now c.record_keeper.new.keepers c.args.slots.now c.record_keeper.ensures.kept recorded.2),
    )) c.record_keeper.ensures.recorded
