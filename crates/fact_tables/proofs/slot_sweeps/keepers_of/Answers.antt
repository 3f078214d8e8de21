use Rattle.std.proofs.Common.{◌∙◌, ap, subst, List, ℕ}
use Rattle.std.proofs.lemmas.List.{drop_all}
use Rattle.fact_tables.specs.Rows.{holds}
use Rattle.fact_tables.proofs.Keepers.{AreKeepers, keepers_more, all_keepers}
use Rattle.fact_tables.proofs.slot_sweeps.keepers_of.Goals as goal

pub loop-s-preserved : goal.loop-s-preserved
loop-s-preserved c =
    keepers_more c.args.holding.now c.loop-s.s-index c.loop-s-test.true c.loop-s.keepers c.record_keeper.new.keepers c.args.slots.now c.record_keeper.ensures.kept (λ q h. c.in_ok-record_keeper.ensures.recorded q (ap (holds q) c.slot_at-slot.ensures ∙ h)) c.loop-s.invariant

pub returns : goal.returns
returns c = λ only. all_keepers c.args.holding.now c.loop-s.keepers c.args.slots.now
    (subst (λ (l : List ℕ). AreKeepers l c.args.holding.now c.loop-s.keepers c.args.slots.now) (drop_all c.loop-s.s-index c.args.holding.now c.loop-s-test.false) c.loop-s.invariant) only
