use Rattle.std.proofs.Common.{drop}
use Rattle.fact_tables.proofs.Keepers.{AreKeepers}
use Rattle.fact_tables.proofs.slot_sweeps.keepers_of.Given as goal

abbrev pub invariant-loop-s : goal.invariant-loop-s
invariant-loop-s l = AreKeepers (drop l.s-index l.holding) l.holding l.keepers l.slots
