use Rattle.std.proofs.Common.{ℕ, ◌<◌}
use Rattle.lemmas.specs.Lists.{IsIn}
use Rattle.fact_tables.proofs.slot_sweeps.all_below.Given as goal

abbrev pub invariant-loop-at : goal.invariant-loop-at
invariant-loop-at l = (s : ℕ) → s < l.at → IsIn s l.names.items
