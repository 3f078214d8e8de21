use Rattle.std.proofs.Common.{arith}
use Rattle.std.proofs.lemmas.Grind.{common_steps}
use Rattle.pools.specs.Heap.{is_late}
use Rattle.run_words.proofs.opening.stage_at_start.Goals as goal

pub returns-then-unwrap_or : goal.returns-then-unwrap_or
unfolding is_late
returns-then-unwrap_or c = grind (arith, common_steps)

pub returns-else-unwrap_or : goal.returns-else-unwrap_or
unfolding is_late
returns-else-unwrap_or c = grind (arith, common_steps)
