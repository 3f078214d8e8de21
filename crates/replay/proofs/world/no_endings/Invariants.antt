use Rattle.std.proofs.Common.{◌≡◌, length}
use Rattle.replay.proofs.world.no_endings.Given as goal

-- something is kept of n threads
abbrev pub invariant-loop-thread : goal.invariant-loop-thread
invariant-loop-thread l = length l.endings ≡ l.thread
