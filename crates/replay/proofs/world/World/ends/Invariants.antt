use Rattle.std.proofs.Common.{slice_get}
use Rattle.replay.specs.Keeping.{end_told}
use Rattle.replay.proofs.Told.{AreTold}
use Rattle.replay.proofs.world.World.ends.Given as goal

-- the ends of n threads were told
abbrev pub invariant-loop-thread : goal.invariant-loop-thread
invariant-loop-thread l = AreTold l.ends l.thread (λ k. end_told (slice_get l.self-inside.actors.threads.items k) (slice_get l.self-inside.endings k))
