use Rattle.std.proofs.Common.{take, reverse}
use Rattle.replay.specs.Lists.{actors_of}
use Rattle.replay.specs.Watched.{IsWatched}
use Rattle.replay.proofs.replaying.replay.Given as goal

abbrev pub invariant-loop-steps : goal.invariant-loop-steps
invariant-loop-steps l = IsWatched l.program l.trace.setup (reverse (actors_of (take l.steps-index l.trace.steps))) l.watch
