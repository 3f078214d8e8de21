use Rattle.std.proofs.Common.{List, ◌++◌, replicate}
use Rattle.layout.specs.Layouts.{LaidOut}
use Rattle.trace_text.specs.declared.trace.Setup.{Setup as ASetup}
use Rattle.moves.specs.declared.actor.Actor.{Actor as AnActor}
use Rattle.replay.specs.Watched.{IsWatched}
use Rattle.replay.proofs.watch.Watch.steps.Given as goal

abbrev pub invariant-loop-step : goal.invariant-loop-step
invariant-loop-step l = (p : LaidOut) (setup : ASetup) (before : List AnActor) → IsWatched p setup before l.fn.self → IsWatched p setup (replicate l._step l.actor ++ before) l.self
