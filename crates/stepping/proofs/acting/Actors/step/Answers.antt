-- The thread that makes the step is one of the threads.
use Rattle.std.proofs.Common.{subst}
use Rattle.moves.specs.declared.actor.Actor.{Actor}
use Rattle.moves.specs.Runs.{IsActor}
use Rattle.stepping.proofs.acting.Actors.step.Goals as goal

pub step_of_thread-requires : goal.step_of_thread-requires
step_of_thread-requires g c = let r = c.requires in (r.0, r.1, r.2, r.3, subst (λ (v : Actor). IsActor r.0.threads v) c.in-Thread.is r.4)
