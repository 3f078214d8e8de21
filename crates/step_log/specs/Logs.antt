-- The run of a trace, and the newest of its steps.
use Rattle.std.specs.Prelude.{◌≡◌, ℕ, List}
use Rattle.layout.specs.Layouts.{LaidOut}
use Rattle.moves.specs.declared.actor.Actor.{Actor}
use Rattle.trace_text.specs.declared.trace.Setup.{Setup}
use Rattle.replay.specs.Worlds.{World, IsAfter}
use Rattle.step_log.specs.declared.log.LogStep.{LogStep}

-- the world, the steps that are logged and how many come before them, and the actors of the steps that are still to be made
pub record Log : Type 0 where
  pub world : World
  pub before : ℕ
  pub steps : List LogStep
  pub left : List Actor

-- the run has made the steps of these actors, the newest one first
pub record IsAt (p : LaidOut) (setup : Setup) (before : List Actor) (log : Log) : Type 0 where
  pub program : log.world.program ≡ p
  pub setup_is : log.world.setup ≡ setup
  pub afterwards : IsAfter log.world before
