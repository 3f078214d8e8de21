-- A world whose newest steps are recorded.
use Rattle.std.specs.Prelude.{◌≡◌, List}
use Rattle.layout.specs.Layouts.{LaidOut}
use Rattle.moves.specs.declared.actor.Actor.{Actor}
use Rattle.trace_text.specs.declared.trace.Setup.{Setup}
use Rattle.replay.specs.Worlds.{IsAfter}
use Rattle.step_log.specs.declared.recording.Recorder.{Recorder}
use Rattle.step_log.specs.Steps.{AreSteps}

-- the world is the one after these actors, and the steps of those after the first ones are recorded
pub record IsRecorded (p : LaidOut) (setup : Setup) (first before : List Actor) (r : Recorder) : Type 0 where
  pub program : r.world.program ≡ p
  pub setup_is : r.world.setup ≡ setup
  pub afterwards : IsAfter r.world before
  pub steps : AreSteps p setup first before r.steps
