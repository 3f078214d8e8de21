-- The steps of a run, in their order, as a log has them.
use Rattle.std.specs.Prelude.{◌≡◌, List, [], ◌∷◌, ◌++◌, Option, Some, None}
use Rattle.layout.specs.Layouts.{LaidOut}
use Rattle.moves.specs.declared.actor.Actor.{Actor}
use Rattle.program_runner.specs.Setups.{starts_of}
use Rattle.stepping.specs.Ends.{IsStepOrNone}
use Rattle.stepping.specs.declared.happening.Happening.{Happening}
use Rattle.stepping.specs.declared.happening.MadeStep.{MadeStep}
use Rattle.trace_text.specs.declared.trace.Setup.{Setup}
use Rattle.replay.specs.Runs.{heap_of, program_machine}
use Rattle.replay.specs.Worlds.{run_of}
use Rattle.step_log.specs.declared.log.LogStep.{LogStep}

-- what a step did, if one was made
abbrev pub happening_of : Option MadeStep → Option Happening
happening_of None = None
happening_of (Some made) = Some made.happening

-- actors, the newest one first, that begin with these first ones: the log has a step for each of the others, in order: what it made after the run of those before it
pub data AreSteps (p : LaidOut) (setup : Setup) (first : List Actor) : (actors : List Actor) → List LogStep → Type 0 where
  NoStep : AreSteps p setup first first []
  Further :
      (before : List Actor) (steps : List LogStep) (step : LogStep) (made : Option MadeStep) → AreSteps p setup first before steps
      → IsStepOrNone (heap_of p setup) program_machine (starts_of p setup) (run_of p setup before) step.actor made → step.happening ≡ happening_of made
      → AreSteps p setup first (step.actor ∷ before) (steps ++ step ∷ [])
