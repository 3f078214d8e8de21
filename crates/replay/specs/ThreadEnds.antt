-- Where the threads of a run are.
use Rattle.std.specs.Prelude.{ℕ, ◌≡◌, ◌<◌, Some, List, length, slice_get}
use Rattle.colours.specs.Mutator.{Phase, Ended, Absent, Arriving, Entering, Leaving, stage_of, phase_of}
use Rattle.runs.specs.Moves.{steps_of}
use Rattle.runs.specs.ModuleRuns.{Happening, share_of}
use Rattle.layout.specs.Layouts.{LaidOut}
use Rattle.program_runner.specs.Heaps.{heap_of}
use Rattle.trace_text.specs.declared.trace.Setup.{Setup}
use Rattle.moves.specs.declared.actor.Actor.{Actor}
use Rattle.replay.specs.declared.thread_outcome.ThreadOutcome.{ThreadOutcome}
use Rattle.replay.specs.declared.thread_outcome.ThreadOutcome.TheVariants as thread
use Rattle.program_runner.specs.Setups.{starts_of}
use Rattle.replay.specs.Worlds.{World, run_of, ending_of}

-- where a thread in this phase is, at this stage, and how it ended if it has
abbrev pub end_in : Phase → (stage : ℕ) → (ending : ThreadOutcome) → ThreadOutcome
end_in Ended stage ending = ending
end_in Absent stage ending = thread.Absent
end_in (Arriving posted) stage ending = thread.Absent
end_in Entering stage ending = thread.Absent
end_in Leaving stage ending = thread.Absent
end_in phase stage ending = thread.Running stage

-- where a thread is after a run
abbrev pub end_of : LaidOut → Setup → List Happening → (thread : ℕ) → ThreadOutcome
end_of p setup run t =
    let s = heap_of p setup in
    let share = share_of t run in
    end_in (phase_of s t (steps_of share)) (stage_of (steps_of share)) (ending_of s t (starts_of p setup t) share)

-- where the threads of a run are
pub record AreEndsAfter (p : LaidOut) (setup : Setup) (run : List Happening) (ends : List ThreadOutcome) : Type 0 where
  pub one_each : length ends ≡ length setup.starts
  pub each : (t : ℕ) → t < length setup.starts → slice_get ends t ≡ Some (end_of p setup run t)

-- and of a world after these actors
abbrev pub AreEndsOf : World → (before : List Actor) → List ThreadOutcome → Type 0
AreEndsOf w before ends = AreEndsAfter w.program w.setup (run_of w.program w.setup before) ends
