-- The outcome of a trace: the first step after which its run is broken, or where the actors are at its end.
use Rattle.std.specs.Prelude.{ℕ, ◌≡◌, ◌<◌, Bool, true, false, Some, List, length, reverse, slice_get, count_by}
use Rattle.colours.specs.declared.place.Place.TheVariants.{Posted}
use Rattle.colours.specs.declared.turn.Turn.TheVariants.{Free}
use Rattle.colours.specs.Runs.{word_after}
use Rattle.runs.specs.Moves.{Claims}
use Rattle.runs.specs.ModuleRuns.{Happening, OfThread, OfCollector, heap_of as events_of}
use Rattle.layout.specs.Layouts.{LaidOut}
use Rattle.replay.specs.Runs.{heap_of}
use Rattle.trace_text.specs.declared.trace.Setup.{Setup}
use Rattle.trace_text.specs.declared.trace.Trace.{Trace}
use Rattle.moves.specs.declared.actor.Actor.{Actor}
use Rattle.replay.specs.Worlds.{run_of}
use Rattle.replay.specs.ThreadEnds.{end_of}
use Rattle.replay.specs.declared.outcome.Outcome.{Outcome}
use Rattle.replay.specs.declared.outcome.Outcome.TheVariants.{Broken, Sound}
use Rattle.replay.specs.declared.outcome.Report.{Report}
use Rattle.replay.specs.Lists.{actors_of, IsFirstBreak, IsSoundList}

-- ---- sound

-- the happening claims a cell
abbrev pub claims : Happening → Bool
claims (OfThread t (Claims r won)) = won
claims happening = false

-- the happening frees a cell
abbrev pub frees : Happening → Bool
frees (OfCollector (Free cell)) = true
frees happening = false

-- where the actors are after these, the newest first
pub record Reports (p : LaidOut) (setup : Setup) (before : List Actor) (r : Report) : Type 0 where
  pub one_each : length r.threads ≡ length setup.starts
  pub threads : (t : ℕ) → t < length setup.starts → slice_get r.threads t ≡ Some (end_of p setup (run_of p setup before) t)
  pub steps_are : r.steps ≡ length before
  pub claims_are : r.claims ≡ count_by claims (run_of p setup before)
  pub frees_are : r.frees ≡ count_by frees (run_of p setup before)
  pub posted_is : r.posted ≡ word_after (heap_of p setup) (events_of (run_of p setup before)) Posted

-- ---- the outcome

-- of a list of actors: its first step after which the run is broken, or that there is none, and where the actors are at the end
abbrev pub IsOutcomeOf : LaidOut → Setup → List Actor → Outcome → Type 0
IsOutcomeOf p setup actors (Broken b) = IsFirstBreak p setup actors b
IsOutcomeOf p setup actors (Sound r) = IsSoundList p setup actors × Reports p setup (reverse actors) r

-- of a trace
abbrev pub IsOutcome : LaidOut → Trace → Outcome → Type 0
IsOutcome p trace outcome = IsOutcomeOf p trace.setup (actors_of trace.steps) outcome

-- the outcome says that no step is broken
abbrev pub IsSound : Outcome → Type 0
IsSound (Broken b) = ⊥
IsSound (Sound r) = Unit {0}
