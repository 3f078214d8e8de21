-- A world after some actors, whose run was never broken so far, with what was counted on the way.
use Rattle.std.specs.Prelude.{ℕ, ◌≡◌, ◌<◌, ◌+◌, ◌^◌, Bool, true, false, Option, Some, None, List, [], ◌∷◌, ◌++◌, length, reverse, count_by}
use Rattle.layout.specs.Layouts.{LaidOut}
use Rattle.runs.specs.Broken.{IsBroken, IsCause}
use Rattle.replay.specs.Runs.{program_machine, heap_of}
use Rattle.trace_text.specs.declared.trace.Setup.{Setup}
use Rattle.moves.specs.declared.actor.Actor.{Actor}
use Rattle.program_runner.specs.Setups.{starts_of}
use Rattle.replay.specs.Worlds.{run_of, IsAfter}
use Rattle.replay.specs.declared.outcome.Break.{Break}
use Rattle.moves.specs.declared.moves.Move.TheVariants.{Claims}
use Rattle.colours.specs.declared.turn.Turn.TheVariants.{Free}
use Rattle.stepping.specs.declared.happening.Happening.{Happening}
use Rattle.stepping.specs.declared.happening.Happening.TheVariants.{Thread, Collector}
use Rattle.stepping.specs.declared.happening.MadeStep.{MadeStep}
use Rattle.stepping.specs.Covers.{IsCovered}
use Rattle.stepping.specs.Ends.{IsStepOrNone}
use Rattle.replay.specs.declared.outcome.BreakCause.{BreakCause}
use Rattle.replay.specs.declared.watch.Watch.{Watch}
use Rattle.replay.specs.Lists.{IsFirstBreak, cause_in}
use Rattle.replay.specs.Outcomes.{claims, frees}

-- the run that these actors make, the newest first, is not broken, nor was it after any of them
abbrev pub IsUnbroken : LaidOut → Setup → List Actor → Type 0
IsUnbroken p setup [] = ¬ IsBroken (heap_of p setup) program_machine (starts_of p setup) (run_of p setup [])
IsUnbroken p setup (actor ∷ before) = ¬ IsBroken (heap_of p setup) program_machine (starts_of p setup) (run_of p setup (actor ∷ before)) × IsUnbroken p setup before

-- the world is the one after these actors, the newest first
pub record IsWatched (p : LaidOut) (setup : Setup) (before : List Actor) (w : Watch) : Type 0 where
  pub program : w.world.program ≡ p
  pub setup_is : w.world.setup ≡ setup
  pub afterwards : IsAfter w.world before
  pub unbroken : IsUnbroken p setup before
  pub steps : w.steps ≡ length before
  pub claims_are : w.claims ≡ count_by claims (run_of p setup before)
  pub frees_are : w.frees ≡ count_by frees (run_of p setup before)
  pub covered : IsCovered (heap_of p setup) program_machine (starts_of p setup) (run_of p setup before) w.cover

-- these actors made their steps after others: the first of them whose step breaks the run, or where there is none, the world after all of them
abbrev pub IsWatchedOn : LaidOut → Setup → (before actors : List Actor) → Watch → Option Break → Type 0
IsWatchedOn p setup before actors w None = IsWatched p setup (reverse actors ++ before) w
IsWatchedOn p setup before actors w (Some b) = (rest : List Actor) → IsFirstBreak p setup (reverse before ++ (actors ++ rest)) b

-- it is the world after some actors, and n more steps can be counted
abbrev pub HasRoomFor : (steps : ℕ) → Watch → Type 0
HasRoomFor steps w = (p : LaidOut) × (setup : Setup) × (before : List Actor) × IsWatched p setup before w × (length before + steps < 2 ^ 63)

-- ---- one step

-- what was made claims a cell
abbrev pub claims_made : Happening → Bool
claims_made (Thread t (Claims r won)) = won
claims_made happening = false

-- it frees a cell
abbrev pub frees_made : Happening → Bool
frees_made (Collector (Free cell)) = true
frees_made happening = false

-- the step claims a cell, if there was one
abbrev pub claims_cell : Option MadeStep → Bool
claims_cell None = false
claims_cell (Some step) = claims_made step.happening

-- it frees a cell
abbrev pub frees_cell : Option MadeStep → Bool
frees_cell None = false
frees_cell (Some step) = frees_made step.happening

-- the first cause by which the run of these actors is broken, the newest first, if it is
abbrev pub IsCauseAfter : LaidOut → Setup → List Actor → Option BreakCause → Type 0
IsCauseAfter p setup actors None = ¬ IsBroken (heap_of p setup) program_machine (starts_of p setup) (run_of p setup actors)
IsCauseAfter p setup actors (Some c) = IsCause (heap_of p setup) program_machine (starts_of p setup) (run_of p setup actors) (cause_in c)

-- the world is the one after one more actor, whose step is not counted so far
pub record IsStepped (p : LaidOut) (setup : Setup) (before : List Actor) (actor : Actor) (made : Option MadeStep) (w : Watch) : Type 0 where
  pub program : w.world.program ≡ p
  pub setup_is : w.world.setup ≡ setup
  pub made_is : IsStepOrNone (heap_of p setup) program_machine (starts_of p setup) (run_of p setup before) actor made
  pub afterwards : IsAfter w.world (actor ∷ before)
  pub unbroken : IsUnbroken p setup before
  pub steps : w.steps ≡ length before
  pub claims_are : w.claims ≡ count_by claims (run_of p setup before)
  pub frees_are : w.frees ≡ count_by frees (run_of p setup before)
  pub covered : IsCovered (heap_of p setup) program_machine (starts_of p setup) (run_of p setup before) w.cover
