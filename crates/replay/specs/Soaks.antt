-- The outcome of many seeded schedules of a setup.
use Rattle.std.specs.Prelude.{ℕ, ◌≢◌, ◌<◌, ◌≤◌, ◌==◌, Bool, true, false, Option, Some, None, Result, Ok, Err, List, length, map, if◌then◌else◌}
use Rattle.replay.specs.Draws.{drawn}
use Rattle.replay.specs.DrawnValues.{setup_of_seed}
use Rattle.layout.specs.Layouts.{LaidOut}
use Rattle.trace_text.specs.declared.trace.Setup.{Setup}
use Rattle.moves.specs.declared.actor.Actor.{Actor}
use Rattle.moves.specs.declared.actor.Actor.TheVariants.{Thread, Collector}
use Rattle.replay.specs.declared.outcome.Break.{Break}
use Rattle.program_runner.specs.Setups.{IsSetupFault}
use Rattle.program_runner.specs.declared.setup_fault.SetupFault.{SetupFault}
use Rattle.program_runner.specs.declared.setup_fault.SetupFault.TheVariants.{Memory}
use Rattle.replay.specs.declared.outcome.SeedBreak.{SeedBreak}
use Rattle.replay.specs.declared.outcome.SoakOutcome.{SoakOutcome}
use Rattle.replay.specs.declared.outcome.SoakOutcome.TheVariants.{Broken, Sound}
use Rattle.replay.specs.Lists.{IsSoundList, IsFirstBreak}

-- a number from 0 to the count of threads, as an actor: the count itself means the collector
abbrev pub actor_drawn : (threads draw : ℕ) → Actor
actor_drawn threads draw = if draw == threads then Collector else Thread draw

-- the actors of the first n steps of a seed
abbrev pub actors_drawn : (threads seed steps : ℕ) → List Actor
actors_drawn threads seed steps = map (actor_drawn threads) (drawn threads seed steps)

-- the list that a seed draws is sound, where the run of each seed begins with a setup of its own
abbrev pub IsSoundSeed : LaidOut → (begins : ℕ → Setup) → (steps seed : ℕ) → Type 0
IsSoundSeed p begins steps seed = IsSoundList p (begins seed) (actors_drawn (length (begins seed).starts) seed steps)

-- so is that of each seed from the first one to one past the last
abbrev pub AreSoundFrom : LaidOut → (begins : ℕ → Setup) → (steps first past : ℕ) → Type 0
AreSoundFrom p begins steps first past = (seed : ℕ) → first ≤ seed → seed < past → IsSoundSeed p begins steps seed

-- the list that a seed draws breaks its run so
abbrev pub IsBreakOfSeed : LaidOut → (begins : ℕ → Setup) → (steps seed : ℕ) → Break → Type 0
IsBreakOfSeed p begins steps seed b = IsFirstBreak p (begins seed) (actors_drawn (length (begins seed).starts) seed steps) b

-- the least seed from the first one on whose list breaks its run, with the break
pub record IsLeastBreak (p : LaidOut) (begins : ℕ → Setup) (first past steps : ℕ) (b : SeedBreak) : Type 0 where
  pub is_seed : (first ≤ b.seed) × (b.seed < past)
  pub before : AreSoundFrom p begins steps first b.seed
  pub breaks : IsBreakOfSeed p begins steps b.seed b.broken

-- of the seeds from the first one to one past the last: the least one whose list breaks its run, or that there is none
abbrev pub IsSoakOutcome : LaidOut → (begins : ℕ → Setup) → (first past steps : ℕ) → SoakOutcome → Type 0
IsSoakOutcome p begins first past steps (Broken b) = IsLeastBreak p begins first past steps b
IsSoakOutcome p begins first past steps Sound = AreSoundFrom p begins steps first past

-- no seed's list breaks its run
abbrev pub IsSoundSoak : SoakOutcome → Type 0
IsSoundSoak Sound = Unit {0}
IsSoundSoak (Broken b) = ⊥

-- the outcome of one seed: where its list first breaks its run, or that it is sound
abbrev pub IsEndOfSeed : LaidOut → (begins : ℕ → Setup) → (steps seed : ℕ) → Option Break → Type 0
IsEndOfSeed p begins steps seed None = IsSoundSeed p begins steps seed
IsEndOfSeed p begins steps seed (Some b) = IsBreakOfSeed p begins steps seed b

-- what was told of a seed, with or without drawn numbers, is its outcome, or a fault
abbrev pub IsTold : LaidOut → Setup → (drawn : Bool) → (steps seed : ℕ) → Result (Option Break) SetupFault → Type 0
IsTold p setup drawn steps seed (Ok end) = IsEndOfSeed p (setup_of_seed drawn p setup) steps seed end
IsTold p setup drawn steps seed (Err fault) = fault ≢ Memory → IsSetupFault p setup fault

-- it says that the seed's list is sound
abbrev pub is_sound : Result (Option Break) SetupFault → Bool
is_sound (Ok None) = true
is_sound _ = false

-- the seed with its break, if there is one, or the fault
abbrev pub answer_in : (seed : ℕ) → Result (Option Break) SetupFault → Result (Option SeedBreak) SetupFault
answer_in seed (Ok None) = Ok None
answer_in seed (Ok (Some b)) = Ok (Some (record { seed = seed; broken = b }))
answer_in seed (Err fault) = Err fault

-- of the seeds from the first one to one past the last: the least one whose list breaks its run, if there is one
abbrev pub IsLeastFrom : LaidOut → (begins : ℕ → Setup) → (steps first past : ℕ) → Option SeedBreak → Type 0
IsLeastFrom p begins steps first past None = AreSoundFrom p begins steps first past
IsLeastFrom p begins steps first past (Some b) =
    (first ≤ b.seed) × (b.seed < past) × AreSoundFrom p begins steps first b.seed × IsBreakOfSeed p begins steps b.seed b.broken
