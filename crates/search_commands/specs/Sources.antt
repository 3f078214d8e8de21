-- What comes of the seeds of a search, by where their schedules come from.
use Rattle.std.specs.Prelude.{◌≡◌, ◌<◌, ◌≤◌, ◌+◌, min, ℕ, Bool, Option, None, Some}
use Rattle.layout.specs.Layouts.{LaidOut}
use Rattle.command_line.specs.declared.options.Draws.{Draws}
use Rattle.command_line.specs.declared.options.Draws.TheVariants.{Uniform, Biased}
use Rattle.command_line.specs.declared.options.Search.{Search}
use Rattle.trace_text.specs.Traces.{IsTraceOf}
use Rattle.trace_text.specs.declared.trace.Setup.{Setup}
use Rattle.trace_text.specs.declared.trace.Trace.{Trace}
use Rattle.program_runner.specs.Setups.{HasNoFault, IsSetupFault}
use Rattle.program_runner.specs.declared.setup_fault.SetupFault.{SetupFault}
use Rattle.replay.specs.DrawnValues.{setup_of_seed}
use Rattle.replay.specs.Soaks.{AreSoundFrom, IsLeastBreak}
use Rattle.replay.specs.declared.outcome.SeedBreak.{SeedBreak}
use Rattle.replay.specs.declared.soaking.Schedules.{Schedules}
use Rattle.hunting.specs.Hunts.{IsBrokenIn}
use Rattle.hunting.specs.Shorter.{IsBreaking}
use Rattle.hunting.specs.declared.biased_searching.BrokenSeed.{BrokenSeed}
use Rattle.reports.specs.declared.files.Traced.{Traced}
use Rattle.search_commands.specs.declared.sources.Searched.{Searched}
use Rattle.search_commands.specs.declared.sources.Searched.TheVariants.{SoundBelow, BrokenAt, Found}
use Rattle.search_commands.specs.declared.sources.Source.{Source}
use Rattle.search_commands.specs.declared.sources.Source.TheVariants.{Soak, Hunt}

-- ---- which seeds

-- one past the last seed of a search; there is no seed past the numbers of 32 bits, and none is the greatest of these
abbrev pub past_seed : Search → ℕ
past_seed search = min (search.first + search.seeds) 4294967295

-- the seeds of a search from its first one to below this one are all of them; or they are fewer, where it ends after a time
pub record AreTried (search : Search) (past : ℕ) : Type 0 where
  pub from : search.first ≤ past
  pub within : past ≤ past_seed search
  pub all : search.seconds ≡ None → past ≡ past_seed search

-- ---- from the start of a trace

-- from what the run of each seed begins: as the trace, or with numbers from outside that the seed draws
abbrev pub begins_of : (drawn : Bool) → Traced → (seed : ℕ) → Setup
begins_of drawn traced = setup_of_seed drawn traced.program traced.trace.setup

-- no schedule of the seeds from the first one to below the last breaks its run; of draws with few switches nothing is said
abbrev pub AreSoundBy : Draws → LaidOut → (begins : ℕ → Setup) → (steps first past : ℕ) → Type 0
AreSoundBy Uniform p begins steps first past = AreSoundFrom p begins steps first past
AreSoundBy Biased p begins steps first past = Unit {0}

-- the seed with its break
abbrev pub seed_break : BrokenSeed → SeedBreak
seed_break broken = record { seed = broken.seed; broken = broken.found.broken }

-- one of these seeds drew the trace, which begins as the seed's run and breaks its run at its last step
pub record IsFound (first past : ℕ) (p : LaidOut) (begins : ℕ → Setup) (at : SeedBreak) (trace : Trace) : Type 0 where
  pub low : first ≤ at.seed
  pub high : at.seed < past
  pub starts : trace.setup ≡ begins at.seed
  pub breaking : IsBreaking p trace at.broken

-- one of these seeds is broken: by uniform draws the least whose schedule breaks its run, with few switches one that was replayed
abbrev pub IsBreakBy : Draws → LaidOut → (begins : ℕ → Setup) → (steps first past : ℕ) → Searched → Type 0
IsBreakBy Uniform p begins steps first past (BrokenAt at) = IsLeastBreak p begins first past steps at
IsBreakBy Biased p begins steps first past (Found broken) = IsFound first past p begins (seed_break broken) broken.found.trace
IsBreakBy _ p begins steps first past _ = ⊥

-- what comes of some seeds: a broken one, or that none is
abbrev pub IsSoakTried : Draws → Traced → Schedules → Option Searched → Type 0
IsSoakTried draws traced seeds None = AreSoundBy draws traced.program (begins_of seeds.drawn_values traced) seeds.steps seeds.first seeds.past
IsSoakTried draws traced seeds (Some broken) = IsBreakBy draws traced.program (begins_of seeds.drawn_values traced) seeds.steps seeds.first seeds.past broken

-- what comes of the seeds of a search: those below one that were tried and are sound, or a broken one
abbrev pub IsSoaked : Draws → Search → Traced → Searched → Type 0
IsSoaked draws search traced (SoundBelow past) = AreTried search past × AreSoundBy draws traced.program (begins_of search.drawn_values traced) search.steps search.first past
IsSoaked draws search traced broken = IsBreakBy draws traced.program (begins_of search.drawn_values traced) search.steps search.first (past_seed search) broken

-- ---- from starts that are drawn too

-- one of these seeds is broken, by a trace whose last step is the first that breaks its run. Where nothing is found, nothing is said but how far the seeds were tried
abbrev pub IsHuntEnd : LaidOut → (first past : ℕ) → Searched → Type 0
IsHuntEnd p first past (SoundBelow next) = (first ≤ next) × (next ≤ past)
IsHuntEnd p first past (BrokenAt at) = ⊥
IsHuntEnd p first past (Found broken) = IsBrokenIn p first past broken

-- what comes of some seeds: with what the search is over, if it is
abbrev pub IsHuntTried : LaidOut → Schedules → Option Searched → Type 0
IsHuntTried p seeds None = Unit {0}
IsHuntTried p seeds (Some searched) = IsHuntEnd p seeds.first seeds.past searched

-- ---- from any source

-- a trace is one of its program
abbrev pub Fits : Source → Type 0
Fits (Soak traced draws) = IsTraceOf traced.now.program traced.now.trace
Fits (Hunt of) = Unit {0}

-- the threads of a trace may begin
abbrev pub MayBegin : Source → Type 0
MayBegin (Soak traced draws) = HasNoFault traced.now.program traced.now.trace.setup
MayBegin (Hunt of) = Unit {0}

-- the first thread of a trace that may not begin
abbrev pub IsFaultOf : Source → SetupFault → Type 0
IsFaultOf (Soak traced draws) fault = IsSetupFault traced.now.program traced.now.trace.setup fault
IsFaultOf (Hunt of) fault = ⊥

-- no schedule of the seeds from the first one to below the last breaks its run, where that is said
abbrev pub AreSound : Source → (drawn : Bool) → (steps first past : ℕ) → Type 0
AreSound (Soak traced draws) drawn steps first past = AreSoundBy draws traced.now.program (begins_of drawn traced.now) steps first past
AreSound (Hunt of) drawn steps first past = Unit {0}

-- what comes of some seeds
abbrev pub IsTried : Source → Schedules → Option Searched → Type 0
IsTried (Soak traced draws) seeds tried = IsSoakTried draws traced.now seeds tried
IsTried (Hunt of) seeds tried = IsHuntTried of.program.now seeds tried

-- what comes of the seeds of a search
abbrev pub IsSearched : Source → Search → Searched → Type 0
IsSearched (Soak traced draws) search searched = IsSoaked draws search traced.now searched
IsSearched (Hunt of) search searched = IsHuntEnd of.program.now search.first (past_seed search) searched
