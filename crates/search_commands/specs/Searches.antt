-- What `soak` and `hunt` say of their files, and what they save.
use Rattle.std.specs.Prelude.{◌≡◌, ◌≢◌, ◌==◌, ◌<◌, ◌≤◌, ◌+◌, ◌-◌, ◌/◌, if◌then◌else◌, ℕ, Bool, true, false, List, [], ◌∷◌, ◌++◌, codes, Option, Some, None}
use Rattle.std.specs.Fmt.{decimal}
use Rattle.ir_ast.specs.declared.module.Module.{Module}
use Rattle.layout.specs.Layouts.{LaidOut, AreLayouts}
use Rattle.certs.specs.declared.certs.Certs.{Certs}
use Rattle.module_check.specs.Accepted.{IsLayoutReason, shaped}
use Rattle.module_check.specs.declared.verdict.Reason.{Reason}
use Rattle.command_line.specs.declared.options.Draws.{Draws}
use Rattle.command_line.specs.declared.options.Draws.TheVariants.{Uniform, Biased}
use Rattle.command_line.specs.declared.options.HuntOptions.{HuntOptions}
use Rattle.command_line.specs.declared.options.Search.{Search}
use Rattle.command_line.specs.declared.options.Shrink.TheVariants.{AsDrawn, WithTries}
use Rattle.command_line.specs.declared.options.SoakOptions.{SoakOptions}
use Rattle.trace_text.specs.Print.{trace_shown}
use Rattle.trace_text.specs.declared.trace.Setup.{Setup}
use Rattle.trace_text.specs.declared.trace.Trace.{Trace}
use Rattle.program_runner.specs.Setups.{HasNoFault, IsSetupFault}
use Rattle.program_runner.specs.declared.setup_fault.SetupFault.{SetupFault}
use Rattle.program_runner.specs.declared.setup_fault.SetupFault.TheVariants as setup
use Rattle.replay.specs.DrawnValues.{setup_of_seed}
use Rattle.replay.specs.Soaks.{IsLeastBreak}
use Rattle.replay.specs.declared.outcome.Break.{Break}
use Rattle.replay.specs.declared.outcome.SeedBreak.{SeedBreak}
use Rattle.hunting.specs.Shorter.{IsBreaking, kind_of}
use Rattle.reports.specs.Files.{HasProgram, IsNoProgram, of_unread}
use Rattle.reports.specs.Report.{Answer, of_layout_reason, no_memory}
use Rattle.reports.specs.Said.{Said, OnOutput, OnError, OnBoth, OfCertified}
use Rattle.reports.specs.declared.files.File.{File}
use Rattle.reports.specs.declared.files.ModuleFile.{ModuleFile}
use Rattle.reports.specs.declared.files.Unread.{Unread}
use Rattle.reports.specs.Outcomes.{of_setup_fault, break_text}
use Rattle.search_commands.specs.Sources.{AreSoundBy, AreTried, IsFound, past_seed}

-- ---- traces that are saved

-- after these bytes comes this text, if that is wanted
abbrev pub IsAdded : (wanted : Bool) → (text before after : List ℕ) → Type 0
IsAdded true text before after = after ≡ before ++ text
IsAdded false text before after = after ≡ before

-- the break is that of the last step of some trace, and the first one of its run. Where that is wanted, the text of the trace is saved
pub record IsShorter (p : LaidOut) (wanted : Bool) (b : Break) (before after : List ℕ) : Type 0 where
  pub trace : Trace
  pub breaking : IsBreaking p trace b
  pub added : IsAdded wanted (trace_shown p trace) before after

-- so it is of a trace that begins with this setup
pub record IsDrawn (p : LaidOut) (setup : Setup) (wanted : Bool) (b : Break) (before after : List ℕ) : Type 0 where
  pub trace : Trace
  pub begins : trace.setup ≡ setup
  pub breaking : IsBreaking p trace b
  pub added : IsAdded wanted (trace_shown p trace) before after

-- the same where that is wanted; otherwise nothing is saved
abbrev pub IsDrawnIf : (wanted : Bool) → LaidOut → Setup → Break → (before after : List ℕ) → Type 0
IsDrawnIf true p setup b before after = IsDrawn p setup true b before after
IsDrawnIf false p setup b before after = after ≡ before

-- ---- soak

-- from what the run of a seed of a search begins: as the trace, or with the numbers that the seed draws too
abbrev pub begins_by : Search → LaidOut → Trace → (seed : ℕ) → Setup
begins_by search p t = setup_of_seed search.drawn_values p t.setup

-- the seeds of a search from the start of this trace have this break: by uniform draws it is that of the least one whose schedule breaks its
-- run, with few switches of one whose steps were replayed
abbrev pub IsBrokenBy : Draws → Search → LaidOut → Trace → SeedBreak → Type 0
IsBrokenBy Uniform search p t at = IsLeastBreak p (begins_by search p t) search.first (past_seed search) search.steps at
IsBrokenBy Biased search p t at = (trace : Trace) × IsFound search.first (past_seed search) p (begins_by search p t) at trace

-- so it is by the draws of the search
abbrev pub IsBroken : Search → LaidOut → Trace → SeedBreak → Type 0
IsBroken search p t at = IsBrokenBy search.draws search p t at

-- with what the line of a broken seed begins
abbrev pub seed_words : Draws → List ℕ
seed_words Uniform = codes "broken seed "
seed_words Biased = codes "broken biased seed "

-- the line of a seed whose schedule breaks its run
abbrev pub seed_text : Draws → SeedBreak → List ℕ
seed_text draws at = (seed_words draws ++ (decimal at.seed ++ codes " ")) ++ break_text at.broken

-- how seeds are called
abbrev pub seeds_word : Draws → List ℕ
seeds_word Uniform = codes "seeds"
seeds_word Biased = codes "biased seeds"

-- of that number of seeds none has a schedule that breaks its run; of draws with few switches, none that was replayed
abbrev pub of_sound : Draws → (seeds : ℕ) → Answer
of_sound draws seeds = record { text = codes "sound " ++ decimal seeds ++ codes " " ++ seeds_word draws ++ 10 ∷ []; status = 0 }

-- a seed whose schedule breaks its run, with the break
abbrev pub of_seed : Draws → SeedBreak → Answer
of_seed draws at = record { text = seed_text draws at; status = 1 }

-- how many traces were tried
abbrev pub tries_text : (tries : ℕ) → List ℕ
tries_text tries = codes "tries " ++ decimal tries ++ 10 ∷ []

-- the break of a shorter trace, and how many were tried
abbrev pub shorter_text : Break → (tries : ℕ) → List ℕ
shorter_text b tries = codes "shorter " ++ break_text b ++ tries_text tries

-- these lines after that of the seed
abbrev pub of_shorter : Draws → SeedBreak → Break → (tries : ℕ) → Answer
of_shorter draws at b tries = record { text = seed_text draws at ++ shorter_text b tries; status = 1 }

-- a broken seed with more steps than a trace may list
abbrev pub of_too_long : SeedBreak → Said
of_too_long at = OnBoth (of_seed Uniform at) (codes "error P3" ++ 10 ∷ [])

-- what `soak` says of the seeds of a search. Before and after it these bytes are saved
pub data OfSeeds (options : SoakOptions) (wanted : Bool) (p : LaidOut) (t : Trace) (before after : List ℕ) : Said → Type 0 where
  sound : (past : ℕ) → HasNoFault p t.setup → AreTried options.search past → AreSoundBy options.search.draws p (begins_by options.search p t) options.search.steps options.search.first past → after ≡ before
      → OfSeeds options wanted p t before after (OnOutput (of_sound options.search.draws (past - options.search.first)))
  broken : (at : SeedBreak) → options.shrink ≡ AsDrawn → HasNoFault p t.setup → IsBroken options.search p t at → IsDrawnIf wanted p (begins_by options.search p t at.seed) at.broken before after
      → OfSeeds options wanted p t before after (OnOutput (of_seed options.search.draws at))
  shortened : (at : SeedBreak) (b : Break) (limit tries : ℕ) → options.shrink ≡ WithTries limit → tries ≤ limit → HasNoFault p t.setup → IsBroken options.search p t at
      → kind_of b.cause ≡ kind_of at.broken.cause → IsShorter p wanted b before after → OfSeeds options wanted p t before after (OnOutput (of_shorter options.search.draws at b tries))
  too_long : (at : SeedBreak) → (options.shrink ≡ AsDrawn → wanted ≡ true) → options.search.draws ≡ Uniform → HasNoFault p t.setup → IsBroken options.search p t at → 10000000 < at.broken.step → after ≡ before
      → OfSeeds options wanted p t before after (of_too_long at)
  not_started : (fault : SetupFault) → (fault ≢ setup.Memory → IsSetupFault p t.setup fault) → after ≡ before → OfSeeds options wanted p t before after (OnError (of_setup_fault fault))

-- ---- hunt

-- the schedules that a hunt draws
abbrev pub search_of_hunt : HuntOptions → Search
search_of_hunt options = record { first = options.first; seeds = options.seeds; steps = options.steps; draws = Biased; drawn_values = false; seconds = options.seconds }

-- how many starts the seeds from the first one to below the last have: each 64 seeds, counted from 0, have one
abbrev pub starts_of : (first past : ℕ) → ℕ
starts_of first past = if first == past then 0 else (past + 63) / 64 - first / 64

-- how many starts, seeds and shorter traces were tried
abbrev pub tried_text : (first past tries : ℕ) → List ℕ
tried_text first past tries = codes "starts " ++ decimal (starts_of first past) ++ codes " seeds " ++ decimal (past - first) ++ codes " tries " ++ decimal tries ++ 10 ∷ []

-- the break that a hunt found, with what was tried
abbrev pub of_broken : Break → (first past tries : ℕ) → Answer
of_broken b first past tries = record { text = codes "broken " ++ break_text b ++ tried_text first past tries; status = 1 }

-- nothing was found with these seeds
abbrev pub of_nothing : (first past : ℕ) → Answer
of_nothing first past = record { text = codes "sound " ++ decimal (past - first) ++ codes " seeds" ++ 10 ∷ codes "starts " ++ decimal (starts_of first past) ++ 10 ∷ []; status = 0 }

-- what `hunt` says of a program: a break that was replayed, what was tried, up to the broken seed or to below the last one, or out of memory. Before and after it these bytes are saved
pub data OfHunt (options : HuntOptions) (wanted : Bool) (p : LaidOut) (before after : List ℕ) : Said → Type 0 where
  broke : (b : Break) (seed tries : ℕ) → options.first ≤ seed → seed < past_seed (search_of_hunt options) → IsShorter p wanted b before after
      → OfHunt options wanted p before after (OnOutput (of_broken b options.first (seed + 1) tries))
  nothing : (past : ℕ) → options.first ≤ past → past ≤ past_seed (search_of_hunt options) → after ≡ before → OfHunt options wanted p before after (OnOutput (of_nothing options.first past))
  not_hunted : after ≡ before → OfHunt options wanted p before after (OnError no_memory)

-- what it says of the files of a module and of its shapes
pub data OfHuntShaped (options : HuntOptions) (wanted : Bool) (first : Option ModuleFile) (shapes : Option File) (before after : List ℕ) : Said → Type 0 where
  no_program : (unread : Unread) → IsNoProgram first shapes unread → after ≡ before → OfHuntShaped options wanted first shapes before after (OnError (of_unread unread))
  of_program : (p : LaidOut) (said : Said) → HasProgram first shapes p → OfHunt options wanted p before after said → OfHuntShaped options wanted first shapes before after said

-- what it says of a module with certificates, whose shapes it then has
pub data OfHuntCerts (options : HuntOptions) (wanted : Bool) (m : Module) (certs : Certs) (before after : List ℕ) : Said → Type 0 where
  not_laid_out : (reason : Reason) → IsLayoutReason (shaped m certs) reason → after ≡ before
      → OfHuntCerts options wanted m certs before after (OnError (of_layout_reason m reason))
  of_shaped : (p : LaidOut) (said : Said) → p.of_module ≡ shaped m certs → AreLayouts p.of_module p.layouts → OfHunt options wanted p before after said
      → OfHuntCerts options wanted m certs before after said

-- what it says of its files: of the module, and of its certificates where they are given, or else of its shapes
abbrev pub OfHuntFiles : HuntOptions → (wanted : Bool) → (first : Option ModuleFile) → (certificate shapes : Option File) → (before after : List ℕ) → Said → Type 0
OfHuntFiles options wanted first None shapes before after = OfHuntShaped options wanted first shapes before after
OfHuntFiles options wanted first (Some certificate) shapes before after = OfCertified (λ m certs. OfHuntCerts options wanted m certs before after) first (Some certificate)
