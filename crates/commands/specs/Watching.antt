-- What `watch` says of a program and a trace of it: the lines of a watched run.
use Rattle.std.specs.Prelude.{◌≢◌, ◌+◌, ◌++◌, ℕ, List, [], ◌∷◌, Option, Some, None, codes, length, slice_get}
use Rattle.std.specs.Fmt.{decimal}
use Rattle.ir_ast.specs.declared.block.Block.{Block}
use Rattle.ir_ast.specs.declared.function.Function.{Function}
use Rattle.ir_ast.specs.declared.module.Module.{Module}
use Rattle.layout.specs.Layouts.{LaidOut}
use Rattle.machine.specs.declared.frame_place.FramePlace.{FramePlace}
use Rattle.program_runner.specs.Setups.{HasNoFault, IsSetupFault}
use Rattle.program_runner.specs.declared.setup_fault.SetupFault.{SetupFault}
use Rattle.program_runner.specs.declared.setup_fault.SetupFault.TheVariants as setup
use Rattle.reports.specs.Outcomes.{of_setup_fault}
use Rattle.reports.specs.Report.{Answer, block_text}
use Rattle.reports.specs.RunReport.{of_report}
use Rattle.reports.specs.Said.{Said, OnOutput, OnError}
use Rattle.serving.specs.declared.beside.Limits.{Limits}
use Rattle.trace_text.specs.declared.trace.Trace.{Trace}
use Rattle.watched.specs.declared.refusal.Refusal.{Refusal}
use Rattle.watched.specs.declared.refusal.Refusal.TheVariants as refusal
use Rattle.watched_serving.specs.declared.breach.Breach.{Breach}
use Rattle.watched_serving.specs.declared.breach.Breach.TheVariants.{Wrong, Refused}
use Rattle.watched_threads.specs.declared.report.BrokenThread.{BrokenThread}
use Rattle.watched_threads.specs.declared.report.WatchReport.{WatchReport}
use Rattle.watched_threads.specs.declared.report.WatchReport.TheVariants.{Kept, Broken}
use Rattle.watched_threads.specs.Reports.{IsWatchReport}

-- ---- the lines

-- the code of the rule of records that a refused call would break
abbrev pub code_of : Refusal → List ℕ
code_of refusal.NotHeld = codes "H7"
code_of refusal.NoWord = codes "H8"
code_of refusal.NoReference = codes "H8"
code_of refusal.TooLarge = codes "H9"
code_of refusal.ValueNotHeld = codes "H9"
code_of refusal.OtherLayout = codes "H9"
code_of refusal.NotFresh = codes "H10"
code_of (refusal.RootNotHeld root) = codes "H11"

-- why a thread may not execute its instruction
abbrev pub why_text : Breach → List ℕ
why_text Wrong = codes "wrong"
why_text (Refused why) = code_of why

-- how many phis a block has, if it is there
abbrev pub phis_in : Option Block → ℕ
phis_in None = 0
phis_in (Some block) = length block.phis

-- and the block with this number of a function, if that is there
abbrev pub phis_of : Option Function → (block : ℕ) → ℕ
phis_of None block = 0
phis_of (Some function) block = phis_in (slice_get function.blocks block)

-- and of the function with this number
abbrev pub phi_count : Module → (func block : ℕ) → ℕ
phi_count m func block = phis_of (slice_get m.functions func) block

-- the place of an instruction of a block's body among all of the block's, of which the phis come first
abbrev pub place_in_block : Module → FramePlace → ℕ
place_in_block m at = phi_count m at.function at.block + at.place

-- and as it is written, after a space
abbrev pub number_text : Module → FramePlace → List ℕ
number_text m at = 32 ∷ decimal (place_in_block m at)

-- an instruction that may not be executed, and why
abbrev pub breach_text : Module → FramePlace → Breach → List ℕ
breach_text m at why = 32 ∷ block_text m at.function at.block ++ number_text m at ++ 32 ∷ why_text why ++ 10 ∷ []

-- the first thread that broke the discipline: its instruction, and why it may not be executed
abbrev pub of_broken : Module → BrokenThread → Answer
of_broken m b = record { text = codes "broken t " ++ decimal b.thread ++ breach_text m b.at b.why; status = 1 }

-- a watched run: what is told of any run, or that thread
abbrev pub of_watch : Module → WatchReport → Answer
of_watch m (Kept report) = of_report report
of_watch m (Broken b) = of_broken m b

-- ---- the command

-- what is said of a program and the threads with which a trace of it begins: what came of a run within the limits, the first thread
-- that may not begin, or that memory was refused
pub data OfWatch (limits : Limits) (p : LaidOut) (t : Trace) : Said → Type 0 where
  watched : (report : WatchReport) → HasNoFault p t.setup → IsWatchReport p t.setup limits report → OfWatch limits p t (OnOutput (of_watch p.of_module report))
  not_begun : (fault : SetupFault) → (fault ≢ setup.Memory → IsSetupFault p t.setup fault) → OfWatch limits p t (OnError (of_setup_fault fault))
