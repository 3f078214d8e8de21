-- The threads with which a setup begins, the first fault of a setup, and setups of certified programs.
use Rattle.std.specs.Prelude.{ℕ, ◌≡◌, ◌<◌, ◌≤◌, List, length, map, Option, Some, None, slice_get}
use Rattle.std.specs.List.{AllByRecursion}
use Rattle.layout.specs.Layouts.{LaidOut}
use Rattle.certs.specs.declared.section.Section.{Section}
use Rattle.block_rules.specs.Promises.{promises_in}
use Rattle.machine.specs.Machine.{start}
use Rattle.machine.specs.Start.{argument_values, StartsByReference, StartsWrongly}
use Rattle.machine.specs.declared.thread.StartFault.{StartFault}
use Rattle.machine.specs.declared.thread.StartFault.TheVariants as start_fault
use Rattle.program_runner.specs.Threads.{AreCertified, MeetPromises, ProgramThread, program_machine, ended}
use Rattle.runs.specs.Promises.{IsSafe}
use Rattle.program_runner.specs.Heaps.{heap_of}
use Rattle.trace_text.specs.Arrivals.{is_late}
use Rattle.trace_text.specs.Traces.{IsStartOf}
use Rattle.trace_text.specs.declared.trace.Setup.{Setup}
use Rattle.trace_text.specs.declared.trace.Start.{Start}
use Rattle.stepping.specs.declared.beginning.NewThread.{NewThread}
use Rattle.program_runner.specs.declared.setup_fault.SetupFault.{SetupFault}
use Rattle.program_runner.specs.declared.setup_fault.SetupFault.TheVariants.{WrongArguments, ReferenceParameter, Memory}

-- ---- the threads

-- a setup of the program: one pool for each of its layouts, and at most 64 threads that begin at its functions
pub record IsSetupOf (p : LaidOut) (setup : Setup) : Type 0 where
  pub one_each : length setup.pools ≡ length p.layouts
  pub starts : AllByRecursion (IsStartOf p) setup.starts
  pub threads : length setup.starts ≤ 64

-- a thread at the beginning of its function
abbrev pub begun_at : LaidOut → Setup → Option Start → ProgramThread
begun_at p setup None = ended p
begun_at p setup (Some begun) =
    record { heap = heap_of p setup; program = p; state = start p.of_module (slice_get p.of_module.functions begun.function) begun.function (argument_values begun.arguments); values = begun.values }

-- the threads as they begin
abbrev pub starts_of : LaidOut → Setup → ℕ → ProgramThread
starts_of p setup t = begun_at p setup (slice_get setup.starts t)

-- ---- faults

-- a thread may begin so
pub record MayBegin (p : LaidOut) (begun : Start) : Type 0 where
  pub takes_integers : ¬ StartsByReference p begun.function
  pub takes_these : ¬ StartsWrongly p begun.function begun.arguments

-- this holds of each start before this one
abbrev pub EachBefore : (Start → Type 0) → List Start → (thread : ℕ) → Type 0
EachBefore P starts t = (u : ℕ) (begun : Start) → u < t → slice_get starts u ≡ Some begun → P begun

-- each thread before this one may begin
abbrev pub MayBeginBefore : LaidOut → List Start → (thread : ℕ) → Type 0
MayBeginBefore p starts t = EachBefore (MayBegin p) starts t

-- the first thread that may not begin, and why: a function that takes a reference goes before wrong arguments
abbrev pub IsSetupFault : LaidOut → Setup → SetupFault → Type 0
IsSetupFault p setup (ReferenceParameter t) =
    MayBeginBefore p setup.starts t × ((begun : Start) × (slice_get setup.starts t ≡ Some begun) × StartsByReference p begun.function)
IsSetupFault p setup (WrongArguments t) =
    MayBeginBefore p setup.starts t × ((begun : Start) × (slice_get setup.starts t ≡ Some begun) × StartsWrongly p begun.function begun.arguments)
IsSetupFault p setup Memory = ⊥

-- there is no fault: each thread may begin
abbrev pub HasNoFault : LaidOut → Setup → Type 0
HasNoFault p setup = (fault : SetupFault) → ¬ IsSetupFault p setup fault

-- so of the thread with this number, which begins so
abbrev pub IsFaultOf : LaidOut → (thread : ℕ) → Start → SetupFault → Type 0
IsFaultOf p t begun (ReferenceParameter u) = (u ≡ t) × StartsByReference p begun.function
IsFaultOf p t begun (WrongArguments u) = (u ≡ t) × StartsWrongly p begun.function begun.arguments
IsFaultOf p t begun Memory = ⊥

-- what is told of the thread with this number that does not start
abbrev pub fault_of : (thread : ℕ) → StartFault → SetupFault
fault_of t start_fault.ReferenceParameter = ReferenceParameter t
fault_of t start_fault.WrongArguments = WrongArguments t
fault_of t (start_fault.Memory refused) = Memory

-- a thread at the beginning of its function, and whether it is late
abbrev pub new_thread : LaidOut → Setup → Start → NewThread ProgramThread
new_thread p setup begun = record { machine = begun_at p setup (Some begun); is_late = is_late begun.arrival }

-- these are the threads of the setup, as they begin
abbrev pub AreBegun : LaidOut → Setup → List (NewThread ProgramThread) → Type 0
AreBegun p setup threads = threads ≡ map (new_thread p setup) setup.starts

-- ---- certified programs

-- the program is certified with these certificates, and the arguments of the threads meet what is promised of the parameters
pub record IsCertifiedSetup (p : LaidOut) (setup : Setup) (certs : List Section) : Type 0 where
  pub certified : AreCertified p certs
  pub promises : (t : ℕ) (begun : Start) → slice_get setup.starts t ≡ Some begun → MeetPromises (promises_in (slice_get certs begun.function)) begun.arguments

-- no run of the setup's threads and the collector is broken
abbrev pub IsSafeSetup : LaidOut → Setup → Type 0
IsSafeSetup p setup = IsSafe (heap_of p setup) program_machine (starts_of p setup)

-- so where the program is certified and its threads may begin
abbrev pub CertifiedSetupIsSafe : Type 0
CertifiedSetupIsSafe = (p : LaidOut) (setup : Setup) (certs : List Section) → IsSetupOf p setup → HasNoFault p setup → IsCertifiedSetup p setup certs → IsSafeSetup p setup
