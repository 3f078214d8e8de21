-- Which threads of a setup may begin, and the fault of the first one that may not.
use Rattle.std.specs.Prelude.{ℕ, ◌≡◌, ◌⊎◌, Bool, true, List, length, Option, Some, None, slice_get, nat_lt}
use Rattle.std.specs.List.{list_all, zip}
use Rattle.layout.specs.Layouts.{LaidOut}
use Rattle.certs.specs.declared.section.Promise.{Promise}
use Rattle.certs.specs.declared.section.Section.{Section}
use Rattle.facts.specs.Claims.{promised_below}
use Rattle.block_rules.specs.Promises.{promises_in}
use Rattle.machine.specs.Start.{StartsByReference, StartsWrongly}
use Rattle.program_runner.specs.Threads.{MeetPromises}
use Rattle.program_runner.specs.Setups.{MayBegin, EachBefore}
use Rattle.program_runner.specs.declared.setup_fault.SetupFault.{SetupFault}
use Rattle.program_runner.specs.declared.setup_fault.SetupFault.TheVariants.{WrongArguments, ReferenceParameter, Memory}
use Rattle.trace_text.specs.declared.trace.Setup.{Setup}
use Rattle.trace_text.specs.declared.trace.Start.{Start}

-- ---- promises

-- the number is below the bound, if there is one
abbrev pub is_below : Option ℕ → (argument : ℕ) → Bool
is_below None argument = true
is_below (Some below) argument = nat_lt argument below

-- the argument is below what is promised of its parameter
abbrev pub is_under : Option Promise → (argument : ℕ) → Bool
is_under promise argument = is_below (promised_below promise) argument

-- so is each argument
abbrev pub are_under : List (Option Promise) → List ℕ → Bool
are_under promises arguments = list_all (λ (pair : Option Promise × ℕ). is_under pair.0 pair.1) (zip promises arguments)

-- ---- threads

-- what the certificate promises of the function's parameters is met by these arguments
abbrev pub MeetsPromises : List Section → Start → Type 0
MeetsPromises certs begun = MeetPromises (promises_in (slice_get certs begun.function)) begun.arguments

-- a thread may begin so: it takes these arguments, and they meet what is promised of the parameters
pub record MayStart (p : LaidOut) (certs : List Section) (begun : Start) : Type 0 where
  pub begins : MayBegin p begun
  pub meets : MeetsPromises certs begun

-- the fault of the thread with this number: its function takes a reference; or it does not take these arguments, or they do not meet what is promised
abbrev pub IsStartFault : LaidOut → List Section → (thread : ℕ) → Start → SetupFault → Type 0
IsStartFault p certs t begun (ReferenceParameter u) = (u ≡ t) × StartsByReference p begun.function
IsStartFault p certs t begun (WrongArguments u) = (u ≡ t) × (StartsWrongly p begun.function begun.arguments ⊎ (MayBegin p begun × ¬ MeetsPromises certs begun))
IsStartFault p certs t begun Memory = ⊥

-- the fault is that of a thread, and each thread before it may begin
pub record IsRunFault (p : LaidOut) (certs : List Section) (setup : Setup) (fault : SetupFault) : Type 0 where
  pub thread : ℕ
  pub begun : Start
  pub is : slice_get setup.starts thread ≡ Some begun
  pub before : EachBefore (MayStart p certs) setup.starts thread
  pub fault_of : IsStartFault p certs thread begun fault

-- there is no fault: each thread may begin
abbrev pub HasNoRunFault : LaidOut → List Section → Setup → Type 0
HasNoRunFault p certs setup = EachBefore (MayStart p certs) setup.starts (length setup.starts)
