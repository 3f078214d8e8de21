-- What is promised of the threads of a program, and of every run of them and the collector.
use Rattle.std.specs.Prelude.{ℕ, ◌<◌, ◌≡◌, List, Some, slice_get}
use Rattle.ir_ast.specs.declared.function.Function.{Function}
use Rattle.pools.specs.Heap.{Setup, IsSetup}
use Rattle.layout.specs.Layouts.{LaidOut}
use Rattle.layout.specs.Globals.{IsHeapFor}
use Rattle.certs.specs.declared.section.Section.{Section}
use Rattle.machine.specs.Machine.{start}
use Rattle.machine.specs.Start.{argument_values}
pub use Rattle.soundness.specs.Discipline.{AreCertified, CertifiedIsNeverWrong, IsStart, MeetPromises}
use Rattle.runs.specs.Promises.{AreCareful, IsSafe}
use Rattle.program_safety.specs.Threads.{ProgramThread, program_machine}

-- a thread is at the beginning of a function of the program, over this heap, with arguments that fit and meet what is promised of the parameters, and with any numbers from outside
pub record IsBegun (heap : Setup) (program : LaidOut) (certs : List Section) (thread : ProgramThread) : Type 0 where
  pub func : ℕ
  pub function : Function
  pub arguments : List ℕ
  pub values : List ℕ
  pub is : slice_get program.of_module.functions func ≡ Some function
  pub takes : IsStart program function (slice_get certs func) arguments
  pub stands : thread ≡ record { heap = heap; program = program; state = start program.of_module (Some function) func (argument_values arguments); values = values }

-- so does each thread of the heap; several may begin at one function
abbrev pub AreBegun : Setup → LaidOut → List Section → (starts : ℕ → ProgramThread) → Type 0
AreBegun heap program certs starts = (t : ℕ) → t < heap.threads → IsBegun heap program certs (starts t)

-- ---- what is promised

-- over every heap of the program, each thread that begins so obeys the discipline at each move, as long as each answer is possible
abbrev pub IsCarefulProgram : LaidOut → List Section → Type 0
IsCarefulProgram program certs = (heap : Setup) (starts : ℕ → ProgramThread) → IsHeapFor heap program → AreBegun heap program certs starts → AreCareful heap program_machine starts

-- over every heap of the program whose globals begin with what fits them, for every number of threads that begin so, late ones among them, and every list of atomic
-- steps of these threads and the collector: no thread goes wrong, no step touches a cell that is free or was claimed again, and no such cell is reachable from a
-- global or a root
abbrev pub IsSafeProgram : LaidOut → List Section → Type 0
IsSafeProgram program certs =
    (heap : Setup) (starts : ℕ → ProgramThread) → IsHeapFor heap program → IsSetup heap → AreBegun heap program certs starts → IsSafe heap program_machine starts

-- ---- the theorems

-- where each function of a program is certified, its threads are careful
abbrev pub CertifiedIsCareful : Type 0
CertifiedIsCareful = (program : LaidOut) (certs : List Section) → AreCertified program certs → IsCarefulProgram program certs

-- and every run of them is safe
abbrev pub CertifiedIsSafe : Type 0
CertifiedIsSafe = (program : LaidOut) (certs : List Section) → AreCertified program certs → IsSafeProgram program certs
