-- What a certified function promises of its threads.
use Rattle.std.specs.Prelude.{◌≡◌, ◌<◌, ℕ, true, false, List, [], ◌∷◌, length, Option, Some, slice_get}
use Rattle.ir_ast.specs.declared.function.Function.{Function}
use Rattle.pools.specs.Heap.{Setup}
use Rattle.layout.specs.Globals.{IsHeapFor}
use Rattle.layout.specs.Layouts.{LaidOut}
use Rattle.certs.specs.declared.section.Promise.{Promise}
use Rattle.certs.specs.declared.section.Section.{Section}
use Rattle.facts.specs.Claims.{promised_below}
use Rattle.block_rules.specs.Promises.{promises_in}
use Rattle.block_rules.specs.Certified.{BlockCertified}
use Rattle.machine.specs.declared.answer.Answer.{Answer}
use Rattle.machine.specs.Machine.{start}
use Rattle.machine.specs.Start.{takes_reference, arguments_fit, argument_values}
use Rattle.machine.specs.Log.{Safe}
use Rattle.soundness.specs.Meaning.{IsBelow}

-- each argument is below what is promised of its parameter
abbrev pub MeetPromises : List (Option Promise) → List ℕ → Type 0
MeetPromises [] arguments = Unit {0}
MeetPromises (promise ∷ promises) [] = Unit {0}
MeetPromises (promise ∷ promises) (argument ∷ arguments) = IsBelow argument (promised_below promise) × MeetPromises promises arguments

-- a start of a function: it takes integers, and these fit their types and meet what is promised of the parameters
pub record IsStart (program : LaidOut) (f : Function) (section : Option Section) (arguments : List ℕ) : Type 0 where
  pub takes_integers : takes_reference program.of_module f ≡ false
  pub fit : arguments_fit program.of_module f.parameters arguments ≡ true
  pub meet : MeetPromises (promises_in section) arguments

-- each block of each function of a program is certified
abbrev pub AreCertified : LaidOut → List Section → Type 0
AreCertified program certs = (function : ℕ) (f : Function) → slice_get program.of_module.functions function ≡ Some f → (block : ℕ) → block < length f.blocks → BlockCertified program certs function block

-- where each function of a program is certified, a thread that starts at one of them is safe, over every heap of the program and for every list of possible answers
abbrev pub CertifiedIsNeverWrong : Type 0
CertifiedIsNeverWrong =
    (program : LaidOut) (certs : List Section) (func : ℕ) (f : Function) (heap : Setup) (arguments : List ℕ) (answers : List Answer) → slice_get program.of_module.functions func ≡ Some f
    → IsHeapFor heap program → AreCertified program certs → IsStart program f (slice_get certs func) arguments
    → Safe heap program (start program.of_module (Some f) func (argument_values arguments)) [] answers
