-- The discipline that the threads of an accepted module obey.
use Rattle.std.specs.Prelude.{◌≡◌, ℕ, List, [], Some, slice_get}
use Rattle.ir_ast.specs.declared.function.Function.{Function}
use Rattle.pools.specs.Heap.{Setup}
use Rattle.layout.specs.Layouts.{LaidOut}
use Rattle.layout.specs.Globals.{IsHeapFor}
use Rattle.certs.specs.declared.section.Section.{Section}
use Rattle.machine.specs.declared.answer.Answer.{Answer}
use Rattle.machine.specs.Machine.{start}
use Rattle.machine.specs.Start.{argument_values}
use Rattle.machine.specs.Log.{Safe}
use Rattle.program_safety.specs.Safety.{IsStart}

-- a thread that starts at a function of the program, with arguments that fit and meet what is promised of the parameters, is safe over every heap of the program, for every list of possible answers
abbrev pub AreDisciplined : LaidOut → List Section → Type 0
AreDisciplined program certs =
    (func : ℕ) (f : Function) (heap : Setup) (arguments : List ℕ) (answers : List Answer) → slice_get program.of_module.functions func ≡ Some f → IsHeapFor heap program
    → IsStart program f (slice_get certs func) arguments → Safe heap program (start program.of_module (Some f) func (argument_values arguments)) [] answers
