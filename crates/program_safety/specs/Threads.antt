-- The threads of a program as threads of a module run: what they ask for and name, in the references of runs, and how they go on.
use Rattle.std.specs.Prelude.{ℕ, ◌==◌, List, [], ◌∷◌, map, Option, Some, None, if◌then◌else◌}
use Rattle.pools.specs.Heap.{Setup, kind_of}
use Rattle.pools.specs.declared.word_kind.WordKind.{WordKind}
use Rattle.pools.specs.declared.word_kind.WordKind.TheVariants as kind
use Rattle.layout.specs.Layouts.{LaidOut}
use Rattle.machine.specs.declared.action.Action.{Action}
use Rattle.machine.specs.declared.action.Action.TheVariants.{Local, Foreign, Read, StorePlain, Write, Alloc, Safepoint, End, Wrong}
use Rattle.machine.specs.declared.answer.Answer.{Answer}
use Rattle.machine.specs.declared.answer.Answer.TheVariants as answer
use Rattle.machine.specs.declared.value.Reference.{Reference as ThreadReference}
use Rattle.machine.specs.declared.value.Value.{Value}
use Rattle.machine.specs.declared.value.Value.TheVariants as value
use Rattle.machine.specs.Kinds.{wrapped}
use Rattle.machine.specs.Machine.{State, action, after_answer, roots}
use Rattle.runs.specs.Machine as runs
use Rattle.runs.specs.Machine.{WordValue, Machine, machine_of}
use Rattle.runs.specs.Moves.{null}

-- ---- references

-- a reference of a thread, as one of a run
abbrev pub in_run : ThreadReference → WordValue
in_run at = record { cell = at.cell; birth = at.birth }

-- a reference of a run, as one of a thread
abbrev pub at_thread : WordValue → ThreadReference
at_thread r = record { cell = r.cell; birth = r.birth }

-- what a value refers to; what is no reference names null
abbrev pub reference_in : Value → WordValue
reference_in (value.Cell layout at) = in_run at
reference_in _ = null

-- what a value is in a word: a number is kept as a cell's number
abbrev pub stored : Value → WordValue
stored (value.Number n) = record { cell = n; birth = 0 }
stored v = reference_in v

-- ---- actions and answers

-- an action of a thread, as one of a run
abbrev pub asked_as : Action → runs.Action
asked_as Local = runs.Local
asked_as (Foreign bits) = runs.Local
asked_as (Read at word) = runs.Read (in_run at) word
asked_as (StorePlain at word v) = runs.StorePlain (in_run at) word (stored v)
asked_as (Write at word v) = runs.Write (in_run at) word (stored v)
asked_as (Alloc layout) = runs.Alloc layout
asked_as Safepoint = runs.Safepoint
asked_as End = runs.End
asked_as Wrong = runs.Wrong

-- null or a reference, as an answer
abbrev pub null_or_cell : WordValue → Answer
null_or_cell r = if r.cell == 0 then answer.Null else answer.Cell (at_thread r)

-- what was read in a word of this kind, as an answer
abbrev pub word_read : Option WordKind → WordValue → Answer
word_read None r = answer.Done
word_read (Some (kind.Integer bits)) r = answer.Number r.cell
word_read (Some (kind.Reference layout)) r = null_or_cell r

-- the next number from outside
abbrev pub next_value : List ℕ → ℕ
next_value [] = 0
next_value (n ∷ values) = n

-- the numbers that are left after an action
abbrev pub values_after : Action → List ℕ → List ℕ
values_after (Foreign bits) (n ∷ values) = values
values_after asked values = values

-- an answer in a run to what a thread asked for, as an answer to the thread, which has these numbers from outside
abbrev pub given_as : Setup → (values : List ℕ) → Action → runs.Answer → Answer
given_as heap values (Foreign bits) given = answer.Number (wrapped bits (next_value values))
given_as heap values (Read at word) (runs.Got r) = word_read (kind_of heap at.cell word) r
given_as heap values (Alloc layout) (runs.Got r) = null_or_cell r
given_as heap values Safepoint (runs.Answered (Some stage)) = answer.Answered
given_as heap values asked given = answer.Done

-- ---- the machine

-- a thread of a program, over a heap
pub record ProgramThread : Type 0 where
  pub heap : Setup
  pub program : LaidOut
  pub state : State
  -- the numbers that it gets from outside; after the last one it gets 0
  pub values : List ℕ

-- what it asks for
abbrev pub asks : ProgramThread → runs.Action
asks t = asked_as (action t.program t.state)

-- how it goes on with the answer
abbrev pub goes_on : ProgramThread → runs.Answer → ProgramThread
goes_on t given = record t {
  state = after_answer t.program t.state (given_as t.heap t.values (action t.program t.state) given);
  values = values_after (action t.program t.state) t.values;
}

-- what its roots refer to
abbrev pub names : ProgramThread → List WordValue
names t = map reference_in (roots t.program.of_module t.state)

-- the machine of all threads of programs
abbrev pub program_machine : Machine
program_machine = machine_of asks goes_on names

-- a thread that has ended, over a heap without cells
abbrev pub ended : LaidOut → ProgramThread
ended program = record {
  heap = record { threads = 0; late = []; layouts = []; pools = []; globals = []; values = [] };
  program = program;
  state = record { frames = [] };
  values = [];
}
