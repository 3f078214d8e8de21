-- What the theorems ask of a thread's machine: its states, what a state asks for, and the state after the answer.
use Rattle.std.specs.Prelude.{ℕ, Option, List}

-- what a word holds: a reference, as its cell and the birth by which its user knows it, or an integer, as a cell's number with birth 0. Null is cell 0 with birth 0
pub record WordValue : Type 0 where
  pub cell : ℕ
  pub birth : ℕ

-- what a thread's current instruction asks for. A base is the cell of the globals, as cell 0, or a reference that isn't null
pub data Action : Type 0 where
  Local : Action  -- one step that touches no shared word
  Read : (base : WordValue) (word : ℕ) → Action
  StorePlain : (base : WordValue) (word : ℕ) (value : WordValue) → Action  -- without the barrier
  Write : (base : WordValue) (word : ℕ) (value : WordValue) → Action  -- after the barrier
  Alloc : (layout : ℕ) → Action
  Safepoint : Action
  End : Action
  Wrong : Action  -- the instruction has no meaning here

-- what an action gets back
pub data Answer : Type 0 where
  Done : Answer
  Got : WordValue → Answer  -- what was read, or the cell of an alloc
  Answered : Option ℕ → Answer  -- of a safepoint: the stage that the thread answered, if another one was posted

-- one thread's machine
pub record Machine : Type 1 where
  pub State : Type 0
  pub action : State → Action
  pub after_answer : State → Answer → State
  pub roots : State → List WordValue  -- what the root slots of all frames hold, the oldest frame's first

-- the machine with these states
abbrev pub machine_of : {S : Type 0} → (action : S → Action) → (after_answer : S → Answer → S) → (roots : S → List WordValue) → Machine
machine_of {S} action after_answer roots = record { State = S; action = action; after_answer = after_answer; roots = roots }
