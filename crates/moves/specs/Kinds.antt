-- What the words of a heap may hold by their kinds, and machines that obey them, whatever the program and whether or not it is safe.
use Rattle.std.specs.Prelude.{◌≡◌, ◌≢◌, ◌<◌, ◌≤◌, ◌^◌, ◌⊎◌, Option, Some, None, List, IsTrue}
use Rattle.lemmas.specs.Lists.{IsIn}
use Rattle.pools.specs.Heap.{Setup, cells, kind_of, IsOfLayout}
use Rattle.pools.specs.declared.word_kind.WordKind.{WordKind}
use Rattle.pools.specs.declared.word_kind.WordKind.TheVariants as kind
use Rattle.pools.specs.Layouts.{is_reference_kind}
use Rattle.runs.specs.Machine.{WordValue, Action, Read, StorePlain, Write, Alloc, Answer, Got}

-- a word of this kind may hold the value: a number of 64 bits, or null or a cell of its layout
abbrev pub MayHold : Setup → Option WordKind → WordValue → Type 0
MayHold s None value = ⊥
MayHold s (Some (kind.Integer bits)) value = value.cell < 2 ^ 64
MayHold s (Some (kind.Reference layout)) value = (value.cell ≡ 0) ⊎ IsOfLayout s layout value.cell

-- what is asked for are words that are there, and what is put there fits their kinds
abbrev pub AsksByKind : Setup → Action → Type 0
AsksByKind s (Read base word) = (base.cell < cells s) × (kind_of s base.cell word ≢ None)
AsksByKind s (StorePlain base word value) = (base.cell < cells s) × MayHold s (kind_of s base.cell word) value
AsksByKind s (Write base word value) = (base.cell < cells s) × IsTrue (is_reference_kind (kind_of s base.cell word)) × MayHold s (kind_of s base.cell word) value
AsksByKind s action = Unit {0}

-- the answer fits the kind of the word that was read, or the layout that was asked for
abbrev pub AnswersByKind : Setup → Action → Answer → Type 0
AnswersByKind s (Read base word) (Got r) = MayHold s (kind_of s base.cell word) r
AnswersByKind s (Alloc layout) (Got r) = (r.cell ≡ 0) ⊎ IsOfLayout s layout r.cell
AnswersByKind s action answer = Unit {0}

-- a state that fits asks for what fits, names cells as its roots, and its next state fits
pub record KeepsKinds {State : Type 0} (s : Setup) (action : State → Action) (after_answer : State → Answer → State) (roots : State → List WordValue) (Fits : State → Type 0) (state : State) : Type 0 where
  pub asks : AsksByKind s (action state)
  pub roots_fit : (r : WordValue) → IsIn r (roots state) → r.cell < cells s
  pub goes_on : (answer : Answer) → AnswersByKind s (action state) answer → Fits (after_answer state answer)

-- a thread in this state may get this answer: the state fits a heap whose cells are numbered by 32 bits, and the answer fits what the thread asked for
pub record MayAnswer {State : Type 0} (s : Setup) (Fits : State → Type 0) (action : State → Action) (state : State) (answer : Answer) : Type 0 where
  pub few_cells : cells s ≤ 2 ^ 32
  pub fits : Fits state
  pub by_kind : AnswersByKind s (action state) answer
