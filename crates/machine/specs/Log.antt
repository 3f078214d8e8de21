-- What a thread has done, the newest step first; what it holds by it, what may be answered, and when it obeys the discipline.
use Rattle.std.specs.Prelude.{◌≡◌, ◌≢◌, ℕ, ◌<◌, ◌^◌, ◌⊎◌, List, [], ◌∷◌, Option, Some, None}
use Rattle.std.specs.List.{Contains}
use Rattle.pools.specs.declared.word_kind.WordKind.{WordKind}
use Rattle.pools.specs.declared.word_kind.WordKind.TheVariants.{Integer, Reference as Referring}
use Rattle.pools.specs.Heap.{Setup, IsOfLayout, kind_of}
use Rattle.layout.specs.Layouts.{LaidOut}
use Rattle.machine.specs.declared.action.Action.{Action}
use Rattle.machine.specs.declared.action.Action.TheVariants.{Local, Foreign, Read, Write, StorePlain, Alloc, Safepoint, End, Wrong}
use Rattle.machine.specs.declared.answer.Answer.{Answer}
use Rattle.machine.specs.declared.answer.Answer.TheVariants as answer
use Rattle.machine.specs.declared.value.Reference.{Reference}
use Rattle.machine.specs.declared.value.Value.{Value}
use Rattle.machine.specs.declared.value.Value.TheVariants as value
use Rattle.machine.specs.Elements.{globals_cell}
use Rattle.machine.specs.Machine.{State, action, after_answer, roots}

-- a step: what was asked for, what was answered, and the thread's roots when it asked
pub record Step : Type 0 where
  pub asked : Action
  pub given : Answer
  pub roots : List Value

-- the steps of a thread
abbrev pub Log : Type 0
Log = List Step

-- ---- what a thread holds

-- the reference that an answer hands over
abbrev pub Gives : Answer → Reference → Type 0
Gives (answer.Cell at) r = at ≡ r
Gives _ r = ⊥

-- the reference that a value is
abbrev pub RefersTo : Value → Reference → Type 0
RefersTo (value.Cell layout at) r = at ≡ r
RefersTo _ r = ⊥

-- one of these values is the reference
abbrev pub IsReferredTo : List Value → Reference → Type 0
IsReferredTo values r = (v : Value) × Contains values v × RefersTo v r

-- what a step makes of the references that were held: where a stage was answered, only those among the roots stay; otherwise what the answer hands over is held too
abbrev pub StaysHeld : Action → Answer → (roots : List Value) → (was : Type 0) → Reference → Type 0
StaysHeld Safepoint answer.Answered roots was r = IsReferredTo roots r
StaysHeld asked given roots was r = Gives given r ⊎ was

-- a thread holds the references that it read or claimed since it last answered a stage, and the roots that it had then
abbrev pub Held : Log → Reference → Type 0
Held [] r = ⊥
Held (step ∷ log) r = StaysHeld step.asked step.given step.roots (Held log r) r

-- a thread holds a reference to the cell
abbrev pub HoldsCell : Log → (cell : ℕ) → Type 0
HoldsCell log cell = (r : Reference) × (r.cell ≡ cell) × Held log r

-- an answer hands over a reference to the cell
abbrev pub GivesCell : Answer → (cell : ℕ) → Type 0
GivesCell (answer.Cell at) cell = at.cell ≡ cell
GivesCell _ cell = ⊥

-- a value is a reference to the cell
abbrev pub RefersToCell : Value → (cell : ℕ) → Type 0
RefersToCell (value.Cell layout at) cell = at.cell ≡ cell
RefersToCell _ cell = ⊥

-- what a step makes of the cells that were fresh: a claimed one is, and a stored one is no more; none is where a stage was answered
abbrev pub StaysFresh : Action → Answer → (was : Type 0) → (cell : ℕ) → Type 0
StaysFresh (Alloc layout) given was cell = GivesCell given cell ⊎ was
StaysFresh (StorePlain at word v) given was cell = (RefersToCell v cell → ⊥) × was
StaysFresh (Write at word v) given was cell = (RefersToCell v cell → ⊥) × was
StaysFresh Safepoint answer.Answered was cell = ⊥
StaysFresh asked given was cell = was

-- a cell is fresh that was claimed, and neither was it stored nor a stage answered since
abbrev pub IsFresh : Log → (cell : ℕ) → Type 0
IsFresh [] cell = ⊥
IsFresh (step ∷ log) cell = StaysFresh step.asked step.given (IsFresh log cell) cell

-- a value is null, or a held reference
abbrev pub IsNullOrHeld : Log → Value → Type 0
IsNullOrHeld log value.Null = Unit {0}
IsNullOrHeld log (value.Cell layout at) = Held log at
IsNullOrHeld log _ = ⊥

-- ---- what may be answered

-- what the read of a word of this kind may give: a number that fits it, or null or a cell of its layout that is not fresh
abbrev pub MayBeRead : Setup → Log → Option WordKind → Answer → Type 0
MayBeRead heap log (Some (Integer bits)) (answer.Number n) = n < 2 ^ bits
MayBeRead heap log (Some (Referring layout)) answer.Null = Unit {0}
MayBeRead heap log (Some (Referring layout)) (answer.Cell at) = IsOfLayout heap layout at.cell × (IsFresh log at.cell → ⊥)
MayBeRead heap log kind given = ⊥

-- what may be answered: to an ask for a number from outside one of its bits. To an alloc null, or a cell of the asked pool to which the thread holds no reference. To a safepoint: that nothing new was posted, or that the stage was answered
abbrev pub Possible : Setup → Log → Action → Answer → Type 0
Possible heap log Local answer.Done = Unit {0}
Possible heap log (Foreign bits) (answer.Number n) = n < 2 ^ bits
Possible heap log (Read at word) given = MayBeRead heap log (kind_of heap at.cell word) given
Possible heap log (StorePlain at word v) answer.Done = Unit {0}
Possible heap log (Write at word v) answer.Done = Unit {0}
Possible heap log (Alloc layout) answer.Null = Unit {0}
Possible heap log (Alloc layout) (answer.Cell at) = IsOfLayout heap layout at.cell × (HoldsCell log at.cell → ⊥)
Possible heap log Safepoint answer.Done = Unit {0}
Possible heap log Safepoint answer.Answered = Unit {0}
Possible heap log End answer.Done = Unit {0}
Possible heap log asked given = ⊥

-- ---- the discipline

-- a thread may touch the cell of the globals, and those to which it holds references
abbrev pub MayTouch : Log → Reference → Type 0
MayTouch log at = (at ≡ globals_cell) ⊎ Held log at

-- a value is null, or a held reference to a cell of this layout
abbrev pub IsNullOrHeldOf : Setup → Log → (layout : ℕ) → Value → Type 0
IsNullOrHeldOf heap log layout value.Null = Unit {0}
IsNullOrHeldOf heap log layout (value.Cell own at) = IsOfLayout heap layout at.cell × Held log at
IsNullOrHeldOf heap log layout _ = ⊥

-- a word of this kind may take a value without the barrier: an integer that fits it; in a fresh cell null, or a held reference of its layout
abbrev pub MayBeStored : Setup → Log → (cell : ℕ) → Option WordKind → Value → Type 0
MayBeStored heap log cell (Some (Integer bits)) (value.Number n) = n < 2 ^ bits
MayBeStored heap log cell (Some (Referring layout)) v = IsFresh log cell × IsNullOrHeldOf heap log layout v
MayBeStored heap log cell kind v = ⊥

-- a word of this kind may take a value with the barrier: null, or a held reference of its layout
abbrev pub MayBeWritten : Setup → Log → Option WordKind → Value → Type 0
MayBeWritten heap log (Some (Referring layout)) v = IsNullOrHeldOf heap log layout v
MayBeWritten heap log kind v = ⊥

-- an action is not wrong, and obeys the discipline: it touches words of the globals and of held cells alone
abbrev pub Keeps : Setup → Log → Action → Type 0
Keeps heap log Local = Unit {0}
Keeps heap log (Foreign bits) = Unit {0}
Keeps heap log (Read at word) = MayTouch log at × (kind_of heap at.cell word ≢ None)
Keeps heap log (StorePlain at word v) = MayTouch log at × MayBeStored heap log at.cell (kind_of heap at.cell word) v
Keeps heap log (Write at word v) = MayTouch log at × MayBeWritten heap log (kind_of heap at.cell word) v
Keeps heap log (Alloc layout) = Unit {0}
Keeps heap log Safepoint = Unit {0}
Keeps heap log End = Unit {0}
Keeps heap log Wrong = ⊥

-- a thread's roots are null or held, and what it asks for obeys the discipline
pub record IsSafe (heap : Setup) (p : LaidOut) (s : State) (log : Log) : Type 0 where
  pub rooted : (root : Value) → Contains (roots p.of_module s) root → IsNullOrHeld log root
  pub keeps : Keeps heap log (action p s)

-- a thread is safe, and stays so as long as its answers are possible
abbrev pub Safe : Setup → LaidOut → State → Log → List Answer → Type 0
Safe heap p s log [] = IsSafe heap p s log
Safe heap p s log (given ∷ answers) =
    IsSafe heap p s log
    × (Possible heap log (action p s) given → Safe heap p (after_answer p s given) (record { asked = action p s; given = given; roots = roots p.of_module s } ∷ log) answers)
