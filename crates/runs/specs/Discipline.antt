-- What a thread holds by its share, in references; the discipline in references; and which answers are possible.
use Rattle.std.specs.Prelude.{◌^◌, ◌<◌, ◌≡◌, ◌≢◌, ◌⊎◌, Option, Some, None, List, [], ◌∷◌, IsTrue, MatchOption}
use Rattle.lemmas.specs.Lists.{IsIn}
use Rattle.pools.specs.declared.word_kind.WordKind.{WordKind}
use Rattle.pools.specs.declared.word_kind.WordKind.TheVariants as kind
use Rattle.pools.specs.Heap.{Setup, kind_of, IsOfLayout}
use Rattle.pools.specs.Layouts.{is_reference_kind}
use Rattle.colours.specs.Mutator.{Fresh, IsPossible}
use Rattle.runs.specs.Machine.{WordValue, Action, Read, StorePlain, Write, Wrong}
use Rattle.runs.specs.Moves.{Move, GoesWrong, ReadsWord, ReadsOldValue, Marks, StoresAfterBarrier, StoresPlain, Claims, StoresStage, null, step_of, steps_of}

-- ---- what is held

-- the move gives the thread this reference
abbrev pub Brings : Setup → Move → WordValue → Type 0
Brings s (ReadsWord base word value) r = (r ≡ value) × IsTrue (is_reference_kind (kind_of s base.cell word)) × (value.cell ≢ 0)
Brings s (ReadsOldValue base word value) r = (r ≡ value) × IsTrue (is_reference_kind (kind_of s base.cell word)) × (value.cell ≢ 0)
Brings s (Claims q won) r = (r ≡ q) × IsTrue won
Brings s move r = ⊥

-- and leaves it this one: at an answer only the roots stay
abbrev pub Leaves : Move → WordValue → Type 0
Leaves (StoresStage stage roots) r = IsIn r roots
Leaves move r = Unit {0}

-- the thread holds the reference: a move of its share brought it, and each one since left it
abbrev pub Holds : Setup → List Move → WordValue → Type 0
Holds s [] r = ⊥
Holds s (move ∷ share) r = Brings s move r ⊎ (Leaves move r × Holds s share r)

-- ---- the discipline

-- the base of a read or a store is the cell of the globals, or held
abbrev pub MayTouch : Setup → List Move → WordValue → Type 0
MayTouch s share r = (r ≡ null) ⊎ Holds s share r

-- a root is null, or held
abbrev pub MayName : Setup → List Move → WordValue → Type 0
MayName s share r = (r.cell ≡ 0) ⊎ Holds s share r

-- a value that may be stored in a word of this kind
abbrev pub MayPut : Setup → List Move → Option WordKind → WordValue → Type 0
MayPut s share None value = ⊥
MayPut s share (Some (kind.Integer bits)) value = value.cell < 2 ^ bits
MayPut s share (Some (kind.Reference layout)) value = (value.cell ≡ 0) ⊎ (Holds s share value × IsOfLayout s layout value.cell)

-- the move obeys the discipline. That of a thread that goes wrong never does
abbrev pub KeepsTo : Setup → List Move → Move → Type 0
KeepsTo s share GoesWrong = ⊥
KeepsTo s share (ReadsWord base word value) = MayTouch s share base × (kind_of s base.cell word ≢ None)
KeepsTo s share (ReadsOldValue base word value) = MayTouch s share base × IsTrue (is_reference_kind (kind_of s base.cell word))
KeepsTo s share (Marks r) = Holds s share r
KeepsTo s share (StoresAfterBarrier base word value) =
    MayTouch s share base × IsTrue (is_reference_kind (kind_of s base.cell word)) × MayPut s share (kind_of s base.cell word) value
KeepsTo s share (StoresPlain base word value) =
    MayTouch s share base × (IsTrue (is_reference_kind (kind_of s base.cell word)) → Fresh s (steps_of share) base.cell) × MayPut s share (kind_of s base.cell word) value
KeepsTo s share (StoresStage stage roots) = (r : WordValue) → IsIn r roots → MayName s share r
KeepsTo s share move = Unit {0}

-- the thread may make the whole call that the action asks for. What a write will store is looked at before the old value is read
abbrev pub MayCall : Setup → List Move → Action → Type 0
MayCall s share Wrong = ⊥
MayCall s share (Read base word) = MayTouch s share base × (kind_of s base.cell word ≢ None)
MayCall s share (StorePlain base word value) =
    MayTouch s share base × (IsTrue (is_reference_kind (kind_of s base.cell word)) → Fresh s (steps_of share) base.cell) × MayPut s share (kind_of s base.cell word) value
MayCall s share (Write base word value) =
    MayTouch s share base × IsTrue (is_reference_kind (kind_of s base.cell word)) × MayPut s share (kind_of s base.cell word) value
MayCall s share action = Unit {0}

-- ---- possible answers

-- the move found what it may find
abbrev pub IsPossibleMove : Setup → List Move → Move → Type 0
IsPossibleMove s share move = MatchOption (step_of move) (Unit {0}) (λ step. IsPossible s (steps_of share) step)

-- each answer in the share was possible
abbrev pub ArePossible : Setup → List Move → Type 0
ArePossible s [] = Unit {0}
ArePossible s (move ∷ share) = ArePossible s share × IsPossibleMove s share move
