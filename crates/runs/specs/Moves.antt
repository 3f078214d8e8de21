-- A thread's share of a module run: its local steps beside its steps on the heap, with the references that these are about;
-- and which moves its machine asks for. A share has the newest move first.
use Rattle.std.specs.Prelude.{ℕ, ◌≡◌, ◌⊎◌, ◌==◌, not, Bool, true, false, Option, Some, None, List, [], ◌∷◌, length, filter, slice_get, slice_index, if◌then◌else◌}
use Rattle.pools.specs.Heap.{Setup, IsOfLayout}
use Rattle.colours.specs.Colours.{done}
use Rattle.colours.specs.Steps as step
use Rattle.colours.specs.Steps.{Step}
use Rattle.colours.specs.Mutator.{Phase, Ready, MarkingOld, MarkingNew, Writing, Trying, Answering, Ended, Absent, Arriving, Entering, Leaving, is_between, stage_of, phase_of, phase_after, MayFollow}
use Rattle.runs.specs.Machine.{WordValue, Action, Local, Read, StorePlain, Write, Alloc, Safepoint, End, Wrong, Answer, Done, Got, Answered, Machine}

-- a step of a thread: a local one, or one on the heap with its references
pub data Move : Type 0 where
  Works : Move  -- a local step
  GoesWrong : Move  -- the step of a thread at an instruction that has no meaning
  ReadsWord : (base : WordValue) (word : ℕ) (value : WordValue) → Move
  ReadsOldValue : (base : WordValue) (word : ℕ) (value : WordValue) → Move
  Marks : WordValue → Move
  StoresAfterBarrier : (base : WordValue) (word : ℕ) (value : WordValue) → Move
  StoresPlain : (base : WordValue) (word : ℕ) (value : WordValue) → Move
  Claims : WordValue → (won : Bool) → Move  -- with the birth that the claim gives
  ReadsPosted : (stage : ℕ) → Move
  StoresStage : (stage : ℕ) (roots : List WordValue) → Move
  ReadsPostedFirst : (stage : ℕ) → Move
  EntersStage : (stage : ℕ) → Move
  ReadsPostedAgain : (stage : ℕ) → Move

-- the null reference. As a base it means the cell of the globals
abbrev pub null : WordValue
null = record { cell = 0; birth = 0 }

-- the cells of references
abbrev pub cells_of : List WordValue → List ℕ
cells_of [] = []
cells_of (r ∷ rs) = r.cell ∷ cells_of rs

-- ---- the steps on the heap

-- what a move is on the heap, without births. A local step is none
abbrev pub step_of : Move → Option Step
step_of Works = None
step_of GoesWrong = None
step_of (ReadsWord base word value) = Some (step.ReadWord base.cell word value.cell)
step_of (ReadsOldValue base word value) = Some (step.ReadOldValue base.cell word value.cell)
step_of (Marks r) = Some (step.Mark r.cell)
step_of (StoresAfterBarrier base word value) = Some (step.StoreAfterBarrier base.cell word value.cell)
step_of (StoresPlain base word value) = Some (step.StorePlain base.cell word value.cell)
step_of (Claims r won) = Some (step.Claim r.cell won)
step_of (ReadsPosted stage) = Some (step.ReadPosted stage)
step_of (StoresStage stage roots) = Some (step.StoreStage stage (cells_of roots))
step_of (ReadsPostedFirst stage) = Some (step.ReadPostedFirst stage)
step_of (EntersStage stage) = Some (step.EnterStage stage)
step_of (ReadsPostedAgain stage) = Some (step.ReadPostedAgain stage)

-- a log with this step, if it is one
abbrev pub logged : Option Step → List Step → List Step
logged None log = log
logged (Some step) log = step ∷ log

-- the log of a share
abbrev pub steps_of : List Move → List Step
steps_of [] = []
steps_of (move ∷ share) = logged (step_of move) (steps_of share)

-- where the thread is after a step, if it is one
abbrev pub phase_afterwards : Setup → (stage : ℕ) → Phase → Option Step → Phase
phase_afterwards s stage phase None = phase
phase_afterwards s stage phase (Some step) = phase_after s stage phase step

-- ---- the thread's state

-- a call of the machine is over with this move, after which the thread is in this phase. The arrival of a late thread is no call
abbrev pub ends_call : Move → Phase → Bool
ends_call (ReadsPostedAgain stage) phase = false
ends_call move phase = is_between phase

-- what the last move of a call returns
abbrev pub answer_of : Action → Move → Answer
answer_of (Alloc layout) Works = Got null
answer_of action (ReadsWord base word value) = Got value
answer_of action (Claims r true) = Got r
answer_of action (Claims r false) = Got null
answer_of action (ReadsPosted stage) = Answered None
answer_of action (StoresStage stage roots) = Answered (Some stage)
answer_of action _ = Done

-- the state after a share. It changes at the last move of each call
abbrev pub state_after : (s : Setup) (m : Machine) (thread : ℕ) → m.State → List Move → m.State
state_after s m t start [] = start
state_after s m t start (move ∷ share) =
    let state = state_after s m t start share in
    if ends_call move (phase_of s t (steps_of (move ∷ share))) then m.after_answer state (answer_of (m.action state) move) else state

-- the thread has ended
abbrev pub HasEnded : Setup → (thread : ℕ) → List Move → Type 0
HasEnded s t share = phase_of s t (steps_of share) ≡ Ended

-- ---- what may come next

-- the root to be marked next: after this number of marks, null left out
abbrev pub next_root : List WordValue → (marked : List ℕ) → Option WordValue
next_root roots marked = slice_get (filter (λ r. not (r.cell == 0)) roots) (length marked)

-- the reference that a write has just read
abbrev pub old_of : List Move → WordValue
old_of (ReadsOldValue base word value ∷ share) = value
old_of _ = null

-- the move is one of a late thread's try to begin, whatever its machine will ask for
abbrev pub IsOfTry : Phase → Move → Type 0
IsOfTry Absent (ReadsPostedFirst stage) = Unit {0}
IsOfTry (Arriving posted) (EntersStage stage) = Unit {0}
IsOfTry Entering (ReadsPostedAgain stage) = Unit {0}
IsOfTry Leaving (StoresStage to roots) = (to ≡ done) × (roots ≡ [])
IsOfTry phase move = ⊥

-- the action asks for this move at this place of its call. The roots are those of the state
abbrev pub AsksFor : Setup → (roots : List WordValue) → (old : WordValue) → Action → Phase → Move → Type 0
AsksFor s roots old Local Ready Works = Unit {0}
AsksFor s roots old Wrong Ready GoesWrong = Unit {0}
AsksFor s roots old (Read base word) Ready (ReadsWord b w v) = (b ≡ base) × (w ≡ word)
AsksFor s roots old (StorePlain base word value) Ready (StoresPlain b w v) = (b ≡ base) × (w ≡ word) × (v ≡ value)
AsksFor s roots old (Write base word value) Ready (ReadsOldValue b w v) = (b ≡ base) × (w ≡ word)
AsksFor s roots old (Write base word value) (MarkingOld c i o) (Marks r) = r ≡ old
AsksFor s roots old (Write base word value) (MarkingNew c i o) (Marks r) = r ≡ value
AsksFor s roots old (Write base word value) (MarkingNew c i o) (StoresAfterBarrier b w v) = (b ≡ base) × (w ≡ word) × (v ≡ value)
AsksFor s roots old (Write base word value) (Writing c i o n) (StoresAfterBarrier b w v) = (b ≡ base) × (w ≡ word) × (v ≡ value)
AsksFor s roots old (Alloc layout) Ready Works = slice_index s.pools layout ≡ 0
AsksFor s roots old (Alloc layout) Ready (Claims r won) = IsOfLayout s layout r.cell
AsksFor s roots old (Alloc layout) (Trying tried) (Claims r won) = IsOfLayout s layout r.cell
AsksFor s roots old Safepoint Ready (ReadsPosted stage) = Unit {0}
AsksFor s roots old Safepoint (Answering next marked) (Marks r) = next_root roots marked ≡ Some r
AsksFor s roots old Safepoint (Answering next marked) (StoresStage to rs) = rs ≡ roots
AsksFor s roots old End Ready (StoresStage to rs) = (to ≡ done) × (rs ≡ [])
AsksFor s roots old action phase move = ⊥

-- the order of a thread's steps allows the move after this log
abbrev pub Follows : Setup → (thread : ℕ) → List Step → Option Step → Type 0
Follows s t log None = Unit {0}
Follows s t log (Some step) = MayFollow s (stage_of log) (phase_of s t log) step

-- the thread, begun in this state, makes this move next after this share
abbrev pub IsAsked : (s : Setup) (m : Machine) (thread : ℕ) → m.State → List Move → Move → Type 0
IsAsked s m t start share move =
    let state = state_after s m t start share in
    let phase = phase_of s t (steps_of share) in
    Follows s t (steps_of share) (step_of move) × (IsOfTry phase move ⊎ AsksFor s (m.roots state) (old_of share) (m.action state) phase move)

-- a share that the machine asks for, from its first move on
abbrev pub IsShare : (s : Setup) (m : Machine) (thread : ℕ) → m.State → List Move → Type 0
IsShare s m t start [] = Unit {0}
IsShare s m t start (move ∷ share) = IsShare s m t start share × IsAsked s m t start share move
