-- The one next move of a thread, from the contents of the heap.
use Rattle.std.specs.Prelude.{ℕ, suc, ◌<◌, ◌≡◌, ◌≢◌, ◌==◌, ◌||◌, Bool, Option, Some, None, List, [], slice_index, MatchOption, if◌then◌else◌}
use Rattle.pools.specs.Heap.{Setup, IsOfLayout}
use Rattle.colours.specs.declared.place.Place.TheVariants.{Posted, Colour, Word}
use Rattle.colours.specs.Colours.{is_async, done}
use Rattle.colours.specs.Mutator.{Phase, Ready, MarkingOld, MarkingNew, Writing, Trying, Answering, Ended, Absent, Arriving, Entering, Leaving, MayTry, stage_of, phase_of}
use Rattle.colours.specs.Runs.{word_after}
use Rattle.runs.specs.Machine.{WordValue, Action, Local, Read, StorePlain, Write, Alloc, Safepoint, End, Wrong, Machine}
use Rattle.runs.specs.Moves.{Move, Works, GoesWrong, ReadsWord, ReadsOldValue, Marks, StoresAfterBarrier, StoresPlain, Claims, ReadsPosted, StoresStage, ReadsPostedFirst, EntersStage, ReadsPostedAgain, next_root, steps_of, state_after, old_of}
use Rattle.runs.specs.ModuleRuns.{Happening, OfThread, share_of, heap_of, birth_of, birth_in, IsNext, IsModuleRun}

-- the contents of the heap, and the order in which cells are tried
pub record Sight : Type 0 where
  pub word : (cell word : ℕ) → WordValue
  pub posted : ℕ
  pub claim : (layout : ℕ) (tried : List ℕ) → WordValue  -- the cell that is tried next, with the birth that it would get
  pub is_blue : (cell : ℕ) → Bool

-- the mark of the next root, or the answer where none is left
abbrev pub mark_or_answer : (stage : ℕ) → List WordValue → Option WordValue → Move
mark_or_answer stage roots None = StoresStage stage roots
mark_or_answer stage roots (Some r) = Marks r

-- the try of this cell
abbrev pub try_of : Sight → WordValue → Move
try_of h r = Claims r (h.is_blue r.cell)

-- the next move of a thread at this stage, in this phase of the call that its action asks for
abbrev pub next_move : Setup → Sight → (stage : ℕ) → (roots : List WordValue) → (old : WordValue) → Action → Phase → Option Move
next_move s h stage roots old action Absent = Some (ReadsPostedFirst h.posted)
next_move s h stage roots old action (Arriving posted) = Some (EntersStage posted)
next_move s h stage roots old action Entering = Some (ReadsPostedAgain h.posted)
next_move s h stage roots old action Leaving = Some (StoresStage done [])
next_move s h stage roots old action Ended = None
next_move s h stage roots old Local Ready = Some Works
next_move s h stage roots old Wrong Ready = Some GoesWrong
next_move s h stage roots old (Read base word) Ready = Some (ReadsWord base word (h.word base.cell word))
next_move s h stage roots old (StorePlain base word value) Ready = Some (StoresPlain base word value)
next_move s h stage roots old (Write base word value) Ready = Some (ReadsOldValue base word (h.word base.cell word))
next_move s h stage roots old (Write base word value) (MarkingOld c i o) = Some (Marks old)
next_move s h stage roots old (Write base word value) (MarkingNew c i o) =
    Some (if is_async stage || (value.cell == 0) then StoresAfterBarrier base word value else Marks value)
next_move s h stage roots old (Write base word value) (Writing c i o n) = Some (StoresAfterBarrier base word value)
next_move s h stage roots old (Alloc layout) Ready = Some (if slice_index s.pools layout == 0 then Works else try_of h (h.claim layout []))
next_move s h stage roots old (Alloc layout) (Trying tried) = Some (try_of h (h.claim layout tried))
next_move s h stage roots old Safepoint Ready = Some (ReadsPosted h.posted)
next_move s h stage roots old Safepoint (Answering next marked) =
    Some (if is_async next then mark_or_answer next roots (next_root roots marked) else StoresStage next roots)
next_move s h stage roots old End Ready = Some (StoresStage done [])
next_move s h stage roots old action phase = None

-- the next move of a thread after a run
abbrev pub next_move_in : (s : Setup) (m : Machine) (starts : ℕ → m.State) → List Happening → Sight → (thread : ℕ) → Option Move
next_move_in s m starts run h t =
    let share = share_of t run in
    let state = state_after s m t (starts t) share in
    next_move s h (stage_of (steps_of share)) (m.roots state) (old_of share) (m.action state) (phase_of s t (steps_of share))

-- what is seen are the contents of the heap at the end of the run
pub record IsSightOf (s : Setup) (run : List Happening) (h : Sight) : Type 0 where
  pub word : (c i : ℕ) → (h.word c i).cell ≡ word_after s (heap_of run) (Word c i)
  pub word_birth : (c i : ℕ) → (h.word c i).birth ≡ birth_in run c i
  pub posted : h.posted ≡ word_after s (heap_of run) Posted
  pub is_blue : (c : ℕ) → h.is_blue c ≡ (word_after s (heap_of run) (Colour c) == 0)
  pub claim_birth : (layout : ℕ) (tried : List ℕ) → (h.claim layout tried).birth ≡ suc (birth_of s run (h.claim layout tried).cell)

-- that sight, where cells are tried in this order
abbrev pub sight_after : Setup → List Happening → (order : (layout : ℕ) → (tried : List ℕ) → ℕ) → Sight
sight_after s run order = record {
  word = λ c i. record { cell = word_after s (heap_of run) (Word c i); birth = birth_in run c i };
  posted = word_after s (heap_of run) Posted;
  claim = λ layout tried. record { cell = order layout tried; birth = suc (birth_of s run (order layout tried)) };
  is_blue = λ c. word_after s (heap_of run) (Colour c) == 0;
}

-- the cell that an alloc tries next is one of the pool that was not tried
abbrev pub TriesInPool : Setup → Sight → Action → Phase → Type 0
TriesInPool s h (Alloc layout) Ready = slice_index s.pools layout ≢ 0 → MayTry s [] (h.claim layout []).cell × IsOfLayout s layout (h.claim layout []).cell
TriesInPool s h (Alloc layout) (Trying tried) = MayTry s tried (h.claim layout tried).cell × IsOfLayout s layout (h.claim layout tried).cell
TriesInPool s h action phase = Unit {0}

-- the same for a thread after a run
abbrev pub TriesInPoolAfter : (s : Setup) (m : Machine) (starts : ℕ → m.State) → List Happening → Sight → (thread : ℕ) → Type 0
TriesInPoolAfter s m starts run h t =
    TriesInPool s h (m.action (state_after s m t (starts t) (share_of t run))) (phase_of s t (steps_of (share_of t run)))

-- after every run, the next move of a thread from the heap there may happen next. There is one unless the thread has ended
pub record NextMoveIsNext (s : Setup) (m : Machine) (starts : ℕ → m.State) (run : List Happening) (h : Sight) (t : ℕ) : Type 0 where
  pub is_next : MatchOption (next_move_in s m starts run h t) (Unit {0}) (λ move. IsNext s m starts run (OfThread t move))
  pub ends : next_move_in s m starts run h t ≡ None → phase_of s t (steps_of (share_of t run)) ≡ Ended

-- the law of next moves
abbrev pub NextMovesAreNext : (s : Setup) (m : Machine) → Type 0
NextMovesAreNext s m = (starts : ℕ → m.State) (run : List Happening) (h : Sight) (t : ℕ) → IsModuleRun s m starts run → IsSightOf s run h → t < s.threads
    → TriesInPoolAfter s m starts run h t → NextMoveIsNext s m starts run h t

-- a move is this one; where both try a cell, they are one if their cells are
abbrev pub IsThisMove : (next move : Move) → Type 0
IsThisMove (Claims r won) (Claims q other) = q.cell ≡ r.cell → Claims q other ≡ Claims r won
IsThisMove next move = move ≡ next

-- the law of no other move: after a run, a thread has no next move but the one from the heap there; only the cell of a try may be another
abbrev pub NextMovesAreOnly : (s : Setup) (m : Machine) → Type 0
NextMovesAreOnly s m = (starts : ℕ → m.State) (run : List Happening) (h : Sight) (t : ℕ) → IsSightOf s run h → (move : Move) → IsNext s m starts run (OfThread t move)
    → MatchOption (next_move_in s m starts run h t) ⊥ (λ next. IsThisMove next move)
