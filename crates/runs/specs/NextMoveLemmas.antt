-- The next move of a thread is one that its machine asks for, and that may happen.
use Rattle.std.proofs.Common.{◌≡◌, ◌≢◌, ◌≤◌, ◌<◌, ◌⊎◌, inl, inr, ℕ, zero, suc, ◌==◌, ◌||◌, ◌++◌, not, Bool, true, false, Option, Some, None, List, [], ◌∷◌, length, reverse, take, filter, slice_get, slice_index, get_or, if◌then◌else◌, refl, sym, ◌∙◌, subst, IsTrue, MatchOption}
use Rattle.std.proofs.Math.Path.{ap}
use Rattle.std.proofs.lemmas.Option.{slice_get_within, get_or_from_slice_get, slice_get_cases}
use Rattle.std.proofs.Math.Seq.{take-suc}
use Rattle.std.proofs.lemmas.List.{take_all, reverse-append}
use Rattle.lemmas.specs.Numbers.{test_true, test_false, not_null}
use Rattle.lemmas.specs.Lists.{IsIn}
use Rattle.pools.specs.Heap.{Setup, layout_of, is_late}
use Rattle.colours.specs.Colours.{is_async, done}
use Rattle.colours.specs.Steps.{Step, Found, ask_of, place_of}
use Rattle.colours.specs.Mutator.{Phase, Ready, MarkingOld, MarkingNew, Writing, Trying, Answering, Ended, Absent, Arriving, Entering, Leaving, is_between, MayFollow, non_null, stage_of, phase_of}
use Rattle.colours.specs.Runs.{ByThread, log_of, word_after, MayHappen}
use Rattle.runs.specs.Machine.{WordValue, Action, Local, Read, StorePlain, Write, Alloc, Safepoint, End, Wrong, Machine}
use Rattle.runs.specs.Moves.{Move, Works, GoesWrong, ReadsWord, ReadsOldValue, Marks, StoresAfterBarrier, StoresPlain, Claims, ReadsPosted, StoresStage, ReadsPostedFirst, EntersStage, ReadsPostedAgain, null, cells_of, step_of, steps_of, phase_afterwards, ends_call, answer_of, state_after, next_root, old_of, IsOfTry, AsksFor, Follows, IsShare}
use Rattle.runs.specs.ModuleRuns.{Happening, OfThread, share_of, heap_of, FindsBirth, IsNext}
use Rattle.runs.specs.NextMoves.{Sight, IsSightOf, next_move, next_move_in, mark_or_answer, try_of, TriesInPool, NextMovesAreNext}
use Rattle.runs.specs.Shares.{same_cell, is_share, log_is}
use Rattle.runs.specs.Calls.{get_in, phase_with}

-- ---- the roots to be marked

pub non_null_cells : (roots : List WordValue) → non_null (cells_of roots) ≡ cells_of (filter (λ (r : WordValue). not (r.cell == 0)) roots)
non_null_cells [] = refl
non_null_cells (r ∷ roots) = go (non_null_cells roots) (not (r.cell == 0))
  where
    go : non_null (cells_of roots) ≡ cells_of (filter (λ (q : WordValue). not (q.cell == 0)) roots) → (b : Bool)
        → (if b then r.cell ∷ non_null (cells_of roots) else non_null (cells_of roots)) ≡ cells_of (if b then r ∷ filter (λ (q : WordValue). not (q.cell == 0)) roots else filter (λ (q : WordValue). not (q.cell == 0)) roots)
    go e true = ap (λ (cs : List ℕ). r.cell ∷ cs) e
    go e false = e

pub length_cells : (rs : List WordValue) → length (cells_of rs) ≡ length rs
length_cells [] = refl
length_cells (r ∷ rs) = ap suc (length_cells rs)

get_cell : (rs : List WordValue) (k : ℕ) (r : WordValue) → slice_get rs k ≡ Some r → slice_get (cells_of rs) k ≡ Some r.cell
get_cell [] k r e = absurd cc
get_cell (q ∷ qs) zero r e = let same : q ≡ r = cc in ap (λ (x : WordValue). Some x.cell) same
get_cell (q ∷ qs) (suc k) r e = get_cell qs k r e

-- each root so far is marked, and this one is next
one_more : (roots : List WordValue) (marked : List ℕ) (r : WordValue) → next_root roots marked ≡ Some r → reverse marked ≡ take (length marked) (non_null (cells_of roots))
    → reverse (r.cell ∷ marked) ≡ take (length (r.cell ∷ marked)) (non_null (cells_of roots))
one_more roots marked r e h =
    let cs : List ℕ = non_null (cells_of roots) in
    let k : ℕ = length marked in
    let at : slice_get cs k ≡ Some r.cell = subst (λ (xs : List ℕ). slice_get xs k ≡ Some r.cell) (sym (non_null_cells roots)) (get_cell (filter (λ (q : WordValue). not (q.cell == 0)) roots) k r e) in
    let next : take (suc k) cs ≡ take k cs ++ (r.cell ∷ []) = take-suc cs k r.cell (slice_get_within cs k r.cell at) ∙ ap (λ (x : ℕ). take k cs ++ (x ∷ [])) (get_or_from_slice_get cs k r.cell r.cell at) in
    reverse-append (r.cell ∷ []) marked ∙ ap (λ (xs : List ℕ). xs ++ (r.cell ∷ [])) h ∙ sym next

-- none is left
all_marked : (roots : List WordValue) (marked : List ℕ) → next_root roots marked ≡ None → reverse marked ≡ take (length marked) (non_null (cells_of roots)) → reverse marked ≡ non_null (cells_of roots)
all_marked roots marked e h = h ∙ take_all (length marked) (non_null (cells_of roots)) short
  where
    rs : List WordValue
    rs = filter (λ (q : WordValue). not (q.cell == 0)) roots

    within : length rs ≤ length marked
    within = go (slice_get_cases rs (length marked)).1
      where
        go : ((x : WordValue) × (length marked < length rs) × (slice_get rs (length marked) ≡ Some x) × (get_or rs (length marked) x ≡ x)) ⊎ ((length rs ≤ length marked) × (slice_get rs (length marked) ≡ None)) → length rs ≤ length marked
        go (inl y) = let bad : Some y.0 ≡ None = sym y.2 ∙ e in absurd cc
        go (inr y) = y.0

    short : length (non_null (cells_of roots)) ≤ length marked
    short = rw (non_null_cells roots, length_cells rs) within

-- the roots that are handed out are not null
next_some : (rs : List WordValue) (k : ℕ) (r : WordValue) → slice_get (filter (λ (q : WordValue). not (q.cell == 0)) rs) k ≡ Some r → r.cell ≢ 0
next_some rs k r e = passes rs (get_in (filter (λ (q : WordValue). not (q.cell == 0)) rs) k r e)
  where
    passes : (rs : List WordValue) → IsIn r (filter (λ (q : WordValue). not (q.cell == 0)) rs) → r.cell ≢ 0
    passes [] h = absurd h
    passes (q ∷ qs) h = go (passes qs) (not (q.cell == 0)) refl h
      where
        go : (IsIn r (filter (λ (x : WordValue). not (x.cell == 0)) qs) → r.cell ≢ 0) → (b : Bool) → not (q.cell == 0) ≡ b
            → IsIn r (if b then q ∷ filter (λ (x : WordValue). not (x.cell == 0)) qs else filter (λ (x : WordValue). not (x.cell == 0)) qs) → r.cell ≢ 0
        go rest true n (inl same) = λ z. not_null q.cell n (sym (same_cell same) ∙ z)
        go rest true n (inr x) = rest x
        go rest false n x = rest x

-- ---- where a thread is agrees with its instruction

-- the place in the call is one of the action's calls, and names the action's words and values
abbrev Fits : (roots : List WordValue) (old : WordValue) → Action → Phase → Type 0
Fits roots old action Ready = Unit {0}
Fits roots old action Ended = Unit {0}
Fits roots old action Absent = Unit {0}
Fits roots old action (Arriving posted) = Unit {0}
Fits roots old action Entering = Unit {0}
Fits roots old action Leaving = Unit {0}
Fits roots old (Write base word value) (MarkingOld c i o) = (c ≡ base.cell) × (i ≡ word) × (o ≡ old.cell)
Fits roots old (Write base word value) (MarkingNew c i o) = (c ≡ base.cell) × (i ≡ word)
Fits roots old (Write base word value) (Writing c i o n) = (c ≡ base.cell) × (i ≡ word) × (n ≡ value.cell)
Fits roots old (Alloc layout) (Trying tried) = Unit {0}
Fits roots old Safepoint (Answering next marked) = IsTrue (is_async next) → reverse marked ≡ take (length marked) (non_null (cells_of roots))
Fits roots old action phase = ⊥

fits_at : (s : Setup) (stage : ℕ) (roots : List WordValue) (share : List Move) (action : Action) (phase : Phase) (move : Move) → AsksFor s roots (old_of share) action phase move
    → Fits roots (old_of share) action phase → Fits roots (old_of (move ∷ share)) action (phase_afterwards s stage phase (step_of move))
fits_at s stage roots share Local Ready Works a f = tt
fits_at s stage roots share Wrong Ready GoesWrong a f = tt
fits_at s stage roots share (Read base word) Ready (ReadsWord b w v) a f = tt
fits_at s stage roots share (StorePlain base word value) Ready (StoresPlain b w v) a f = tt
fits_at s stage roots share (Write base word value) Ready (ReadsOldValue b w v) a f = go (v.cell == 0)
  where
    go : (z : Bool) → Fits roots v (Write base word value) (if z then MarkingNew b.cell w v.cell else MarkingOld b.cell w v.cell)
    go true = (same_cell a.0, a.1)
    go false = (same_cell a.0, a.1, refl)
fits_at s stage roots share (Write base word value) (MarkingOld c i o) (Marks r) a f = (f.0, f.1)
fits_at s stage roots share (Write base word value) (MarkingNew c i o) (Marks r) a f = (f.0, f.1, same_cell a)
fits_at s stage roots share (Write base word value) (MarkingNew c i o) (StoresAfterBarrier b w v) a f = tt
fits_at s stage roots share (Write base word value) (Writing c i o n) (StoresAfterBarrier b w v) a f = tt
fits_at s stage roots share (Alloc layout) Ready Works a f = tt
fits_at s stage roots share (Alloc layout) Ready (Claims r true) a f = tt
fits_at s stage roots share (Alloc layout) Ready (Claims r false) a f = go (length (r.cell ∷ []) == slice_index s.pools (layout_of s r.cell))
  where
    go : (z : Bool) → Fits roots null (Alloc layout) (if z then Ready else Trying (r.cell ∷ []))
    go true = tt
    go false = tt
fits_at s stage roots share (Alloc layout) (Trying tried) (Claims r true) a f = tt
fits_at s stage roots share (Alloc layout) (Trying tried) (Claims r false) a f = go (length (r.cell ∷ tried) == slice_index s.pools (layout_of s r.cell))
  where
    go : (z : Bool) → Fits roots null (Alloc layout) (if z then Ready else Trying (r.cell ∷ tried))
    go true = tt
    go false = tt
fits_at s stage roots share Safepoint Ready (ReadsPosted posted) a f = go (posted == stage)
  where
    go : (z : Bool) → Fits roots null Safepoint (if z then Ready else Answering posted [])
    go true = tt
    go false = λ x. refl
fits_at s stage roots share Safepoint (Answering next marked) (Marks r) a f = λ x. one_more roots marked r a (f x)
fits_at s stage roots share Safepoint (Answering next marked) (StoresStage to rs) a f = go (to == done)
  where
    go : (z : Bool) → Fits roots null Safepoint (if z then Ended else Ready)
    go true = tt
    go false = tt
fits_at s stage roots share End Ready (StoresStage to rs) a f = go (to == done)
  where
    go : (z : Bool) → Fits roots null End (if z then Ended else Ready)
    go true = tt
    go false = tt
fits_at s stage roots share action phase move a f = absurd a

-- to a late thread's try each action fits
fits_try : (s : Setup) (stage : ℕ) (roots : List WordValue) (old : WordValue) (action : Action) (phase : Phase) (move : Move) → IsOfTry phase move
    → Fits roots old action (phase_afterwards s stage phase (step_of move))
fits_try s stage roots old action Absent (ReadsPostedFirst posted) a = tt
fits_try s stage roots old action (Arriving posted) (EntersStage next) a = tt
fits_try s stage roots old action Entering (ReadsPostedAgain posted) a = go (posted == stage)
  where
    go : (z : Bool) → Fits roots old action (if z then Ready else Leaving)
    go true = tt
    go false = tt
fits_try s stage roots old action Leaving (StoresStage to rs) a = tt
fits_try s stage roots old action phase move a = absurd a

pub ends_between : (move : Move) (phase : Phase) → is_between phase ≡ false → ends_call move phase ≡ false
ends_between (ReadsPostedAgain stage) phase e = refl
ends_between move phase e = e

-- between two calls anything fits
fits_between : (m : Machine) (state next : m.State) (old : WordValue) (move : Move) (phase : Phase) → Fits (m.roots state) old (m.action state) phase
    → Fits (m.roots (if ends_call move phase then next else state)) old (m.action (if ends_call move phase then next else state)) phase
fits_between m state next old move Ready f = tt
fits_between m state next old move Ended f = tt
fits_between m state next old move Absent f = tt
fits_between m state next old move (Arriving posted) f = tt
fits_between m state next old move Entering f = tt
fits_between m state next old move Leaving f = tt
fits_between m state next old move (MarkingOld c i o) f = rw (ends_between move (MarkingOld c i o) refl) f
fits_between m state next old move (MarkingNew c i o) f = rw (ends_between move (MarkingNew c i o) refl) f
fits_between m state next old move (Writing c i o n) f = rw (ends_between move (Writing c i o n) refl) f
fits_between m state next old move (Trying tried) f = rw (ends_between move (Trying tried) refl) f
fits_between m state next old move (Answering posted marked) f = rw (ends_between move (Answering posted marked) refl) f

fits : (s : Setup) (m : Machine) (t : ℕ) (start : m.State) (share : List Move) → IsShare s m t start share
    → Fits (m.roots (state_after s m t start share)) (old_of share) (m.action (state_after s m t start share)) (phase_of s t (steps_of share))
fits s m t start [] h = go (is_late s t)
  where
    go : (b : Bool) → Fits (m.roots start) null (m.action start) (if b then Absent else Ready)
    go true = tt
    go false = tt
fits s m t start (move ∷ share) h =
    fits_between m state (m.after_answer state (answer_of (m.action state) move)) (old_of (move ∷ share)) move (phase_of s t (steps_of (move ∷ share)))
    (subst (λ (next : Phase). Fits (m.roots state) (old_of (move ∷ share)) (m.action state) next) (phase_with s t (steps_of share) (step_of move)) (go (fits s m t start share h.0) h.1.1))
  where
    state : m.State
    state = state_after s m t start share

    stage : ℕ
    stage = stage_of (steps_of share)

    phase : Phase
    phase = phase_of s t (steps_of share)

    go : Fits (m.roots state) (old_of share) (m.action state) phase → IsOfTry phase move ⊎ AsksFor s (m.roots state) (old_of share) (m.action state) phase move → Fits (m.roots state) (old_of (move ∷ share)) (m.action state) (phase_afterwards s stage phase (step_of move))
    go f (inl a) = fits_try s stage (m.roots state) (old_of (move ∷ share)) (m.action state) phase move a
    go f (inr a) = fits_at s stage (m.roots state) share (m.action state) phase move a f

-- ---- what is chosen is asked

-- a move that the grammar lets follow, and that is of a try or that the instruction asks for
abbrev IsFine : Setup → (stage : ℕ) → (roots : List WordValue) → (old : WordValue) → Action → Phase → Move → Type 0
IsFine s stage roots old action phase move =
    MatchOption (step_of move) (Unit {0}) (λ step. MayFollow s stage phase step) × (IsOfTry phase move ⊎ AsksFor s roots old action phase move)

chosen : (s : Setup) (h : Sight) (stage : ℕ) (roots : List WordValue) (old : WordValue) (action : Action) (phase : Phase) → Fits roots old action phase → TriesInPool s h action phase
    → MatchOption (next_move s h stage roots old action phase) (Unit {0}) (IsFine s stage roots old action phase)
chosen s h stage roots old action Absent f c = (tt, inl tt)
chosen s h stage roots old action (Arriving posted) f c = (refl, inl tt)
chosen s h stage roots old action Entering f c = (tt, inl tt)
chosen s h stage roots old action Leaving f c = ((refl, refl), inl (refl, refl))
chosen s h stage roots old action Ended f c = tt
chosen s h stage roots old Local Ready f c = (tt, inr tt)
chosen s h stage roots old Wrong Ready f c = (tt, inr tt)
chosen s h stage roots old (Read base word) Ready f c = (tt, inr (refl, refl))
chosen s h stage roots old (StorePlain base word value) Ready f c = (tt, inr (refl, refl, refl))
chosen s h stage roots old (Write base word value) Ready f c = (tt, inr (refl, refl))
chosen s h stage roots old (Write base word value) (MarkingOld i w o) f c = (sym f.2, inr refl)
chosen s h stage roots old (Write base word value) (MarkingNew i w o) f c = go (is_async stage) (value.cell == 0) refl refl
  where
    go : (a z : Bool) → is_async stage ≡ a → (value.cell == 0) ≡ z
        → IsFine s stage roots old (Write base word value) (MarkingNew i w o) (if a || z then StoresAfterBarrier base word value else Marks value)
    go true z e n = ((sym f.0, sym f.1, λ x. absurd cc), inr (refl, refl, refl))
    go false true e n = ((sym f.0, sym f.1, λ x. test_true value.cell 0 n), inr (refl, refl, refl))
    go false false e n = ((e, test_false value.cell 0 n), inr refl)
chosen s h stage roots old (Write base word value) (Writing i w o n) f c = ((sym f.0, sym f.1, sym f.2), inr (refl, refl, refl))
chosen s h stage roots old (Alloc layout) Ready f c = go (slice_index s.pools layout == 0) refl
  where
    go : (z : Bool) → (slice_index s.pools layout == 0) ≡ z → IsFine s stage roots old (Alloc layout) Ready (if z then Works else try_of h (h.claim layout []))
    go true e = (tt, inr (test_true (slice_index s.pools layout) 0 e))
    go false e = let x = c (test_false (slice_index s.pools layout) 0 e) in (x.0, inr x.1)
chosen s h stage roots old (Alloc layout) (Trying tried) f c = (c.0, inr c.1)
chosen s h stage roots old Safepoint Ready f c = (tt, inr tt)
chosen s h stage roots old Safepoint (Answering next marked) f c = go (is_async next) refl
  where
    go : (a : Bool) → is_async next ≡ a → IsFine s stage roots old Safepoint (Answering next marked) (if a then mark_or_answer next roots (next_root roots marked) else StoresStage next roots)
    go false e = ((refl, λ x. absurd cc), inr refl)
    go true e = at (next_root roots marked) refl
      where
        at : (o : Option WordValue) → next_root roots marked ≡ o → IsFine s stage roots old Safepoint (Answering next marked) (mark_or_answer next roots o)
        at None n = ((refl, λ x. all_marked roots marked n (f e)), inr refl)
        at (Some r) n = ((e, next_some roots (length marked) r n), inr n)
chosen s h stage roots old End Ready f c = ((refl, refl), inr (refl, refl))
chosen s h stage roots old action phase f c = tt

-- only to a thread that has ended there is none
none_left : (s : Setup) (h : Sight) (stage : ℕ) (roots : List WordValue) (old : WordValue) (action : Action) (phase : Phase) → Fits roots old action phase
    → next_move s h stage roots old action phase ≡ None → phase ≡ Ended
none_left s h stage roots old action Ended f e = refl
none_left s h stage roots old action Absent f e = absurd cc
none_left s h stage roots old action (Arriving posted) f e = absurd cc
none_left s h stage roots old action Entering f e = absurd cc
none_left s h stage roots old action Leaving f e = absurd cc
none_left s h stage roots old Local Ready f e = absurd cc
none_left s h stage roots old Wrong Ready f e = absurd cc
none_left s h stage roots old (Read base word) Ready f e = absurd cc
none_left s h stage roots old (StorePlain base word value) Ready f e = absurd cc
none_left s h stage roots old (Write base word value) Ready f e = absurd cc
none_left s h stage roots old (Write base word value) (MarkingOld i w o) f e = absurd cc
none_left s h stage roots old (Write base word value) (MarkingNew i w o) f e = absurd cc
none_left s h stage roots old (Write base word value) (Writing i w o n) f e = absurd cc
none_left s h stage roots old (Alloc layout) Ready f e = absurd cc
none_left s h stage roots old (Alloc layout) (Trying tried) f e = absurd cc
none_left s h stage roots old Safepoint Ready f e = absurd cc
none_left s h stage roots old Safepoint (Answering next marked) f e = absurd cc
none_left s h stage roots old End Ready f e = absurd cc
none_left s h stage roots old action phase f e = absurd f

-- ---- and it happens

-- what the move says of the heap is there
abbrev StandsThere : Setup → List Happening → (t stage : ℕ) → Move → Type 0
StandsThere s run t stage move = MatchOption (step_of move) (Unit {0}) (λ step. Found step (word_after s (heap_of run) (place_of (ask_of t stage step)))) × FindsBirth s run move

found_at : (s : Setup) (run : List Happening) (h : Sight) → IsSightOf s run h → (t stage : ℕ) (roots : List WordValue) (old : WordValue) (action : Action) (phase : Phase)
    → MatchOption (next_move s h stage roots old action phase) (Unit {0}) (StandsThere s run t stage)
found_at s run h k t stage roots old action Absent = (sym k.posted, tt)
found_at s run h k t stage roots old action (Arriving posted) = (tt, tt)
found_at s run h k t stage roots old action Entering = (sym k.posted, tt)
found_at s run h k t stage roots old action Leaving = (tt, tt)
found_at s run h k t stage roots old action Ended = tt
found_at s run h k t stage roots old Local Ready = (tt, tt)
found_at s run h k t stage roots old Wrong Ready = (tt, tt)
found_at s run h k t stage roots old (Read base word) Ready = (sym (k.word base.cell word), k.word_birth base.cell word)
found_at s run h k t stage roots old (StorePlain base word value) Ready = (tt, tt)
found_at s run h k t stage roots old (Write base word value) Ready = (sym (k.word base.cell word), k.word_birth base.cell word)
found_at s run h k t stage roots old (Write base word value) (MarkingOld i w o) = (tt, tt)
found_at s run h k t stage roots old (Write base word value) (MarkingNew i w o) = go (is_async stage || (value.cell == 0))
  where
    go : (z : Bool) → StandsThere s run t stage (if z then StoresAfterBarrier base word value else Marks value)
    go true = (tt, tt)
    go false = (tt, tt)
found_at s run h k t stage roots old (Write base word value) (Writing i w o n) = (tt, tt)
found_at s run h k t stage roots old (Alloc layout) Ready = go (slice_index s.pools layout == 0)
  where
    go : (z : Bool) → StandsThere s run t stage (if z then Works else try_of h (h.claim layout []))
    go true = (tt, tt)
    go false = (k.is_blue (h.claim layout []).cell, k.claim_birth layout [])
found_at s run h k t stage roots old (Alloc layout) (Trying tried) = (k.is_blue (h.claim layout tried).cell, k.claim_birth layout tried)
found_at s run h k t stage roots old Safepoint Ready = (sym k.posted, tt)
found_at s run h k t stage roots old Safepoint (Answering next marked) = go (is_async next)
  where
    go : (z : Bool) → StandsThere s run t stage (if z then mark_or_answer next roots (next_root roots marked) else StoresStage next roots)
    go false = (tt, tt)
    go true = at (next_root roots marked)
      where
        at : (o : Option WordValue) → StandsThere s run t stage (mark_or_answer next roots o)
        at None = (tt, tt)
        at (Some r) = (tt, tt)
found_at s run h k t stage roots old End Ready = (tt, tt)
found_at s run h k t stage roots old action phase = tt

-- the next move of a thread may happen next, and there is one unless the thread has ended
pub next_is : (s : Setup) (m : Machine) → NextMovesAreNext s m
next_is s m starts run h t r k lt c = record {
  is_next = joined (next_move_in s m starts run h t)
      (chosen s h stage (m.roots state) (old_of share) (m.action state) (phase_of s t (steps_of share)) fit c)
      (found_at s run h k t stage (m.roots state) (old_of share) (m.action state) (phase_of s t (steps_of share)));
  ends = none_left s h stage (m.roots state) (old_of share) (m.action state) (phase_of s t (steps_of share)) fit;
}
  where
    share : List Move
    share = share_of t run

    state : m.State
    state = state_after s m t (starts t) share

    stage : ℕ
    stage = stage_of (steps_of share)

    fit : Fits (m.roots state) (old_of share) (m.action state) (phase_of s t (steps_of share))
    fit = fits s m t (starts t) share (is_share s m starts run t r)

    follows : (o : Option Step) → MatchOption o (Unit {0}) (λ step. MayFollow s stage (phase_of s t (steps_of share)) step) → Follows s t (steps_of share) o
    follows None f = tt
    follows (Some step) f = f

    MayComeNext : List Step → Step → Type 0
    MayComeNext log step = MayFollow s (stage_of log) (phase_of s t log) step × Found step (word_after s (heap_of run) (place_of (ask_of t (stage_of log) step)))

    happens : (o : Option Step) → MatchOption o (Unit {0}) (λ step. MayFollow s stage (phase_of s t (steps_of share)) step)
        → MatchOption o (Unit {0}) (λ step. Found step (word_after s (heap_of run) (place_of (ask_of t stage step)))) → MatchOption o (Unit {0}) (λ step. MayHappen s (heap_of run) (ByThread t step))
    happens None f x = tt
    happens (Some step) f x =
        let y : MayComeNext (log_of t (heap_of run)) step = subst (λ (log : List Step). MayComeNext log step) (sym (log_is t run)) (f, x) in
        (lt, y.0, y.1)

    joined : (o : Option Move) → MatchOption o (Unit {0}) (IsFine s stage (m.roots state) (old_of share) (m.action state) (phase_of s t (steps_of share)))
        → MatchOption o (Unit {0}) (StandsThere s run t stage) → MatchOption o (Unit {0}) (λ move. IsNext s m starts run (OfThread t move))
    joined None f x = tt
    joined (Some move) f x = (lt, (follows (step_of move) f.0, f.1), happens (step_of move) f.0 x.0, x.1)
