-- A thread makes no other move next than the one that its state and the heap determine, but for the cell that an alloc tries.
use Rattle.std.proofs.Common.{◌≡◌, ◌≢◌, ℕ, suc, ◌==◌, ◌||◌, not, Bool, true, false, Option, Some, None, List, [], ◌⊎◌, length, reverse, filter, slice_index, if◌then◌else◌, refl, sym, ap, ◌∙◌, subst, MatchOption, inl, inr, arith}
use Rattle.std.proofs.lemmas.List.{length-reverse}
use Rattle.std.proofs.lemmas.Option.{slice_get_past}
use Rattle.lemmas.specs.Numbers.{test_yes, test_no}
use Rattle.pools.specs.Heap.{Setup}
use Rattle.colours.specs.declared.place.Place.TheVariants.{Colour, Word}
use Rattle.colours.specs.Colours.{is_async}
use Rattle.colours.specs.Steps.{Step, Found, ask_of, place_of}
use Rattle.colours.specs.Mutator.{Phase, Ready, MarkingOld, MarkingNew, Writing, Trying, Answering, Absent, Arriving, Entering, Leaving, MayFollow, non_null, stage_of, phase_of}
use Rattle.colours.specs.Runs.{word_after, log_of, ByThread, MayHappen}
use Rattle.runs.specs.Machine.{WordValue, Action, Local, Read, StorePlain, Write, Alloc, Safepoint, End, Wrong, Machine}
use Rattle.runs.specs.Moves.{Move, Works, GoesWrong, ReadsWord, ReadsOldValue, Marks, StoresAfterBarrier, StoresPlain, Claims, ReadsPosted, StoresStage, ReadsPostedFirst, EntersStage, ReadsPostedAgain, cells_of, step_of, steps_of, state_after, next_root, old_of, IsOfTry, AsksFor, Follows}
use Rattle.runs.specs.ModuleRuns.{Happening, share_of, heap_of, birth_of, FindsBirth}
use Rattle.runs.specs.NextMoves.{Sight, IsSightOf, next_move, next_move_in, mark_or_answer, try_of, IsThisMove, NextMovesAreOnly}
use Rattle.runs.specs.NextMoveLemmas.{non_null_cells, length_cells}
use Rattle.runs.specs.TryLemmas.{some_cell}

-- references with one cell and one birth are one
one_reference : (r q : WordValue) → r.cell ≡ q.cell → r.birth ≡ q.birth → r ≡ q
one_reference r q cell birth = λ i. record { cell = cell i; birth = birth i }

-- the next move, if there is one, is this one
abbrev IsThis : Option Move → Move → Type 0
IsThis None move = ⊥
IsThis (Some next) move = IsThisMove next move

-- it is, by a test
by_test : (b c : Bool) (one other move : Move) → b ≡ c → IsThis (Some (if c then one else other)) move → IsThis (Some (if b then one else other)) move
by_test b c one other move e h = subst (λ (t : Bool). IsThis (Some (if t then one else other)) move) (sym e) h

-- where each root is marked none is left
none_next : (roots : List WordValue) (marked : List ℕ) → reverse marked ≡ non_null (cells_of roots) → next_root roots marked ≡ None
none_next roots marked all = slice_get_past rs (length marked) (omega (arith, same))
  where
    rs : List WordValue
    rs = filter (λ (q : WordValue). not (q.cell == 0)) roots

    same : length marked ≡ length rs
    same = sym (length-reverse marked) ∙ ap length (all ∙ non_null_cells roots) ∙ length_cells rs

-- a move that may follow, and finds what the words and births are
record Fits (s : Setup) (run : List Happening) (t stage seen : ℕ) (phase : Phase) (move : Move) : Type 0 where
  follows : MatchOption (step_of move) (Unit {0}) (λ step. MayFollow s stage phase step)
  finds : MatchOption (step_of move) (Unit {0}) (λ step. Found step (word_after s (heap_of run) (place_of (ask_of t seen step))))
  births : FindsBirth s run move

module _ (s : Setup) (run : List Happening) (h : Sight) (is : IsSightOf s run h) (t stage seen : ℕ) (roots : List WordValue) (old : WordValue) where
  -- what a word holds
  held : (base at : WordValue) (word place : ℕ) (value : WordValue) → at ≡ base → place ≡ word → word_after s (heap_of run) (Word at.cell place) ≡ value.cell
      → FindsBirth s run (ReadsWord at place value) → value ≡ h.word base.cell word
  held base at word place value a b cell birth =
      one_reference value (h.word at.cell place) (sym cell ∙ sym (is.word at.cell place)) (birth ∙ sym (is.word_birth at.cell place)) ∙ (λ i. h.word (a i).cell (b i))

  -- a try of one cell is one try
  one_try : (phase : Phase) (layout : ℕ) (tried : List ℕ) (r : WordValue) (won : Bool) → Fits s run t stage seen phase (Claims r won) → IsThisMove (try_of h (h.claim layout tried)) (Claims r won)
  one_try phase layout tried r won f same =
      let q : WordValue = h.claim layout tried in
      let birth : r.birth ≡ q.birth = f.births ∙ ap (λ c. suc (birth_of s run c)) same ∙ sym (is.claim_birth layout tried) in
      let wins : won ≡ h.is_blue q.cell = f.finds ∙ ap (λ c. word_after s (heap_of run) (Colour c) == 0) same ∙ sym (is.is_blue q.cell) in
      λ i. Claims (one_reference r q same birth i) (wins i)

  -- a move that an action asks for
  asked : (action : Action) (phase : Phase) (move : Move) → AsksFor s roots old action phase move → Fits s run t stage seen phase move → IsThis (next_move s h stage roots old action phase) move
  asked Local Ready Works a f = refl
  asked Wrong Ready GoesWrong a f = refl
  asked (Read base word) Ready (ReadsWord b w v) a f = let value = held base b word w v a.0 a.1 f.finds f.births in λ i. ReadsWord (a.0 i) (a.1 i) (value i)
  asked (StorePlain base word value) Ready (StoresPlain b w v) a f = λ i. StoresPlain (a.0 i) (a.1 i) (a.2 i)
  asked (Write base word value) Ready (ReadsOldValue b w v) a f = let found = held base b word w v a.0 a.1 f.finds f.births in λ i. ReadsOldValue (a.0 i) (a.1 i) (found i)
  asked (Write base word value) (MarkingOld c p o) (Marks r) a f = ap Marks a
  asked (Write base word value) (MarkingNew c p o) (Marks r) a f =
      let sync : is_async stage ≡ false = f.follows.0 in
      let some : (value.cell == 0) ≡ false = test_no value.cell 0 (subst (λ (v : WordValue). v.cell ≢ 0) a f.follows.1) in
      by_test (is_async stage || (value.cell == 0)) false (StoresAfterBarrier base word value) (Marks value) (Marks r) (rw (sync, some) refl) (ap Marks a)
  asked (Write base word value) (MarkingNew c p o) (StoresAfterBarrier b w v) a f = go (is_async stage) refl
    where
      stored : StoresAfterBarrier b w v ≡ StoresAfterBarrier base word value
      stored = λ i. StoresAfterBarrier (a.0 i) (a.1 i) (a.2 i)

      go : (x : Bool) → is_async stage ≡ x → IsThis (Some (if is_async stage || (value.cell == 0) then StoresAfterBarrier base word value else Marks value)) (StoresAfterBarrier b w v)
      go true e = by_test (is_async stage || (value.cell == 0)) true (StoresAfterBarrier base word value) (Marks value) (StoresAfterBarrier b w v) (rw e refl) stored
      go false e =
          let none : (value.cell == 0) ≡ true = test_yes value.cell 0 (subst (λ (x : WordValue). x.cell ≡ 0) a.2 (f.follows.2 e)) in
          by_test (is_async stage || (value.cell == 0)) true (StoresAfterBarrier base word value) (Marks value) (StoresAfterBarrier b w v) (rw (e, none) refl) stored
  asked (Write base word value) (Writing c p o n) (StoresAfterBarrier b w v) a f = λ i. StoresAfterBarrier (a.0 i) (a.1 i) (a.2 i)
  asked (Alloc layout) Ready Works a f = by_test (slice_index s.pools layout == 0) true Works (try_of h (h.claim layout [])) Works (test_yes (slice_index s.pools layout) 0 a) refl
  asked (Alloc layout) Ready (Claims r won) a f =
      let some = some_cell s layout r.cell a in
      by_test (slice_index s.pools layout == 0) false Works (try_of h (h.claim layout [])) (Claims r won) (test_no (slice_index s.pools layout) 0 (λ z. omega (arith, some, z))) (one_try Ready layout [] r won f)
  asked (Alloc layout) (Trying tried) (Claims r won) a f = one_try (Trying tried) layout tried r won f
  asked Safepoint Ready (ReadsPosted posted) a f = ap ReadsPosted (sym f.finds ∙ sym is.posted)
  asked Safepoint (Answering next marked) (Marks r) a f =
      by_test (is_async next) true (mark_or_answer next roots (next_root roots marked)) (StoresStage next roots) (Marks r) f.follows.0
      (subst (λ (o : Option WordValue). IsThis (Some (mark_or_answer next roots o)) (Marks r)) (sym a) refl)
  asked Safepoint (Answering next marked) (StoresStage to rs) a f = go (is_async next) refl
    where
      stored : StoresStage to rs ≡ StoresStage next roots
      stored = λ i. StoresStage (f.follows.0 i) (a i)

      go : (x : Bool) → is_async next ≡ x → IsThis (Some (if is_async next then mark_or_answer next roots (next_root roots marked) else StoresStage next roots)) (StoresStage to rs)
      go false e = by_test (is_async next) false (mark_or_answer next roots (next_root roots marked)) (StoresStage next roots) (StoresStage to rs) e stored
      go true e =
          let all : reverse marked ≡ non_null (cells_of roots) = f.follows.1 e ∙ ap (λ (l : List WordValue). non_null (cells_of l)) a in
          by_test (is_async next) true (mark_or_answer next roots (next_root roots marked)) (StoresStage next roots) (StoresStage to rs) e
          (subst (λ (o : Option WordValue). IsThis (Some (mark_or_answer next roots o)) (StoresStage to rs)) (sym (none_next roots marked all)) stored)
  asked End Ready (StoresStage to rs) a f = λ i. StoresStage (a.0 i) (a.1 i)
  asked action phase move a f = absurd a

  -- a move of a late thread's try to begin
  tried : (action : Action) (phase : Phase) (move : Move) → IsOfTry phase move → Fits s run t stage seen phase move → IsThis (next_move s h stage roots old action phase) move
  tried action Absent (ReadsPostedFirst posted) a f = ap ReadsPostedFirst (sym f.finds ∙ sym is.posted)
  tried action (Arriving posted) (EntersStage next) a f = ap EntersStage f.follows
  tried action Entering (ReadsPostedAgain posted) a f = ap ReadsPostedAgain (sym f.finds ∙ sym is.posted)
  tried action Leaving (StoresStage to rs) a f = λ i. StoresStage (a.0 i) (a.1 i)
  tried action phase move a f = absurd a

as_matched : (next : Option Move) (move : Move) → IsThis next move → MatchOption next ⊥ (λ one. IsThisMove one move)
as_matched None move h = h
as_matched (Some next) move h = h

-- what the words are of a move that may happen
found : (s : Setup) (run : List Happening) (t : ℕ) (o : Option Step) → MatchOption o (Unit {0}) (λ step. MayHappen s (heap_of run) (ByThread t step))
    → MatchOption o (Unit {0}) (λ step. Found step (word_after s (heap_of run) (place_of (ask_of t (stage_of (log_of t (heap_of run))) step))))
found s run t None h = tt
found s run t (Some step) h = h.2

-- what may follow
following : (s : Setup) (t : ℕ) (log : List Step) (o : Option Step) → Follows s t log o → MatchOption o (Unit {0}) (λ step. MayFollow s (stage_of log) (phase_of s t log) step)
following s t log None h = tt
following s t log (Some step) h = h

-- no other move is next
pub only_next : (s : Setup) (m : Machine) → NextMovesAreOnly s m
only_next s m starts run h t is move next = as_matched (next_move_in s m starts run h t) move (go next.1.1)
  where
    share : List Move
    share = share_of t run

    log : List Step
    log = steps_of share

    seen : ℕ
    seen = stage_of (log_of t (heap_of run))

    roots : List WordValue
    roots = m.roots (state_after s m t (starts t) share)

    action : Action
    action = m.action (state_after s m t (starts t) share)

    fits : Fits s run t (stage_of log) seen (phase_of s t log) move
    fits = record { follows = following s t log (step_of move) next.1.0; finds = found s run t (step_of move) next.2; births = next.3 }

    go : IsOfTry (phase_of s t log) move ⊎ AsksFor s roots (old_of share) action (phase_of s t log) move → IsThis (next_move s h (stage_of log) roots (old_of share) action (phase_of s t log)) move
    go (inl a) = tried s run h is t (stage_of log) seen roots (old_of share) action (phase_of s t log) move a fits
    go (inr a) = asked s run h is t (stage_of log) seen roots (old_of share) action (phase_of s t log) move a fits
