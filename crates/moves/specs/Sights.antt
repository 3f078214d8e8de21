-- Sights that are alike show a thread the same next move.
use Rattle.std.proofs.Common.{◌≡◌, inl, inr, ℕ, ◌==◌, suc, Some, List, [], length, slice_index, min, refl, sym, ap, ◌∙◌, if◌then◌else◌, arith}
use Rattle.std.proofs.lemmas.Bool.{cases_lt}
use Rattle.std.proofs.lemmas.List.{get_or_past}
use Rattle.pools.specs.Heap.{Setup}
use Rattle.colours.specs.declared.place.Place.TheVariants.{Posted, Colour, Word}
use Rattle.colours.specs.Steps.{Step}
use Rattle.colours.specs.Mutator.{Phase, Ready, Trying, Absent, Entering, stage_of, phase_of}
use Rattle.runs.specs.Machine.{WordValue, Action, Read, Write, Alloc, Safepoint, Machine}
use Rattle.runs.specs.Moves.{Move, Works, ReadsWord, ReadsOldValue, Claims, ReadsPosted, ReadsPostedFirst, ReadsPostedAgain, steps_of, state_after, old_of}
use Rattle.runs.specs.ModuleRuns.{Happening, share_of}
use Rattle.runs.specs.NextMoves.{Sight, next_move, try_of, sight_after}
use Rattle.runs.specs.Tries.{hint_in, cells_of_pool, by_hint, AreHints}
use Rattle.runs.specs.Ends.{Standing, StandsAfter, next_move_of}
use Rattle.runs.specs.Standings.{goes_on}
use Rattle.moves.specs.declared.actor.Actor.TheVariants.{Thread}
use Rattle.moves.specs.declared.shared.Shared.{Shared}
use Rattle.moves.specs.Rows.{word_at}
use Rattle.moves.specs.Runs.{by_thread, next_by}
use Rattle.moves.specs.Shared.{AreAfter}
use Rattle.moves.specs.Stands.{cells_by, sight_in}

-- they show the same everywhere
record AreAlike (h k : Sight) : Type 0 where
  word : (c i : ℕ) → h.word c i ≡ k.word c i
  posted : h.posted ≡ k.posted
  claim : (layout : ℕ) (tried : List ℕ) → h.claim layout tried ≡ k.claim layout tried
  is_blue : (c : ℕ) → h.is_blue c ≡ k.is_blue c

-- references with one cell and one birth are one
one_reference : (a b : WordValue) → a.cell ≡ b.cell → a.birth ≡ b.birth → a ≡ b
one_reference a b cell birth =
    let keep : WordValue → WordValue = λ r. r in
    ap (λ n. keep (record { cell = n; birth = a.birth })) cell ∙ ap (λ n. keep (record { cell = b.cell; birth = n })) birth

-- the same try
alike_try : (h k : Sight) → AreAlike h k → (layout : ℕ) (tried : List ℕ) → try_of h (h.claim layout tried) ≡ try_of k (k.claim layout tried)
alike_try h k a layout tried = ap (λ (r : WordValue). Claims r (h.is_blue r.cell)) (a.claim layout tried) ∙ ap (Claims (k.claim layout tried)) (a.is_blue (k.claim layout tried).cell)

-- the same next move
alike_next : (s : Setup) (h k : Sight) → AreAlike h k → (stage : ℕ) (roots : List WordValue) (old : WordValue) (action : Action) (phase : Phase)
    → next_move s h stage roots old action phase ≡ next_move s k stage roots old action phase
alike_next s h k a stage roots old action Absent = ap (λ n. Some (ReadsPostedFirst n)) a.posted
alike_next s h k a stage roots old action Entering = ap (λ n. Some (ReadsPostedAgain n)) a.posted
alike_next s h k a stage roots old (Read base word) Ready = ap (λ (r : WordValue). Some (ReadsWord base word r)) (a.word base.cell word)
alike_next s h k a stage roots old (Write base word value) Ready = ap (λ (r : WordValue). Some (ReadsOldValue base word r)) (a.word base.cell word)
alike_next s h k a stage roots old (Alloc layout) Ready = ap (λ (m : Move). Some (if slice_index s.pools layout == 0 then Works else m)) (alike_try h k a layout [])
alike_next s h k a stage roots old (Alloc layout) (Trying tried) = ap (λ (m : Move). Some m) (alike_try h k a layout tried)
alike_next s h k a stage roots old Safepoint Ready = ap (λ n. Some (ReadsPosted n)) a.posted
alike_next s h k a stage roots old action phase = refl

-- a thread with these hints tries the cells in the order of its log
same_cells : (s : Setup) (log : List Step) (hints : List ℕ) → AreHints s log hints → (layout : ℕ) → cells_of_pool s layout (hint_in s layout log) ≡ cells_by s hints layout
same_cells s log hints are layout = elim (cases_lt layout (length s.pools)) [
  | inl lt ↦ ap (cells_of_pool s layout) (sym (are.each layout lt))
  | inr le ↦
      let none : slice_index s.pools layout ≡ 0 = get_or_past s.pools layout 0 le in
      let low : min (hint_in s layout log) 0 ≡ 0 = omega arith in
      let lower : min (slice_index hints layout) 0 ≡ 0 = omega arith in
      rw (none, low, lower) refl
]

-- the state after a run, seen in the run and in the words
alike_after : (s : Setup) (run : List Happening) (log : List Step) (shared : Shared) (hints : List ℕ) → AreAfter s run shared → AreHints s log hints → AreAlike (sight_after s run (by_hint s log)) (sight_in s shared hints)
alike_after s run log shared hints b are = record {
  word = λ c i. sym (one_reference (word_at shared.words c i) ((sight_after s run (by_hint s log)).word c i) (b.words (Word c i)) (b.word_births c i));
  posted = sym (b.words Posted);
  claim = λ layout tried.
      let same = ap (λ (cells : List ℕ). slice_index cells (length tried)) (same_cells s log hints are layout) in
      one_reference ((sight_after s run (by_hint s log)).claim layout tried) ((sight_in s shared hints).claim layout tried) same
      (ap suc (sym (b.births (by_hint s log layout tried)) ∙ ap (slice_index shared.births) same));
  is_blue = λ c. ap (λ n. n == 0) (sym (b.words (Colour c)));
}

-- the next step of a thread that is after a run, from the words as they are
pub next_in_words : (s : Setup) (m : Machine) (starts : ℕ → m.State) (run : List Happening) (t : ℕ) (thread_state : Standing m.State) (shared : Shared) → AreAfter s run shared → StandsAfter s m starts run t thread_state
    → next_by s m starts run (Thread t) ≡ by_thread t (next_move_of s m (sight_in s shared thread_state.hints) thread_state)
next_in_words s m starts run t thread_state shared afterwards stands =
    let share = share_of t run in
    let state = state_after s m t (starts t) share in
    let same = alike_next s (sight_after s run (by_hint s (steps_of share))) (sight_in s shared thread_state.hints) (alike_after s run (steps_of share) shared thread_state.hints afterwards stands.hints) (stage_of (steps_of share)) (m.roots state) (old_of share) (m.action state) (phase_of s t (steps_of share)) in
    ap (by_thread t) (same ∙ sym ((goes_on s m starts run t thread_state stands).next (sight_in s shared thread_state.hints)))
