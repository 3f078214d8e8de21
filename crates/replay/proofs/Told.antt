-- What is told of where the threads of a world are.
use Rattle.std.proofs.Common.{◌≡◌, ◌<◌, ◌≤◌, ◌⊎◌, inl, inr, ℕ, zero, suc, ◌+◌, Option, Some, List, [], ◌∷◌, ◌++◌, length, slice_get, unwrap_or, refl, sym, ap, ◌∙◌, subst, arith, length-append}
use Rattle.lemmas.specs.Lists.{get_some, get_end}
use Rattle.colours.specs.Mutator as order
use Rattle.colours.specs.Mutator.{stage_of, phase_of}
use Rattle.runs.specs.Machine.{WordValue}
use Rattle.runs.specs.Moves.{steps_of}
use Rattle.runs.specs.ModuleRuns.{share_of}
use Rattle.moves.specs.declared.actor.Actor as run
use Rattle.moves.specs.declared.thread_state.CallPhase.{CallPhase}
use Rattle.moves.specs.declared.thread_state.CallPhase.TheVariants.{Ready, MarkingOld, MarkingNew, Writing, Trying, Answering, Ended, Absent, Arriving, Entering, Leaving}
use Rattle.moves.specs.declared.thread_state.ThreadState.{ThreadState}
use Rattle.moves.specs.Stands.{cells_to_try, phase_at}
use Rattle.program_runner.specs.Threads.{ProgramThread, program_machine, names}
use Rattle.program_runner.specs.Heaps.{heap_of}
use Rattle.replay.specs.declared.thread_outcome.ThreadOutcome.{ThreadOutcome}
use Rattle.replay.specs.declared.thread_outcome.ThreadOutcome.TheVariants as thread
use Rattle.replay.specs.declared.world.World.TheInside.{Inside}
use Rattle.replay.specs.Keeping.{end_at, end_told}
use Rattle.program_runner.specs.Setups.{starts_of}
use Rattle.replay.specs.ThreadEnds.{AreEndsOf, end_in, end_of}
use Rattle.replay.specs.Worlds.{World, IsAfter, ending_of, run_of}
use Rattle.replay.specs.WorldView.{world_seen}

-- ---- lists

-- what was at a place still is with one element more
at_front : {A : Type 0} (xs : List A) (x : A) (k : ℕ) → k < length xs → slice_get (xs ++ x ∷ []) k ≡ slice_get xs k
at_front [] x k within = absurd (omega arith)
at_front (y ∷ xs) x zero within = refl
at_front (y ∷ xs) x (suc k) within = at_front xs x k (omega arith)

-- n ends were told
pub record AreTold (ends : List ThreadOutcome) (count : ℕ) (told : ℕ → ThreadOutcome) : Type 0 where
  pub many : length ends ≡ count
  pub each : (k : ℕ) → k < count → slice_get ends k ≡ Some (told k)

-- one end more
pub one_more_told : (ends : List ThreadOutcome) (count : ℕ) (told : ℕ → ThreadOutcome) (last : ThreadOutcome) → AreTold ends count told → last ≡ told count → AreTold (ends ++ last ∷ []) (count + 1) told
one_more_told ends count told last are is = record {
  many = length-append ends (last ∷ []) ∙ ap (λ n. n + 1) are.many;
  each = λ k lt. elim (below k count lt) [
    | inl l ↦ at_front ends last k (subst (λ (n : ℕ). k < n) (sym are.many) l) ∙ are.each k l
    | inr e ↦ subst (λ (n : ℕ). slice_get (ends ++ last ∷ []) n ≡ Some (told n)) (sym e)
        (subst (λ (n : ℕ). slice_get (ends ++ last ∷ []) n ≡ Some last) are.many (get_end ends last) ∙ ap (λ (x : ThreadOutcome). Some x) is)
  ];
}
  where
    below : (k n : ℕ) → k < n + 1 → (k < n) ⊎ (k ≡ n)
    below zero zero lt = inr refl
    below zero (suc n) lt = inl (omega arith)
    below (suc k) zero lt = absurd (omega arith)
    below (suc k) (suc n) lt = elim (below k n (omega arith)) [
      | inl l ↦ inl (omega arith)
      | inr e ↦ inr (ap suc e)
    ]

-- ---- the ends

-- where a thread is by the phase of its call, is where it is by its phase
by_phase : (cells : List ℕ) (roots : List WordValue) (call_phase : CallPhase) (stage : ℕ) (kept ending : ThreadOutcome) → (phase_at cells roots call_phase ≡ order.Ended → kept ≡ ending) → end_at call_phase stage kept ≡ end_in (phase_at cells roots call_phase) stage ending
by_phase cells roots Ready stage kept ending same = refl
by_phase cells roots (MarkingOld cell word old) stage kept ending same = refl
by_phase cells roots (MarkingNew cell word old) stage kept ending same = refl
by_phase cells roots (Writing cell word old new) stage kept ending same = refl
by_phase cells roots (Trying tried) stage kept ending same = refl
by_phase cells roots (Answering stage' marked) stage kept ending same = refl
by_phase cells roots Ended stage kept ending same = same refl
by_phase cells roots Absent stage kept ending same = refl
by_phase cells roots (Arriving posted) stage kept ending same = refl
by_phase cells roots Entering stage kept ending same = refl
by_phase cells roots Leaving stage kept ending same = refl

-- what is told of a thread of a world is where it is
told_is : (w : World) (before : List run.Actor) → IsAfter w before → (t : ℕ) → t < length w.setup.starts → end_told (slice_get w.threads t) (slice_get w.endings t) ≡ end_of w.program w.setup (run_of w.program w.setup before) t
told_is w before b t few =
    let s = heap_of w.program w.setup in
    let share = share_of t (run_of w.program w.setup before) in
    let end = b.ends.is_end in
    let found = get_some w.threads t (subst (λ (n : ℕ). t < n) (sym end.count) few) in
    let stands = end.stands t found.0 found.1 in
    let ending = ending_of s t (starts_of w.program w.setup t) share in
    let to_try = cells_to_try s found.0.hints (program_machine.action found.0.state) in
    let same = λ (e : phase_at to_try (names found.0.state) found.0.call_phase ≡ order.Ended). ap (λ (o : Option ThreadOutcome). unwrap_or o thread.Ended) (b.ends.endings.each t few (sym stands.phase ∙ e)) in
    ap (λ (o : Option (ThreadState ProgramThread)). end_told o (slice_get w.endings t)) found.1
    ∙ by_phase to_try (names found.0.state) found.0.call_phase found.0.stage (unwrap_or (slice_get w.endings t) thread.Ended) ending same
    ∙ ap (λ (phase : order.Phase). end_in phase found.0.stage ending) stands.phase
    ∙ ap (λ (stage : ℕ). end_in (phase_of s t (steps_of share)) stage ending) stands.stage

-- so of all of them
pub are_ends : (i : Inside) (w : World) (ends : List ThreadOutcome) (count : ℕ) → world_seen i ≡ w → length i.actors.threads.items ≤ count → count ≤ length i.actors.threads.items
    → AreTold ends count (λ k. end_told (slice_get i.actors.threads.items k) (slice_get i.endings k)) → (before : List run.Actor) → IsAfter w before → AreEndsOf w before ends
are_ends i w ends count seen most least told before b =
    let here : IsAfter (world_seen i) before = subst (λ (v : World). IsAfter v before) (sym seen) b in
    let all : length i.actors.threads.items ≡ length i.setup.now.starts = here.ends.is_end.count in
    let many : count ≡ length i.setup.now.starts = omega (arith, all, most, least) in
    subst (λ (v : World). AreEndsOf v before ends) seen (record {
      one_each = told.many ∙ many;
      each = λ t few. told.each t (subst (λ (n : ℕ). t < n) (sym many) few) ∙ ap (λ (x : ThreadOutcome). Some x) (told_is (world_seen i) before here t few);
    })
