-- How the threads of a run have ended, kept from step to step.
use Rattle.std.proofs.Common.{◌≡◌, ◌≢◌, ◌<◌, ◌⊎◌, inl, inr, ◌==◌, Bool, true, false, if◌then◌else◌, ℕ, Option, Some, None, List, [], ◌∷◌, length, slice_get, slice_set, unwrap_or, refl, sym, ap, ◌∙◌, subst}
use Rattle.std.proofs.lemmas.List.{length-set}
use Rattle.lemmas.specs.Lists.{get_some, set_here, set_other}
use Rattle.lemmas.specs.Numbers.{test_true, test_yes, test_false}
use Rattle.pools.specs.Heap.{Setup, is_late}
use Rattle.colours.specs.Runs.{turns_of, word_after}
use Rattle.colours.specs.Mutator as order
use Rattle.colours.specs.Mutator.{phase_of}
use Rattle.runs.specs.Machine.{WordValue}
use Rattle.runs.specs.Machine as machine
use Rattle.runs.specs.Moves.{Move, steps_of}
use Rattle.runs.specs.ModuleRuns.{Happening, OfThread, share_of, heap_of}
use Rattle.runs.specs.Ends.{StandsAfter, next_move_of}
use Rattle.runs.specs.NextMoves.{Sight, next_move}
use Rattle.moves.specs.declared.actor.Actor.{Actor}
use Rattle.moves.specs.declared.actor.Actor.TheVariants.{Thread, Collector}
use Rattle.moves.specs.declared.shared.Shared.{Shared}
use Rattle.moves.specs.declared.thread_state.CallPhase.{CallPhase}
use Rattle.moves.specs.declared.thread_state.CallPhase.TheVariants.{Ready, MarkingOld, MarkingNew, Writing, Trying, Answering, Ended, Absent, Arriving, Entering, Leaving}
use Rattle.moves.specs.declared.thread_state.ThreadState.{ThreadState}
use Rattle.moves.specs.Runs.{run_by, by_thread, by_collector, next_by, next_turn, collector_after, with_next}
use Rattle.moves.specs.Stands.{cells_to_try, standing, phase_at, sight_in}
use Rattle.moves.specs.Sights.{next_in_words}
use Rattle.trace_sweep.specs.Collecting.{Collecting}
use Rattle.colours.specs.declared.turn.Turn.{Turn}
use Rattle.stepping.specs.Ends as stepping
use Rattle.layout.specs.Layouts.{LaidOut}
use Rattle.replay.specs.declared.thread_outcome.ThreadOutcome.{ThreadOutcome}
use Rattle.replay.specs.declared.thread_outcome.ThreadOutcome.TheVariants as thread
use Rattle.program_runner.specs.Threads.{ProgramThread, program_machine, names}
use Rattle.program_runner.specs.Heaps as heaps
use Rattle.program_runner.specs.Kinds.{FitsThread}
use Rattle.trace_text.specs.declared.trace.Setup as traced
use Rattle.replay.specs.Keeping.{ending_in, ending_after}
use Rattle.program_runner.specs.Setups.{starts_of}
use Rattle.replay.specs.Worlds.{AreEndings, ending_at, ending_of, run_of}

-- ---- one thread

-- a thread has ended, or says how it ends
by_call_phase : (cells : List ℕ) (roots : List WordValue) (call_phase : CallPhase) (t : ProgramThread) (kept : Option ThreadOutcome)
    → ((ending_in call_phase t kept ≡ unwrap_or kept thread.Ended) × (phase_at cells roots call_phase ≡ order.Ended)) ⊎ ((ending_in call_phase t kept ≡ ending_at t) × (phase_at cells roots call_phase ≢ order.Ended))
by_call_phase cells roots Ready t kept = inr (refl, λ e. absurd cc)
by_call_phase cells roots (MarkingOld cell word old) t kept = inr (refl, λ e. absurd cc)
by_call_phase cells roots (MarkingNew cell word old) t kept = inr (refl, λ e. absurd cc)
by_call_phase cells roots (Writing cell word old new) t kept = inr (refl, λ e. absurd cc)
by_call_phase cells roots (Trying tried) t kept = inr (refl, λ e. absurd cc)
by_call_phase cells roots (Answering stage marked) t kept = inr (refl, λ e. absurd cc)
by_call_phase cells roots Ended t kept = inl (refl, refl)
by_call_phase cells roots Absent t kept = inr (refl, λ e. absurd cc)
by_call_phase cells roots (Arriving posted) t kept = inr (refl, λ e. absurd cc)
by_call_phase cells roots Entering t kept = inr (refl, λ e. absurd cc)
by_call_phase cells roots Leaving t kept = inr (refl, λ e. absurd cc)

-- one that has ended has no next move
none_next : (s : Setup) (h : Sight) (stage : ℕ) (roots : List WordValue) (old : WordValue) (action : machine.Action) (phase : order.Phase) → phase ≡ order.Ended
    → next_move s h stage roots old action phase ≡ None
none_next s h stage roots old action phase e = rw e refl

-- a thread that is so after this run, and the endings that were kept so far
module _ (p : LaidOut) (setup : traced.Setup) (run : List Happening) (t : ℕ) (thread_state : ThreadState ProgramThread) (endings : List ThreadOutcome) where
  abbrev Stands : Type 0
  Stands = StandsAfter (heaps.heap_of p setup) program_machine (starts_of p setup) run t (standing (heaps.heap_of p setup) program_machine thread_state)

  -- the cells that it tries
  abbrev to_try : List ℕ
  to_try = cells_to_try (heaps.heap_of p setup) thread_state.hints (program_machine.action thread_state.state)

  abbrev ComesAfter : List Happening → ThreadOutcome → Type 0
  ComesAfter longer ending = AreEndings p setup longer (slice_set endings t ending)

  -- the endings where the share of another thread stays, and this one has ended so if it has
  put : (ending : ThreadOutcome) (longer : List Happening) → AreEndings p setup run endings → t < length setup.starts → ((u : ℕ) → (t == u) ≡ false → share_of u longer ≡ share_of u run)
      → (phase_of (heaps.heap_of p setup) t (steps_of (share_of t longer)) ≡ order.Ended → ending ≡ ending_of (heaps.heap_of p setup) t (starts_of p setup t) (share_of t longer)) → ComesAfter longer ending
  put ending longer are is_thread others own = record {
    one_each = length-set endings t ending ∙ are.one_each;
    each = λ u few ended. each u few (t == u) refl ended;
  }
    where
      each : (u : ℕ) → u < length setup.starts → (b : Bool) → (t == u) ≡ b → phase_of (heaps.heap_of p setup) u (steps_of (share_of u longer)) ≡ order.Ended
          → slice_get (slice_set endings t ending) u ≡ Some (ending_of (heaps.heap_of p setup) u (starts_of p setup u) (share_of u longer))
      each u few true e ended =
          let same : t ≡ u = test_true t u e in
          let within : t < length endings = subst (λ (n : ℕ). t < n) (sym are.one_each) is_thread in
          let at : phase_of (heaps.heap_of p setup) t (steps_of (share_of t longer)) ≡ order.Ended = subst (λ (v : ℕ). phase_of (heaps.heap_of p setup) v (steps_of (share_of v longer)) ≡ order.Ended) (sym same) ended in
          subst (λ (v : ℕ). slice_get (slice_set endings t ending) v ≡ Some (ending_of (heaps.heap_of p setup) v (starts_of p setup v) (share_of v longer))) same
          (set_here endings t ending within ∙ ap (λ (x : ThreadOutcome). Some x) (own at))
      each u few false e ended =
          let share = others u e in
          let before : phase_of (heaps.heap_of p setup) u (steps_of (share_of u run)) ≡ order.Ended = subst (λ (moves : List Move). phase_of (heaps.heap_of p setup) u (steps_of moves) ≡ order.Ended) share ended in
          set_other endings t u ending (λ same. test_false t u e (sym same))
          ∙ are.each u few before
          ∙ ap (λ (moves : List Move). Some (ending_of (heaps.heap_of p setup) u (starts_of p setup u) moves)) (sym share)

  -- after a step of the thread, or none
  either : (next : Option Move) → (phase_at to_try (names thread_state.state) thread_state.call_phase ≡ order.Ended → next ≡ None) → Stands → t < length setup.starts → AreEndings p setup run endings
      → ComesAfter (with_next (by_thread t next) run) (ending_in thread_state.call_phase thread_state.state (slice_get endings t))
  either None none stands is_thread are = put (ending_in thread_state.call_phase thread_state.state (slice_get endings t)) run are is_thread (λ u e. refl) (λ ended. own ended (by_call_phase to_try (names thread_state.state) thread_state.call_phase thread_state.state (slice_get endings t)))
    where
      own : phase_of (heaps.heap_of p setup) t (steps_of (share_of t run)) ≡ order.Ended
          → ((ending_in thread_state.call_phase thread_state.state (slice_get endings t) ≡ unwrap_or (slice_get endings t) thread.Ended) × (phase_at to_try (names thread_state.state) thread_state.call_phase ≡ order.Ended))
          ⊎ ((ending_in thread_state.call_phase thread_state.state (slice_get endings t) ≡ ending_at thread_state.state) × (phase_at to_try (names thread_state.state) thread_state.call_phase ≢ order.Ended))
          → ending_in thread_state.call_phase thread_state.state (slice_get endings t) ≡ ending_of (heaps.heap_of p setup) t (starts_of p setup t) (share_of t run)
      own ended (inl q) = q.0 ∙ ap (λ (o : Option ThreadOutcome). unwrap_or o thread.Ended) (are.each t is_thread ended)
      own ended (inr q) = absurd (q.1 (stands.phase ∙ ended))
  either (Some move) none stands is_thread are =
      put (ending_in thread_state.call_phase thread_state.state (slice_get endings t)) (OfThread t move ∷ run) are is_thread others (λ ended. own (by_call_phase to_try (names thread_state.state) thread_state.call_phase thread_state.state (slice_get endings t)))
    where
      others : (u : ℕ) → (t == u) ≡ false → share_of u (OfThread t move ∷ run) ≡ share_of u run
      others u e = rw e refl

      shares : share_of t (OfThread t move ∷ run) ≡ move ∷ share_of t run
      shares = rw (test_yes t t refl) refl

      own : ((ending_in thread_state.call_phase thread_state.state (slice_get endings t) ≡ unwrap_or (slice_get endings t) thread.Ended) × (phase_at to_try (names thread_state.state) thread_state.call_phase ≡ order.Ended))
          ⊎ ((ending_in thread_state.call_phase thread_state.state (slice_get endings t) ≡ ending_at thread_state.state) × (phase_at to_try (names thread_state.state) thread_state.call_phase ≢ order.Ended))
          → ending_in thread_state.call_phase thread_state.state (slice_get endings t) ≡ ending_of (heaps.heap_of p setup) t (starts_of p setup t) (share_of t (OfThread t move ∷ run))
      own (inl q) = let e : Some move ≡ None = none q.1 in absurd cc
      own (inr q) = q.0 ∙ ap ending_at stands.state ∙ ap (ending_of (heaps.heap_of p setup) t (starts_of p setup t)) (sym shares)

-- ---- one step

-- after the next step of a thread, what it said before it is how it ended, if it did
pub kept : (p : LaidOut) (setup : traced.Setup) (before : List Actor) (threads : List (ThreadState ProgramThread)) (shared : Shared) (c : Collecting) (endings : List ThreadOutcome) (t : ℕ)
    → stepping.IsEnd (heaps.heap_of p setup) program_machine (FitsThread (heaps.heap_of p setup)) (starts_of p setup) (run_of p setup before) threads shared c
    → t < length setup.starts → AreEndings p setup (run_of p setup before) endings
    → AreEndings p setup (run_of p setup (Thread t ∷ before)) (slice_set endings t (ending_after (slice_get threads t) (slice_get endings t)))
unfolding run_by
kept p setup before threads shared c endings t end is_thread are =
    let s = heaps.heap_of p setup in
    let run = run_of p setup before in
    let found = get_some threads t (subst (λ (n : ℕ). t < n) (sym end.count) is_thread) in
    let stands = end.stands t found.0 found.1 in
    let next = next_move_of s program_machine (sight_in s shared found.0.hints) (standing s program_machine found.0) in
    let by = next_in_words s program_machine (starts_of p setup) run t (standing s program_machine found.0) shared end.words.afterwards stands in
    let cells = cells_to_try s found.0.hints (program_machine.action found.0.state) in
    let none : phase_at cells (names found.0.state) found.0.call_phase ≡ order.Ended → next ≡ None =
    λ e. none_next s (sight_in s shared found.0.hints) found.0.stage (names found.0.state) found.0.replaced (program_machine.action found.0.state) (phase_at cells (names found.0.state) found.0.call_phase) e in
    let one = either p setup run t found.0 endings next none stands is_thread are in
    let said = subst (λ (x : Option (ThreadState ProgramThread)). AreEndings p setup (with_next (by_thread t next) run) (slice_set endings t (ending_after x (slice_get endings t)))) (sym found.1) one in
    subst (λ (o : Option Happening). AreEndings p setup (with_next o run) (slice_set endings t (ending_after (slice_get threads t) (slice_get endings t)))) (sym by) said

-- a step of the collector ends no thread
pub kept_by_collector : (p : LaidOut) (setup : traced.Setup) (before : List Actor) (endings : List ThreadOutcome) → AreEndings p setup (run_of p setup before) endings
    → AreEndings p setup (run_of p setup (Collector ∷ before)) endings
unfolding run_by
kept_by_collector p setup before endings are = go (next_by (heaps.heap_of p setup) program_machine (starts_of p setup) (run_of p setup before) Collector) is_turn
  where
    -- none, or a step of the collector
    go : (o : Option Happening) → ((t : ℕ) → share_of t (with_next o (run_of p setup before)) ≡ share_of t (run_of p setup before)) → AreEndings p setup (with_next o (run_of p setup before)) endings
    go o same = record {
      one_each = are.one_each;
      each = λ t few ended. subst (λ (share : List Move). slice_get endings t ≡ Some (ending_of (heaps.heap_of p setup) t (starts_of p setup t) share)) (sym (same t))
          (are.each t few (subst (λ (share : List Move). phase_of (heaps.heap_of p setup) t (steps_of share) ≡ order.Ended) (same t) ended));
    }

    by_turn : (o : Option Turn) → (t : ℕ) → share_of t (with_next (by_collector o) (run_of p setup before)) ≡ share_of t (run_of p setup before)
    by_turn None t = refl
    by_turn (Some turn) t = refl

    is_turn : (t : ℕ) → share_of t (with_next (next_by (heaps.heap_of p setup) program_machine (starts_of p setup) (run_of p setup before) Collector) (run_of p setup before)) ≡ share_of t (run_of p setup before)
    is_turn t = by_turn (next_turn (collector_after (heaps.heap_of p setup) (turns_of (heap_of (run_of p setup before)))) (word_after (heaps.heap_of p setup) (heap_of (run_of p setup before)))) t

-- a thread that has made no step has not ended
not_at_once : (p : LaidOut) (setup : traced.Setup) (t : ℕ) → phase_of (heaps.heap_of p setup) t [] ≢ order.Ended
not_at_once p setup t e = either_way (is_late (heaps.heap_of p setup) t) e
  where
    either_way : (late : Bool) → (if late then order.Absent else order.Ready) ≢ order.Ended
    either_way true q = absurd cc
    either_way false q = absurd cc

-- before the first step no thread has ended
pub none_ended : (p : LaidOut) (setup : traced.Setup) (endings : List ThreadOutcome) → length endings ≡ length setup.starts → AreEndings p setup (run_of p setup []) endings
unfolding run_by
none_ended p setup endings one_each = record { one_each = one_each; each = λ t few ended. absurd (not_at_once p setup t ended) }
