-- The roots that a thread names at an answer are those with which its step tells what it does.
use Rattle.std.proofs.Common.{◌≡◌, ◌⊎◌, inl, inr, ℕ, Bool, true, false, Option, Some, None, List, [], length, refl, sym, ap, ◌∙◌, subst, if◌then◌else◌, arith}
use Rattle.std.specs.Prelude.{slice_get, ◌==◌, ◌||◌, slice_index}
use Rattle.std.proofs.lemmas.Option.{none-some, slice_get_cases}
use Rattle.pools.specs.Heap.{Setup}
use Rattle.colours.specs.Mutator as order
use Rattle.colours.specs.Mutator.{Phase}
use Rattle.colours.specs.declared.turn.Turn.{Turn}
use Rattle.colours.specs.Colours.{is_async}
use Rattle.runs.specs.Machine.{WordValue, Action, Write, Alloc}
use Rattle.runs.specs.Moves as runs
use Rattle.runs.specs.Moves.{Move, state_after, steps_of}
use Rattle.runs.specs.ModuleRuns.{Happening, OfThread, share_of}
use Rattle.runs.specs.ModuleRuns.{heap_of as events_of}
use Rattle.runs.specs.Tries.{by_hint}
use Rattle.colours.specs.Runs.{word_after, turns_of}
use Rattle.runs.specs.NextMoves.{Sight, next_move, next_move_in, sight_after, try_of}
use Rattle.runs.specs.Ends.{next_move_of}
use Rattle.moves.specs.declared.actor.Actor.{Actor}
use Rattle.moves.specs.declared.actor.Actor.TheVariants.{Thread, Collector}
use Rattle.moves.specs.declared.moves.Move.TheVariants as made
use Rattle.moves.specs.declared.moves.Move.{Move as Made}
use Rattle.moves.specs.declared.thread_state.CallPhase.{CallPhase}
use Rattle.moves.specs.declared.thread_state.CallPhase.TheVariants as at
use Rattle.moves.specs.declared.thread_state.ThreadState.{ThreadState}
use Rattle.moves.specs.Calls.{move_in}
use Rattle.moves.specs.Runs.{next_by, next_turn, collector_after, by_thread, by_collector, IsActor}
use Rattle.moves.specs.Sights.{next_in_words}
use Rattle.moves.specs.Stands.{standing, sight_in, phase_at, cells_to_try}
use Rattle.stepping.specs.Ends.{Tells}
use Rattle.stepping.specs.declared.happening.Happening.{Happening as Happened}
use Rattle.stepping.specs.declared.happening.Happening.TheVariants as done
use Rattle.stepping.specs.declared.happening.MadeStep.{MadeStep}
use Rattle.program_runner.specs.Threads.{ProgramThread, program_machine}
use Rattle.program_runner.specs.Heaps.{heap_of}
use Rattle.program_runner.specs.Setups.{starts_of}
use Rattle.replay.specs.Worlds.{World, IsAfter, IsStepAfter, run_of}
use Rattle.replay.specs.Named.{IsToldWith, AreNamedBy, named_in}

-- ---- what a move names

-- the roots of a move that stores a stage
abbrev named_by : Option Move → List WordValue
named_by (Some (runs.StoresStage stage roots)) = roots
named_by move = []

abbrev named_of : Option Happening → List WordValue
named_of (Some (OfThread t move)) = named_by (Some move)
named_of happening = []

abbrev thread_of : Option Happening → ℕ
thread_of (Some (OfThread t move)) = t
thread_of happening = 0

-- the phase is none of an answer
abbrev IsOut : Phase → Type 0
IsOut (order.Answering stage marked) = ⊥
IsOut phase = Unit {0}

either : (c : Bool) (a b : Move) → named_by (Some a) ≡ [] → named_by (Some b) ≡ [] → named_by (Some (if c then a else b)) ≡ []
either true a b e f = e
either false a b e f = f

-- out of an answer no roots are named
unnamed : (s : Setup) (h : Sight) (stage : ℕ) (roots : List WordValue) (old : WordValue) (action : Action) (phase : Phase) → IsOut phase → named_by (next_move s h stage roots old action phase) ≡ []
unnamed s h stage roots old (Write base word value) (order.MarkingNew c i o) out = either (is_async stage || (value.cell == 0)) (runs.StoresAfterBarrier base word value) (runs.Marks value) refl refl
unnamed s h stage roots old (Alloc layout) order.Ready out = either (slice_index s.pools layout == 0) runs.Works (try_of h (h.claim layout [])) refl refl
unnamed s h stage roots old action (order.Answering next marked) out = absurd out
unnamed s h stage roots old action phase out = refl

none_by_collector : (turn : Option Turn) → named_of (by_collector turn) ≡ []
none_by_collector None = refl
none_by_collector (Some turn) = refl

by_moves : (t : ℕ) (move : Option Move) → named_of (by_thread t move) ≡ named_by move
by_moves t None = refl
by_moves t (Some move) = refl

by_its_thread : (t u : ℕ) (move : Option Move) (other : Move) → by_thread t move ≡ Some (OfThread u other) → t ≡ u
by_its_thread t u None other e = absurd (none-some (OfThread u other) e)
by_its_thread t u (Some move) other e = ap thread_of e

-- a thread is out of an answer and names none, or names its roots
out_or_in : (cells : List ℕ) (own : List WordValue) (call_phase : CallPhase) (roots : List WordValue) → roots ≡ named_in call_phase own → (IsOut (phase_at cells own call_phase) × (roots ≡ [])) ⊎ (roots ≡ own)
out_or_in cells own (at.Answering stage marked) roots e = inr e
out_or_in cells own call_phase roots e = inl (tt, e)

-- ---- a thread of a world

module _ (w : World) (before : List Actor) (b : IsAfter w before) (roots : List WordValue) where
  abbrev s : Setup
  s = heap_of w.program w.setup

  -- the roots of a thread after the run
  abbrev roots_of : ℕ → List WordValue
  roots_of t = program_machine.roots (state_after s program_machine t (starts_of w.program w.setup t) (share_of t (run_of w.program w.setup before)))

  -- what an actor does next after it
  abbrev next : Actor → Option Happening
  next actor = next_by s program_machine (starts_of w.program w.setup) (run_of w.program w.setup before) actor

  in_thread : (u : ℕ) (thread_state : ThreadState ProgramThread) → slice_get w.threads u ≡ Some thread_state → roots ≡ named_in thread_state.call_phase (program_machine.roots thread_state.state)
      → (stage : ℕ) → next (Thread u) ≡ Some (OfThread u (runs.StoresStage stage (roots_of u))) → roots_of u ≡ roots
  in_thread u thread_state there named stage e =
      let m = program_machine in
      let stands = b.ends.is_end.stands u thread_state there in
      let h = sight_in s w.shared thread_state.hints in
      let own = m.roots thread_state.state in
      let cells = cells_to_try s thread_state.hints (m.action thread_state.state) in
      let same = next_in_words s m (starts_of w.program w.setup) (run_of w.program w.setup before) u (standing s m thread_state) w.shared b.ends.is_end.words.afterwards stands in
      let found : roots_of u ≡ named_by (next_move_of s m h (standing s m thread_state)) = sym (ap named_of e) ∙ (ap named_of same ∙ by_moves u (next_move_of s m h (standing s m thread_state))) in
      elim (out_or_in cells own thread_state.call_phase roots named) [
        | inl out ↦ found ∙ (unnamed s h thread_state.stage own thread_state.replaced (m.action thread_state.state) (phase_at cells own thread_state.call_phase) out.0 ∙ sym out.1)
        | inr is ↦ ap m.roots (sym stands.state) ∙ sym is
      ]

  -- what is known of the roots of an actor
  abbrev AreNamedOf : Actor → Type 0
  AreNamedOf (Thread u) = AreNamedBy (slice_get w.threads u) roots
  AreNamedOf Collector = roots ≡ []

  same_roots : (actor : Actor) (t stage : ℕ) → IsActor (length w.threads) actor → AreNamedOf actor → next actor ≡ Some (OfThread t (runs.StoresStage stage (roots_of t))) → roots_of t ≡ roots
  same_roots Collector t stage is named e =
      let run = run_of w.program w.setup before in
      sym (ap named_of e) ∙ (none_by_collector (next_turn (collector_after s (turns_of (events_of run))) (word_after s (events_of run))) ∙ sym named)
  same_roots (Thread u) t stage is named e =
      let run = run_of w.program w.setup before in
      let move = next_move_in s program_machine (starts_of w.program w.setup) run (sight_after s run (by_hint s (steps_of (share_of u run)))) u in
      let same : u ≡ t = by_its_thread u t move (runs.StoresStage stage (roots_of t)) e in
      let own = subst (λ n. next (Thread u) ≡ Some (OfThread n (runs.StoresStage stage (roots_of n)))) (sym same) e in
      elim (slice_get_cases w.threads u).1 [
        | inl there ↦ subst (λ n. roots_of n ≡ roots) same (in_thread u there.0 there.2 (subst (λ (o : Option (ThreadState ProgramThread)). AreNamedBy o roots) there.2 named) stage own)
        | inr past ↦ let low = past.0 in absurd (omega (arith, low, is))
      ]

  same_move : (actor : Actor) (t : ℕ) (move : Made) → IsActor (length w.threads) actor → AreNamedOf actor → next actor ≡ Some (OfThread t (move_in (roots_of t) move)) → move_in (roots_of t) move ≡ move_in roots move
  same_move actor t (made.Answers stage) is named e = ap (runs.StoresStage stage) (same_roots actor t stage is named e)
  same_move actor t move is named e = refl

  tells : (actor : Actor) (happened : Happened) (happening : Happening) → IsActor (length w.threads) actor → AreNamedOf actor → next actor ≡ Some happening → Tells roots_of happened happening → Tells (λ t. roots) happened happening
  tells actor (done.Collector turn) happening is named e told = told
  tells actor (done.Thread t move) happening is named e told = told ∙ ap (OfThread t) (same_move actor t move is named (e ∙ ap (λ (x : Happening). Some x) told))

  -- the step tells with them what the actor did
  told_with : (actor : Actor) (step : Option MadeStep) → IsActor (length w.threads) actor → AreNamedOf actor → IsStepAfter w before actor step → IsToldWith w before actor roots step
  told_with actor None is named step = step
  told_with actor (Some did) is named step = (step.happening, step.next, tells actor did.happening step.happening is named step.next step.tells)

  -- so it does where the actor is a thread
  pub told_by_thread : (actor : Actor) (step : Option MadeStep) (t : ℕ) → actor ≡ Thread t → IsActor (length w.setup.starts) actor → AreNamedBy (slice_get w.threads t) roots → IsStepAfter w before actor step
      → IsToldWith w before actor roots step
  told_by_thread actor step t same is named after =
      let count : length w.threads ≡ length w.setup.starts = b.ends.is_end.count in
      told_with actor step (subst (λ n. IsActor n actor) (sym count) is) (subst AreNamedOf (sym same) named) after

  -- and where it is the collector
  pub told_by_collector : (actor : Actor) (step : Option MadeStep) → actor ≡ Collector → IsActor (length w.setup.starts) actor → roots ≡ [] → IsStepAfter w before actor step → IsToldWith w before actor roots step
  told_by_collector actor step same is named after =
      let count : length w.threads ≡ length w.setup.starts = b.ends.is_end.count in
      told_with actor step (subst (λ n. IsActor n actor) (sym count) is) (subst AreNamedOf (sym same) named) after
