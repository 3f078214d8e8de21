-- A cover by all that can be reached, and after one step more.
use Rattle.std.proofs.Common.{◌≡◌, ◌≤◌, ◌^◌, ◌⊎◌, inl, inr, ℕ, Option, Some, None, List, ◌∷◌, slice_get, sym, ap, subst, ◌∙◌, IfSome, MatchOption}
use Rattle.std.specs.Prelude.{Result, Ok, Err, IfOk}
use Rattle.lemmas.specs.Lists.{IsIn}
use Rattle.pools.specs.Heap.{Setup, cells_in, cells}
use Rattle.colours.specs.Mutator.{Phase, phase_of}
use Rattle.colours.specs.declared.turn.Turn.{Turn}
use Rattle.runs.specs.Machine.{WordValue, Answer, Machine}
use Rattle.runs.specs.Moves.{Move, step_of, steps_of, state_after}
use Rattle.runs.specs.Ends.{StandsAfter}
use Rattle.runs.specs.ModuleRuns.{Happening, OfThread, OfCollector, share_of, IsNext}
use Rattle.runs.specs.Broken.{IsUnderWay, IsRoot}
use Rattle.moves.specs.declared.actor.Actor.{Actor}
use Rattle.moves.specs.declared.thread_state.ThreadState.{ThreadState}
use Rattle.moves.specs.declared.moves.Move.{Move as AMove}
use Rattle.moves.specs.declared.moves.Move.TheVariants as made
use Rattle.moves.specs.Calls.{move_in}
use Rattle.moves.specs.Kinds.{KeepsKinds}
use Rattle.moves.specs.Runs.{run_by, AreActors}
use Rattle.moves.specs.Stands.{cells_to_try, standing}
use Rattle.moves.specs.RootsAfter.{AddsNewest}
use Rattle.stepping.specs.declared.acting.Actors.{Actors}
use Rattle.stepping.specs.declared.happening.Happening.{Happening as Made}
use Rattle.stepping.specs.declared.happening.Happening.TheVariants.{Thread, Collector}
use Rattle.stepping.specs.declared.happening.MadeStep.{MadeStep}
use Rattle.stepping.specs.declared.walk.Walk.{Walk}
use Rattle.stepping.specs.declared.cover.Cover.{Cover}
use Rattle.stepping.specs.Loss.{IsTold}
use Rattle.stepping.specs.Covers.{Covers, IsOver, IsCoverAfter, IsCovered, IsStored, FreesNoneOf}
use Rattle.stepping.specs.Ends.{AreAfterSteps, IsEnd, IsStep, IsStepOrNone, IsQuiet, Tells}
use Rattle.stepping.specs.Reach.{AreRoots, IsFirstGone, LosesNothing, gone_of}
use Rattle.stepping.specs.Roots.{new_roots, roots_of}
use Rattle.stepping.specs.Walks.{IsShaped, IsClosed, IsNearlyClosed, IsWhole}
use Rattle.stepping.proofs.Covers.{quiet-covers, turn-covers, nearly-closed, root-or-own, newest-own, closed-covers}
use Rattle.stepping.proofs.Losses.{IsNoBegin}
use Rattle.stepping.proofs.Exact.{first-gone}
use Rattle.stepping.proofs.Schemas.{cells-of_schema}
use Rattle.stepping.proofs.Ends.{run_more, run_same, is_longer_run}
use Rattle.stepping.proofs.RunRoots.{are-roots, under-way-is-own}

-- ---- by all that can be reached

module _ (s : Setup) (m : Machine) (Fits : m.State → Type 0) (starts : ℕ → m.State) (actors : List Actor) (a : Actors m.State) (b : AreAfterSteps s m Fits starts actors a)
    (keeps : (state : m.State) → Fits state → KeepsKinds s m.action m.after_answer m.roots Fits state) (roots : List WordValue) (all : roots ≡ roots_of m.roots a.threads.items)
    (few : cells_in a.schema.pools.now ≤ 2 ^ 20) (w : Walk) (walked : IsShaped (cells s) w × IsWhole s a.shared roots w) where
  are-all : AreRoots s m starts (run_by s m starts actors) roots
  are-all = subst (λ (rs : List WordValue). AreRoots s m starts (run_by s m starts actors) rs) (sym all) (are-roots s m Fits starts actors a b keeps)

  -- what is gone first is what the walk tells
  pub first-met : (blue reborn : Option ℕ) → w.blue ≡ blue → w.reborn ≡ reborn → IsFirstGone s m starts (run_by s m starts actors) (gone_of blue reborn)
  first-met blue reborn e f =
      subst (λ (o : Option ℕ). IsFirstGone s m starts (run_by s m starts actors) (gone_of o reborn)) e
      (subst (λ (o : Option ℕ). IsFirstGone s m starts (run_by s m starts actors) (gone_of w.blue o)) f
      (first-gone s m starts (run_by s m starts actors) a.shared roots b.is_after.is_end.words are-all w walked.0.wide walked.1))

  -- a walk that met nothing that is gone is a cover
  pub whole-covers : w.blue ≡ None → w.reborn ≡ None → IsCoverAfter s m starts (run_by s m starts actors) w
  whole-covers none_free none_reborn = record { over = over; covers = closed-covers s m starts (run_by s m starts actors) a.shared roots b.is_after.is_end.words are-all w over walked.1.closed }
    where
      over : IsOver (cells s) w
      over = record {
        shaped = walked.0;
        few = subst (λ (count : ℕ). count ≤ 2 ^ 20) (cells-of_schema s a.schema b.schema) few;
        listed = walked.1.closed.looked.listed;
        none_free = none_free;
        none_reborn = none_reborn;
      }

-- ---- after a step that loses nothing

pub quiet-stays : (s : Setup) (m : Machine) (starts : ℕ → m.State) (before : List Actor) (actor : Actor) → AreActors s.threads (actor ∷ before) → (made : Option MadeStep)
    → IsStepOrNone s m starts (run_by s m starts before) actor made → IsQuiet made → (cover : Cover) → IsCovered s m starts (run_by s m starts before) cover → IsCovered s m starts (run_by s m starts (actor ∷ before)) cover
quiet-stays s m starts before actor are None none quiet cover known = subst (λ run. IsCovered s m starts run cover) (sym (run_same s m starts before actor none)) known
quiet-stays s m starts before actor are (Some step) is quiet cover known =
    subst (λ run. IsCovered s m starts run cover) (sym (run_more s m starts before actor is.happening is.next)) (go cover.walk known)
  where
    loses : LosesNothing s m starts (run_by s m starts before) is.happening
    loses = subst (λ l. IsTold l (LosesNothing s m starts (run_by s m starts before) is.happening)) quiet is.loss

    go : (o : Option Walk) → IfSome o (IsCoverAfter s m starts (run_by s m starts before)) → IfSome o (IsCoverAfter s m starts (is.happening ∷ run_by s m starts before))
    go None known = tt
    go (Some w) known = record {
      over = known.over;
      covers = quiet-covers s m starts (run_by s m starts before) w.met known.covers is.happening (is_longer_run s m starts before actor is.happening are is.next).1 loses;
    }

-- ---- the roots of a thread after its move

-- the thread does not begin by it
abbrev IsNoBeginning : AMove → Type 0
IsNoBeginning (made.ReadsPostedAgain stage) = ⊥
IsNoBeginning move = Unit {0}

begins-none : (roots : List WordValue) (move : AMove) → IsNoBeginning move → MatchOption (step_of (move_in roots move)) (Unit {0}) IsNoBegin
begins-none roots (made.ReadsPostedAgain stage) none = none
begins-none roots move none = tt

-- a root of the thread was one before, or is one of these
thread-owns : (s : Setup) (m : Machine) (newest : m.State → List WordValue) (adds : (state : m.State) (given : Answer) → AddsNewest (m.roots state) (m.roots (m.after_answer state given)) (newest (m.after_answer state given)))
    (starts : ℕ → m.State) (run : List Happening) (t : ℕ) (roots : List WordValue) (move : AMove) → IsNext s m starts run (OfThread t (move_in roots move)) → (thread_state : ThreadState m.State)
    → StandsAfter s m starts (OfThread t (move_in roots move) ∷ run) t (standing s m thread_state)
    → (r : WordValue) → IsUnderWay (phase_of s t (steps_of (share_of t (OfThread t (move_in roots move) ∷ run)))) → IsIn r (m.roots (state_after s m t (starts t) (share_of t (OfThread t (move_in roots move) ∷ run))))
    → IsRoot s m starts run r ⊎ IsIn r (new_roots m.roots newest thread_state move)
thread-owns s m newest adds starts run t roots (made.ReadsPostedAgain stage) next thread_state stands r way is_root =
    inr (under-way-is-own (cells_to_try s thread_state.hints (m.action thread_state.state)) (m.roots thread_state.state) (m.roots thread_state.state) thread_state.call_phase r (subst (λ (p : Phase). IsUnderWay p) (sym stands.phase) way)
    (subst (λ (state : m.State). IsIn r (m.roots state)) (sym stands.state) is_root))
thread-owns s m newest adds starts run t roots move next thread_state stands r way is_root =
    elim (newest-own s m newest adds starts run t (move_in roots move) next (begins-none roots move tt) r way is_root) [
      | inl was ↦ inl was
      | inr new ↦ inr (subst (λ (state : m.State). IsIn r (newest state)) (sym stands.state) new)
    ]

-- ---- after one step more

module _ (s : Setup) (m : Machine) (Fits : m.State → Type 0) (starts : ℕ → m.State) (before : List Actor) (actor : Actor) (a : Actors m.State) (b : AreAfterSteps s m Fits starts (actor ∷ before) a)
    (step : MadeStep) (is : IsStep s m starts (run_by s m starts before) actor step) where
  -- the run after the step
  abbrev before_run : List Happening
  before_run = run_by s m starts before

  longer : run_by s m starts (actor ∷ before) ≡ is.happening ∷ before_run
  longer = run_more s m starts before actor is.happening is.next

  next : IsNext s m starts before_run is.happening
  next = (is_longer_run s m starts before actor is.happening b.is_after.are_actors is.next).1

  back : (happening : Happening) → is.happening ≡ happening → (w : Walk) → IsOver (cells s) w → Covers s m starts (happening ∷ before_run) w.met → IsCoverAfter s m starts (run_by s m starts (actor ∷ before)) w
  back happening same w over covers = record {
    over = over;
    covers = subst (λ run. Covers s m starts run w.met) (sym (longer ∙ ap (λ (h : Happening). h ∷ before_run) same)) covers;
  }

  -- after a step of the collector
  pub turn-kept : (turn : Turn) → step.happening ≡ Collector turn → (w : Walk) → IsCoverAfter s m starts before_run w → (o : Option Walk) → IfSome o (λ kept. (kept ≡ w) × FreesNoneOf w.met turn)
      → IfSome o (IsCoverAfter s m starts (run_by s m starts (actor ∷ before)))
  turn-kept turn made w known None kept = tt
  turn-kept turn made w known (Some v) kept =
      let told : is.happening ≡ OfCollector turn = subst (λ (h : Made). Tells (λ t. m.roots (state_after s m t (starts t) (share_of t before_run))) h is.happening) made is.tells in
      let covers = turn-covers s m starts before_run w.met known.covers turn (subst (λ h. IsNext s m starts before_run h) told next) kept.1 in
      subst (λ (x : Walk). IsCoverAfter s m starts (run_by s m starts (actor ∷ before)) x) (sym kept.0) (back (OfCollector turn) told w known.over covers)

  -- after a move of a thread
  module _ (t : ℕ) (made : AMove) (of_thread : step.happening ≡ Thread t made) (thread_state : ThreadState m.State) (at : slice_get a.threads.items t ≡ Some thread_state)
      (keeps : (state : m.State) → Fits state → KeepsKinds s m.action m.after_answer m.roots Fits state)
      (newest : m.State → List WordValue) (adds : (state : m.State) (given : Answer) → AddsNewest (m.roots state) (m.roots (m.after_answer state given)) (newest (m.after_answer state given))) where
    abbrev the_move : Move
    the_move = move_in (m.roots (state_after s m t (starts t) (share_of t before_run))) made

    told : is.happening ≡ OfThread t the_move
    told = subst (λ (h : Made). Tells (λ t. m.roots (state_after s m t (starts t) (share_of t before_run))) h is.happening) of_thread is.tells

    whole : run_by s m starts (actor ∷ before) ≡ OfThread t the_move ∷ before_run
    whole = longer ∙ ap (λ (h : Happening). h ∷ before_run) told

    end : IsEnd s m Fits starts (OfThread t the_move ∷ before_run) a.threads.items a.shared a.collector
    end = subst (λ run. IsEnd s m Fits starts run a.threads.items a.shared a.collector) whole b.is_after.is_end

    are : AreRoots s m starts (OfThread t the_move ∷ before_run) (roots_of m.roots a.threads.items)
    are = subst (λ run. AreRoots s m starts run (roots_of m.roots a.threads.items)) whole (are-roots s m Fits starts (actor ∷ before) a b keeps)

    owns : (r : WordValue) → IsRoot s m starts (OfThread t the_move ∷ before_run) r → IsRoot s m starts before_run r ⊎ IsIn r (new_roots m.roots newest thread_state made)
    owns = root-or-own s m starts before_run t the_move (new_roots m.roots newest thread_state made)
        (thread-owns s m newest adds starts before_run t (m.roots (state_after s m t (starts t) (share_of t before_run))) made (subst (λ h. IsNext s m starts before_run h) told next) thread_state (end.stands t thread_state at))

    -- the walk before the step is closed but for what this move changes
    pub move-near : (w : Walk) → IsCoverAfter s m starts before_run w → (stored : WordValue) → IsStored s the_move stored → IsNearlyClosed s a.shared (roots_of m.roots a.threads.items) (new_roots m.roots newest thread_state made) stored w
    move-near w known stored is_stored =
        nearly-closed s m starts before_run t the_move (subst (λ h. IsNext s m starts before_run h) told next) w known.over known.covers a.shared end.words (roots_of m.roots a.threads.items) (new_roots m.roots newest thread_state made) stored are is_stored owns

    -- and the one that went on is a cover after it
    pub move-kept : (o : Option Walk) → IfSome o (λ kept. IsOver (cells s) kept × IsClosed s a.shared (roots_of m.roots a.threads.items) kept) → IfSome o (IsCoverAfter s m starts (run_by s m starts (actor ∷ before)))
    move-kept None kept = tt
    move-kept (Some v) kept =
        back (OfThread t the_move) told v kept.0
        (closed-covers s m starts (OfThread t the_move ∷ before_run) a.shared (roots_of m.roots a.threads.items) end.words are v kept.0 kept.1)

    -- the same of what the search for it returns
    pub move-kept-ok : {E : Type 0} (r : Result (Option Walk) E) → IfOk r (λ o. IfSome o (λ kept. IsOver (cells s) kept × IsClosed s a.shared (roots_of m.roots a.threads.items) kept))
        → IfOk r (λ o. IfSome o (IsCoverAfter s m starts (run_by s m starts (actor ∷ before))))
    move-kept-ok (Ok o) kept = move-kept o kept
    move-kept-ok (Err e) kept = tt
