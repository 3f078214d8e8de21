-- A thread's next move, and the actors after it.
use Rattle.std.proofs.Common.{◌≡◌, ◌<◌, inl, inr, ℕ, Bool, Option, Some, None, List, ◌∷◌, slice_get, slice_set, length-set, refl, sym, ap, ◌∙◌, subst, if◌then◌else◌}
use Rattle.std.specs.Vec.{with_item}
use Rattle.lemmas.specs.Numbers.{test_yes}
use Rattle.pools.specs.Heap.{Setup, cells}
use Rattle.runs.specs.Machine.{WordValue, Machine}
use Rattle.runs.specs.Moves as moves
use Rattle.runs.specs.Moves.{step_of, state_after}
use Rattle.runs.specs.ModuleRuns.{Happening, OfThread, share_of, heap_of}
use Rattle.runs.specs.Ends.{Standing, StandsAfter, moved, next_move_of}
use Rattle.runs.specs.Standings.{goes_on}
use Rattle.moves.specs.declared.actor.Actor.{Actor}
use Rattle.moves.specs.declared.actor.Actor.TheVariants.{Thread}
use Rattle.moves.specs.declared.cause.Cause.{Cause}
use Rattle.moves.specs.declared.moves.Move.{Move}
use Rattle.moves.specs.declared.thread_state.ThreadState.{ThreadState}
use Rattle.moves.specs.Calls.{move_in}
use Rattle.moves.specs.Causes.{Breaks}
use Rattle.moves.specs.Runs.{collector_after, by_thread, next_by, run_by}
use Rattle.moves.specs.Shared.{with_move}
use Rattle.moves.specs.Stands.{standing, sight_in}
use Rattle.moves.specs.Drawn.{drawn, turns-with}
use Rattle.moves.specs.Sights.{next_in_words}
use Rattle.moves.specs.Breaks.{first_cause}
use Rattle.stepping.specs.Reach.{AddsNothing, LosesNothing}
use Rattle.stepping.specs.Loss.{IsTold}
use Rattle.stepping.specs.declared.loss.Loss.{Loss}
use Rattle.stepping.specs.declared.loss.Loss.TheVariants.{Nothing, Possible}
use Rattle.stepping.specs.Growth.{ThreadIsAfter, MoveGrows}
use Rattle.stepping.specs.declared.acting.Actors.{Actors}
use Rattle.stepping.specs.declared.happening.Happening.TheVariants as happening
use Rattle.stepping.specs.Ends.{AreAfterSteps, IsEnd, IsOneStep}
use Rattle.stepping.proofs.Lists.{got-set, put-back}
use Rattle.stepping.proofs.Ends.{run_more, run_same, KeepsAll, is_longer_run}

-- ---- where it is

-- where the thread is
pub thread_is_after : (s : Setup) (m : Machine) (Fits : m.State → Type 0) (starts : ℕ → m.State) (before : List Actor) (a : Actors m.State) → AreAfterSteps s m Fits starts before a
    → (t : ℕ) → t < s.threads → (thread_state : ThreadState m.State) → slice_get a.threads.items t ≡ Some thread_state → ThreadIsAfter s m Fits starts (run_by s m starts before) t thread_state a.shared
thread_is_after s m Fits starts before a b t lt thread_state is =
    let end = b.is_after.is_end in
    let d = drawn s m starts before b.is_after.are_actors in
    record {
      few_cells = end.few_cells;
      is_run = d.is_run;
      tries = d.tries t lt;
      is_thread = lt;
      stands = end.stands t thread_state is;
      fits = end.fits t thread_state is;
      replaced = end.replaced t thread_state is;
      words = end.words;
    }

-- its next happening, by where it is and the words as they are
next-by-thread : (s : Setup) (m : Machine) (Fits : m.State → Type 0) (starts : ℕ → m.State) (before : List Actor) (a : Actors m.State) → AreAfterSteps s m Fits starts before a
    → (t : ℕ) (thread_state : ThreadState m.State) → slice_get a.threads.items t ≡ Some thread_state
    → next_by s m starts (run_by s m starts before) (Thread t) ≡ by_thread t (next_move_of s m (sight_in s a.shared thread_state.hints) (standing s m thread_state))
next-by-thread s m Fits starts before a b t thread_state is =
    let end = b.is_after.is_end in
    next_in_words s m starts (run_by s m starts before) t (standing s m thread_state) a.shared end.words.afterwards (end.stands t thread_state is)

-- the actors with a thread put back that was there
pub same-actors : {State : Type 0} (a : Actors State) (t : ℕ) (thread_state : ThreadState State) → slice_set a.threads.items t thread_state ≡ a.threads.items
    → record { schema = a.schema; threads = with_item a.threads t thread_state; shared = a.shared; collector = a.collector } ≡ a
same-actors {State} a t thread_state e =
    let e' : with_item a.threads t thread_state ≡ a.threads = put-back a.threads t thread_state e in
    λ i. record { schema = a.schema; threads = e' i; shared = a.shared; collector = a.collector }

-- ---- a thread that has ended

-- nothing happens
pub moved-none : (s : Setup) (m : Machine) (Fits : m.State → Type 0) (starts : ℕ → m.State) (before : List Actor) (a : Actors m.State) → AreAfterSteps s m Fits starts before a
    → (t : ℕ) → t < s.threads → (thread_state : ThreadState m.State) → slice_get a.threads.items t ≡ Some thread_state
    → next_move_of s m (sight_in s a.shared thread_state.hints) (standing s m thread_state) ≡ None → IsOneStep s m Fits starts before (Thread t) None a
moved-none s m Fits starts before a b t lt thread_state is ended =
    let none = next-by-thread s m Fits starts before a b t thread_state is ∙ ap (by_thread t) ended in
    record {
      made_is = none;
      afterwards = record {
        schema = b.schema;
        setup = b.setup;
        is_after = record {
          are_actors = (lt, b.is_after.are_actors);
          is_end = subst (λ (run : List Happening). IsEnd s m Fits starts run a.threads.items a.shared a.collector) (sym (run_same s m starts before (Thread t) none)) b.is_after.is_end;
        };
      };
    }

-- ---- a thread that moves

-- its own share
share-with : (t : ℕ) (move : moves.Move) (run : List Happening) → share_of t (OfThread t move ∷ run) ≡ move ∷ share_of t run
share-with t move run = ap (λ (b : Bool). if b then move ∷ share_of t run else share_of t run) (test_yes t t refl)

-- a step that stores nothing and leaves the roots unchanged loses nothing
loses-none : (s : Setup) (m : Machine) (starts : ℕ → m.State) (run : List Happening) (t : ℕ) (thread_state : ThreadState m.State) (move : moves.Move) (afterwards : ThreadState m.State)
    → StandsAfter s m starts run t (standing s m thread_state) → standing s m afterwards ≡ moved s m (standing s m thread_state) move
    → AddsNothing move × (m.roots afterwards.state ≡ m.roots thread_state.state) → LosesNothing s m starts run (OfThread t move)
loses-none s m starts run t thread_state move afterwards stands is loses = (
  loses.0,
  ap (λ (share : List moves.Move). m.roots (state_after s m t (starts t) share)) (sym (share-with t move run))
      ∙ ap m.roots (sym ((goes_on s m starts run t (standing s m thread_state) stands).own move).state)
      ∙ ap (λ (st : Standing m.State). m.roots st.state) (sym is)
      ∙ loses.1
      ∙ ap m.roots stands.state,
)

-- and one that loses nothing stores nothing and leaves the roots unchanged
loses-back : (s : Setup) (m : Machine) (starts : ℕ → m.State) (run : List Happening) (t : ℕ) (thread_state : ThreadState m.State) (move : moves.Move) (afterwards : ThreadState m.State)
    → StandsAfter s m starts run t (standing s m thread_state) → standing s m afterwards ≡ moved s m (standing s m thread_state) move
    → LosesNothing s m starts run (OfThread t move) → AddsNothing move × (m.roots afterwards.state ≡ m.roots thread_state.state)
loses-back s m starts run t thread_state move afterwards stands is loses = (
  loses.0,
  ap (λ (st : Standing m.State). m.roots st.state) is
      ∙ ap m.roots ((goes_on s m starts run t (standing s m thread_state) stands).own move).state
      ∙ ap (λ (share : List moves.Move). m.roots (state_after s m t (starts t) share)) (share-with t move run)
      ∙ loses.1
      ∙ ap m.roots (sym stands.state),
)

-- what is told where one statement holds is told where the other does, if either gives the other
told-so : (loss : Loss) (P Q : Type 0) → (P → Q) → (Q → P) → IsTold loss P → IsTold loss Q
told-so Nothing P Q to back told = to told
told-so Possible P Q to back told = λ q. told (back q)

-- the end of the run with the move
moves-on : (s : Setup) (m : Machine) (Fits : m.State → Type 0) (starts : ℕ → m.State) (run : List Happening) (a : Actors m.State) → IsEnd s m Fits starts run a.threads.items a.shared a.collector
    → (t : ℕ) (thread_state : ThreadState m.State) → slice_get a.threads.items t ≡ Some thread_state
    → (made : Move) → MoveGrows s m Fits run t thread_state a.shared made
    → (afterwards : ThreadState m.State) → standing s m afterwards ≡ moved s m (standing s m thread_state) (move_in (m.roots thread_state.state) made)
    → IsEnd s m Fits starts (OfThread t (move_in (m.roots thread_state.state) made) ∷ run) (slice_set a.threads.items t afterwards) (with_move a.shared t thread_state.stage made) a.collector
moves-on s m Fits starts run a end t thread_state is made grows afterwards after_is = record {
  few_cells = end.few_cells;
  count = length-set a.threads.items t afterwards ∙ end.count;
  stands = λ u other got. elim (got-set a.threads.items t u afterwards other got) [
    | inl h ↦ subst (λ (v : ℕ). StandsAfter s m starts (OfThread t move ∷ run) v (standing s m other)) (sym h.0)
        (subst (λ (v : Standing m.State). StandsAfter s m starts (OfThread t move ∷ run) t v) (sym (ap (standing s m) h.1 ∙ after_is))
        ((goes_on s m starts run t (standing s m thread_state) (end.stands t thread_state is)).own move))
    | inr h ↦ (goes_on s m starts run u (standing s m other) (end.stands u other h.1)).other t move (λ q. h.0 (sym q))
  ];
  fits = λ u other got. elim (got-set a.threads.items t u afterwards other got) [
    | inl h ↦ subst (λ (v : m.State). Fits v) (sym (ap (λ (v : ThreadState m.State). v.state) h.1 ∙ ap (λ (v : Standing m.State). v.state) after_is)) grows.fits
    | inr h ↦ end.fits u other h.1
  ];
  replaced = λ u other got. elim (got-set a.threads.items t u afterwards other got) [
    | inl h ↦ subst (λ (v : WordValue). v.cell < cells s) (sym (ap (λ (v : ThreadState m.State). v.replaced) h.1 ∙ ap (λ (v : Standing m.State). v.old) after_is)) grows.replaced
    | inr h ↦ end.replaced u other h.1
  ];
  collects = end.collects ∙ ap (collector_after s) (sym (turns-with t (step_of move) (heap_of run)));
  in_heap = end.in_heap;
  words = grows.words;
}
  where
    move : moves.Move
    move = move_in (m.roots thread_state.state) made

-- what the move is reported as, and the actors after it
pub moved-on : (s : Setup) (m : Machine) (Fits : m.State → Type 0) (starts : ℕ → m.State) (before : List Actor) (a : Actors m.State) → AreAfterSteps s m Fits starts before a
    → (t : ℕ) → t < s.threads → (thread_state : ThreadState m.State) → slice_get a.threads.items t ≡ Some thread_state
    → (made : Move) → next_move_of s m (sight_in s a.shared thread_state.hints) (standing s m thread_state) ≡ Some (move_in (m.roots thread_state.state) made) → MoveGrows s m Fits (run_by s m starts before) t thread_state a.shared made
    → (afterwards : ThreadState m.State) → standing s m afterwards ≡ moved s m (standing s m thread_state) (move_in (m.roots thread_state.state) made)
    → (broke : Option Cause) → Breaks a.shared made broke
    → KeepsAll s m starts → (loss : Loss) → IsTold loss (AddsNothing (move_in (m.roots thread_state.state) made) × (m.roots afterwards.state ≡ m.roots thread_state.state))
    → IsOneStep s m Fits starts before (Thread t) (Some (record { happening = happening.Thread t made; broke = broke; loss = loss }))
    (record { schema = a.schema; threads = with_item a.threads t afterwards; shared = with_move a.shared t thread_state.stage made; collector = a.collector })
moved-on s m Fits starts before a b t lt thread_state is made asked grows afterwards after_is broke breaks keeps loss told =
    let end = b.is_after.is_end in
    let run = run_by s m starts before in
    let move = move_in (m.roots thread_state.state) made in
    let next : next_by s m starts run (Thread t) ≡ Some (OfThread t move) = next-by-thread s m Fits starts before a b t thread_state is ∙ ap (by_thread t) asked in
    let stands = end.stands t thread_state is in
    let told_of : IsTold loss (LosesNothing s m starts run (OfThread t move)) =
    told-so loss (AddsNothing move × (m.roots afterwards.state ≡ m.roots thread_state.state)) (LosesNothing s m starts run (OfThread t move))
    (loses-none s m starts run t thread_state move afterwards stands after_is) (loses-back s m starts run t thread_state move afterwards stands after_is) told in
    record {
      made_is = record {
        happening = OfThread t move;
        next = next;
        tells = ap (λ (state : m.State). OfThread t (move_in (m.roots state) made)) (end.stands t thread_state is).state;
        broke = first_cause s m starts run t (m.roots thread_state.state) a.shared made broke end.words.afterwards breaks;
        loss = told_of;
        loses = λ lossless before_it. keeps run (OfThread t move) (is_longer_run s m starts before (Thread t) (OfThread t move) (lt, b.is_after.are_actors) next)
            (subst (λ (l : Loss). IsTold l (LosesNothing s m starts run (OfThread t move))) lossless told_of) before_it;
      };
      afterwards = record {
        schema = b.schema;
        setup = b.setup;
        is_after = record {
          are_actors = (lt, b.is_after.are_actors);
          is_end = subst (λ (r : List Happening). IsEnd s m Fits starts r (slice_set a.threads.items t afterwards) (with_move a.shared t thread_state.stage made) a.collector) (sym (run_more s m starts before (Thread t) (OfThread t move) next))
              (moves-on s m Fits starts run a end t thread_state is made grows afterwards after_is);
        };
      };
    }
