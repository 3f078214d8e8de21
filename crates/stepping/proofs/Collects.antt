-- The collector's next step, and the actors after it.
use Rattle.std.proofs.Common.{◌≡◌, ℕ, true, false, Option, Some, None, List, ◌∷◌, refl, sym, ap, ◌∙◌, subst}
use Rattle.pools.specs.Heap.{Setup}
use Rattle.colours.specs.declared.place.Place.{Place}
use Rattle.colours.specs.declared.ask.Ask.{Ask}
use Rattle.colours.specs.declared.turn.Turn.{Turn}
use Rattle.colours.specs.declared.turn.Turn.TheVariants.{Free}
use Rattle.colours.specs.Colours.{cycle_of}
use Rattle.colours.specs.Steps as steps
use Rattle.colours.specs.Steps.{place_of}
use Rattle.colours.specs.Runs.{word_after, turns_of}
use Rattle.trace_sweep.specs.declared.motion.Motion.{Motion}
use Rattle.trace_sweep.specs.Turns.{is_at_limit}
use Rattle.trace_sweep.specs.Collecting.{Collecting, ask_of, turn_of, moved}
use Rattle.trace_sweep.specs.Stands.{StandsAfter, IsStepOn}
use Rattle.trace_sweep.specs.Order.{turn_of-turn_in}
use Rattle.runs.specs.Machine.{Machine}
use Rattle.runs.specs.ModuleRuns.{Happening, OfCollector, heap_of}
use Rattle.runs.specs.Standings.{goes_on}
use Rattle.moves.specs.declared.actor.Actor.{Actor}
use Rattle.moves.specs.declared.actor.Actor.TheVariants.{Collector}
use Rattle.moves.specs.declared.shared.Shared.{Shared}
use Rattle.moves.specs.Runs.{found_in, collector_after, turn_for, by_collector, next_by, run_by}
use Rattle.moves.specs.Shared.{held_at}
use Rattle.moves.specs.Stands.{standing}
use Rattle.moves.specs.Drawn.{drawn, moved-found}
use Rattle.stepping.specs.Reach.{FreesNothing, LosesNothing}
use Rattle.stepping.specs.Loss.{IsTold}
use Rattle.stepping.specs.declared.loss.Loss.{Loss}
use Rattle.stepping.specs.Growth.{CollectorIsAfter, MotionGrows, with_stored}
use Rattle.stepping.specs.declared.acting.Actors.{Actors}
use Rattle.stepping.specs.declared.happening.Happening.TheVariants as made
use Rattle.stepping.specs.declared.happening.MadeStep.{MadeStep}
use Rattle.stepping.specs.Ends.{AreAfterSteps, IsEnd, IsOneStep}
use Rattle.stepping.proofs.Ends.{run_more, run_same, KeepsAll, is_longer_run}

-- where the collector is
pub collector_is_after : (s : Setup) (m : Machine) (Fits : m.State → Type 0) (starts : ℕ → m.State) (before : List Actor) (a : Actors m.State) → AreAfterSteps s m Fits starts before a
    → CollectorIsAfter s (run_by s m starts before) a.collector a.shared
collector_is_after s m Fits starts before a b =
    let end = b.is_after.is_end in
    let d = drawn s m starts before b.is_after.are_actors in
    record {
      stands = subst (λ (c : Collecting). StandsAfter s (turns_of (heap_of (run_by s m starts before))) c) (sym end.collects) d.stands;
      in_heap = end.in_heap;
      words = end.words;
    }

-- at the limit it asks for nothing
none-at-limit : (c : Collecting) → is_at_limit c.posted c.at ≡ true → ask_of c ≡ None
none-at-limit c e = rw e refl

-- before it, for the operation of its step
ask-of-step : (c : Collecting) (found : ℕ) → is_at_limit c.posted c.at ≡ false → ask_of c ≡ Some (steps.turn_of (cycle_of c.posted) (turn_of c found))
ask-of-step c found e = rw e (ap (λ (a : Ask). Some a) (turn_of-turn_in (cycle_of c.posted) c.heap c.posted c.listed c.at 0 found))

-- so the next step of the run is the step made
next-turn : (word_at : Place → ℕ) (c : Collecting) (motion : Motion) (afterwards : Collecting) → IsStepOn word_at c motion afterwards → turn_for c word_at (ask_of c) ≡ Some motion.turn
next-turn word_at c motion afterwards x =
    let asked = ask-of-step c (word_at motion.place) x.further ∙ ap (λ (t : Turn). Some (steps.turn_of (cycle_of c.posted) t)) (sym x.turn) in
    ap (turn_for c word_at) asked ∙ ap (λ (p : Place). Some (turn_of c (word_at p))) (sym x.place) ∙ ap (λ (t : Turn). Some t) (sym x.turn)

-- on words that are the same
same-turn : (w v : Place → ℕ) → ((p : Place) → w p ≡ v p) → (c : Collecting) (ask : Option Ask) → turn_for c w ask ≡ turn_for c v ask
same-turn w v e c None = refl
same-turn w v e c (Some ask) = ap (λ n. Some (turn_of c n)) (e (place_of ask))

-- the next happening, by the collector and the words as they are
next-by-collector : (s : Setup) (m : Machine) (Fits : m.State → Type 0) (starts : ℕ → m.State) (before : List Actor) (a : Actors m.State) → AreAfterSteps s m Fits starts before a
    → next_by s m starts (run_by s m starts before) Collector ≡ by_collector (turn_for a.collector (held_at a.shared) (ask_of a.collector))
next-by-collector s m Fits starts before a b =
    let end = b.is_after.is_end in
    let run = run_by s m starts before in
    ap (λ (c : Collecting). by_collector (turn_for c (word_after s (heap_of run)) (ask_of c))) (sym end.collects)
    ∙ ap by_collector (same-turn (word_after s (heap_of run)) (held_at a.shared) (λ p. sym (end.words.afterwards.words p)) a.collector (ask_of a.collector))

-- ---- at the limit

-- nothing happens
pub collected-none : (s : Setup) (m : Machine) (Fits : m.State → Type 0) (starts : ℕ → m.State) (before : List Actor) (a : Actors m.State) → AreAfterSteps s m Fits starts before a
    → is_at_limit a.collector.posted a.collector.at ≡ true → IsOneStep s m Fits starts before Collector None a
collected-none s m Fits starts before a b limit =
    let none = next-by-collector s m Fits starts before a b ∙ ap (λ (o : Option Ask). by_collector (turn_for a.collector (held_at a.shared) o)) (none-at-limit a.collector limit) in
    record {
      made_is = none;
      afterwards = record {
        schema = b.schema;
        setup = b.setup;
        is_after = record {
          are_actors = (tt, b.is_after.are_actors);
          is_end = subst (λ (run : List Happening). IsEnd s m Fits starts run a.threads.items a.shared a.collector) (sym (run_same s m starts before Collector none)) b.is_after.is_end;
        };
      };
    }

-- ---- before it

-- where the collector is after the run's next step
collects-more : (s : Setup) (c : Collecting) (run : List Happening) (word_at : Place → ℕ) (motion : Motion) (afterwards : Collecting) → c ≡ collector_after s (turns_of (heap_of run)) → IsStepOn word_at c motion afterwards
    → afterwards ≡ collector_after s (turns_of (heap_of (OfCollector motion.turn ∷ run)))
unfolding collector_after
collects-more s c run word_at motion afterwards e x =
    x.moves ∙ sym (moved-found c (word_at motion.place)) ∙ ap (λ (t : Turn). moved c (found_in t)) (sym x.turn) ∙ ap (λ (d : Collecting). moved d (found_in motion.turn)) e

-- the actors are those after it
pub collected : (s : Setup) (m : Machine) (Fits : m.State → Type 0) (starts : ℕ → m.State) (before : List Actor) (a : Actors m.State) → AreAfterSteps s m Fits starts before a
    → (motion : Motion) (afterwards : Collecting) → IsStepOn (held_at a.shared) a.collector motion afterwards → MotionGrows s (run_by s m starts before) a.shared motion afterwards
    → KeepsAll s m starts → (loss : Loss) → IsTold loss (LosesNothing s m starts (run_by s m starts before) (OfCollector motion.turn))
    → IsOneStep s m Fits starts before Collector (Some (record { happening = made.Collector motion.turn; broke = None; loss = loss }))
    (record { schema = a.schema; threads = a.threads; shared = with_stored a.shared motion motion.stored; collector = afterwards })
collected s m Fits starts before a b motion afterwards x grows keeps loss told =
    let end = b.is_after.is_end in
    let run = run_by s m starts before in
    let next : next_by s m starts run Collector ≡ Some (OfCollector motion.turn) = next-by-collector s m Fits starts before a b ∙ ap by_collector (next-turn (held_at a.shared) a.collector motion afterwards x) in
    let ends : IsEnd s m Fits starts (OfCollector motion.turn ∷ run) a.threads.items (with_stored a.shared motion motion.stored) afterwards = record {
      few_cells = end.few_cells;
      count = end.count;
      stands = λ t thread_state is. (goes_on s m starts run t (standing s m thread_state) (end.stands t thread_state is)).collector motion.turn;
      fits = end.fits;
      replaced = end.replaced;
      collects = collects-more s a.collector run (held_at a.shared) motion afterwards end.collects x;
      in_heap = grows.in_heap;
      words = grows.words;
    } in
    record {
      made_is = record {
        happening = OfCollector motion.turn;
        next = next;
        tells = refl;
        broke = (λ w. w, λ w. w);
        loss = told;
        loses = λ lossless before_it. keeps run (OfCollector motion.turn) (is_longer_run s m starts before Collector (OfCollector motion.turn) (tt, b.is_after.are_actors) next)
            (subst (λ (l : Loss). IsTold l (LosesNothing s m starts run (OfCollector motion.turn))) lossless told) before_it;
      };
      afterwards = record {
        schema = b.schema;
        setup = b.setup;
        is_after = record {
          are_actors = (tt, b.is_after.are_actors);
          is_end = subst (λ (r : List Happening). IsEnd s m Fits starts r a.threads.items (with_stored a.shared motion motion.stored) afterwards) (sym (run_more s m starts before Collector (OfCollector motion.turn) next)) ends;
        };
      };
    }

-- ---- as the code makes it

-- each step but the one that frees a cell frees nothing
pub frees-none : (turn : Turn) → ((cell : ℕ) → turn ≡ Free cell → ⊥) → FreesNothing turn
frees-none (Free cell) none = none cell refl
frees-none turn none = tt

-- the words after a step that stores nothing
pub stored-none : (h : Shared) (motion : Motion) → ((n : ℕ) → motion.stored ≡ Some n → ⊥) → with_stored h motion motion.stored ≡ h
stored-none h motion none = go motion.stored refl
  where
    go : (o : Option ℕ) → motion.stored ≡ o → with_stored h motion o ≡ h
    go None e = refl
    go (Some n) e = absurd (none n e)

-- the actors after the step, with these words
pub with-words : (s : Setup) (m : Machine) (Fits : m.State → Type 0) (starts : ℕ → m.State) (before : List Actor) (made : Option MadeStep) (a d : Actors m.State) (h k : Shared) (c : Collecting) → k ≡ h
    → d ≡ record { schema = a.schema; threads = a.threads; shared = h; collector = c }
    → IsOneStep s m Fits starts before Collector made (record { schema = a.schema; threads = a.threads; shared = k; collector = c }) → IsOneStep s m Fits starts before Collector made d
with-words s m Fits starts before made a d h k c e is x =
    subst (λ (v : Actors m.State). IsOneStep s m Fits starts before Collector made v) (sym is)
    (subst (λ (v : Shared). IsOneStep s m Fits starts before Collector made (record { schema = a.schema; threads = a.threads; shared = v; collector = c })) e x)
