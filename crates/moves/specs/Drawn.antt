-- A list of actors makes a run, and the collector is where its own steps in it lead.
use Rattle.std.proofs.Common.{◌≡◌, ◌<◌, inl, inr, ℕ, ◌==◌, Bool, true, false, Option, Some, None, List, [], ◌∷◌, refl, sym, ap, subst, if◌then◌else◌, MatchOption, nat_lt, length, is_some}
use Rattle.lemmas.specs.Numbers.{test_true}
use Rattle.lemmas.specs.Bools.{yes_or_no}
use Rattle.pools.specs.Heap.{Setup, words_of_cell}
use Rattle.colours.specs.declared.place.Place.{Place}
use Rattle.colours.specs.declared.ask.Ask.{Ask}
use Rattle.colours.specs.declared.turn.Turn.{Turn}
use Rattle.colours.specs.Steps.{Step, place_of}
use Rattle.colours.specs.Collector.{Collection, Posting, Waiting, ShadingGlobals, Passing, Scanning, Shading, Sweeping, Clearing, reference_from}
use Rattle.colours.specs.Runs.{Event, word_after, turns_of}
use Rattle.trace_sweep.specs.Collecting.{Collecting, ask_of, turn_of, moved, stored_by}
use Rattle.trace_sweep.specs.Stands.{StandsAfter}
use Rattle.trace_sweep.specs.Order.{next-step, took-stands}
use Rattle.trace_sweep.specs.Extends.{next-extends}
use Rattle.runs.specs.Machine.{Machine}
use Rattle.runs.specs.Moves.{Move, step_of, steps_of}
use Rattle.runs.specs.ModuleRuns.{Happening, OfThread, share_of, with_step, heap_of, IsNext, IsModuleRun}
use Rattle.runs.specs.NextMoves.{next_move_in, sight_after, IsSightOf}
use Rattle.runs.specs.Tries.{by_hint, TriesByHint}
use Rattle.runs.specs.NextMoveLemmas.{next_is}
use Rattle.runs.specs.TryLemmas.{keeps_order}
use Rattle.moves.specs.declared.actor.Actor.{Actor}
use Rattle.moves.specs.declared.actor.Actor.TheVariants.{Thread, Collector}
use Rattle.moves.specs.Runs.{found_in, collector_after, turn_for, by_thread, by_collector, next_by, with_next, run_by, AreActors}

-- the number that a step's entry records leads to the same place
pub moved-found : (c : Collecting) (found : ℕ) → moved c (found_in (turn_of c found)) ≡ moved c found
moved-found c found = go c.heap c.posted c.listed c.at
  where
    go : (s : Setup) (stage : ℕ) (listed : List ℕ) (at : Collection) → moved (record { heap = s; posted = stage; at = at; listed = listed }) (found_in (turn_of (record { heap = s; posted = stage; at = at; listed = listed }) found))
        ≡ moved (record { heap = s; posted = stage; at = at; listed = listed }) found
    go s stage listed Posting = refl
    go s stage listed (Waiting thread) = refl
    go s stage listed ShadingGlobals = refl
    go s stage listed (Passing p) = refl
    go s stage listed (Scanning cell word p) = elim (yes_or_no (nat_lt (reference_from s cell word) (length (words_of_cell s cell)))) [
      | inl is ↦ rw is refl
      | inr n ↦ rw n refl
    ]
    go s stage listed (Shading value cell word p) = refl
    go s stage listed (Sweeping cell) = refl
    go s stage listed (Clearing cell word) = elim (yes_or_no (nat_lt word (length (words_of_cell s cell)))) [
      | inl is ↦ rw is refl
      | inr n ↦ rw n refl
    ]

-- a thread's step is none of the collector's
pub turns-with : (t : ℕ) (o : Option Step) (h : List Event) → turns_of (with_step t o h) ≡ turns_of h
turns-with t None h = refl
turns-with t (Some step) h = refl

-- a run that was drawn so far
pub record IsDrawn (s : Setup) (m : Machine) (starts : ℕ → m.State) (run : List Happening) : Type 0 where
  pub is_run : IsModuleRun s m starts run
  pub tries : (t : ℕ) → t < s.threads → TriesByHint s m t (starts t) (share_of t run)
  pub stands : StandsAfter s (turns_of (heap_of run)) (collector_after s (turns_of (heap_of run)))

-- before the first step
drawn-none : (s : Setup) (m : Machine) (starts : ℕ → m.State) → IsDrawn s m starts []
unfolding collector_after
drawn-none s m starts = record {
  is_run = tt;
  tries = λ t lt. tt;
  stands = record { heap = refl; posted = refl; place = Posting; at = refl; listed = tt; collects = refl };
}

-- what a thread sees of a run
seen : (s : Setup) (run : List Happening) (order : ℕ → List ℕ → ℕ) → IsSightOf s run (sight_after s run order)
seen s run order = record {
  word = λ c i. refl;
  word_birth = λ c i. refl;
  posted = refl;
  is_blue = λ c. refl;
  claim_birth = λ layout tried. refl;
}

-- a thread's next move, if there is one
drawn-move : (s : Setup) (m : Machine) (starts : ℕ → m.State) (run : List Happening) (t : ℕ) → t < s.threads → IsDrawn s m starts run
    → IsDrawn s m starts (with_next (next_by s m starts run (Thread t)) run)
drawn-move s m starts run t lt d =
    let order = keeps_order s m starts run t d.is_run (d.tries t lt) in
    let next = next_is s m starts run (sight_after s run hinted) t d.is_run (seen s run hinted) lt order.in_pool in
    go (next_move_in s m starts run (sight_after s run hinted) t) next.is_next order.next
  where
    hinted : (layout : ℕ) → List ℕ → ℕ
    hinted = by_hint s (steps_of (share_of t run))

    go : (o : Option Move) → MatchOption o (Unit {0}) (λ move. IsNext s m starts run (OfThread t move))
        → MatchOption o (Unit {0}) (λ move. TriesByHint s m t (starts t) (move ∷ share_of t run)) → IsDrawn s m starts (with_next (by_thread t o) run)
    go None next tries = d
    go (Some move) next tries = record {
      is_run = (d.is_run, next);
      tries = λ u few. each u few (t == u) refl;
      stands = subst (λ (log : List Turn). StandsAfter s log (collector_after s log)) (sym (turns-with t (step_of move) (heap_of run))) d.stands;
    }
      where
        each : (u : ℕ) → u < s.threads → (b : Bool) → t == u ≡ b → TriesByHint s m u (starts u) (if b then move ∷ share_of u run else share_of u run)
        each u few true e = subst (λ v. TriesByHint s m v (starts v) (move ∷ share_of v run)) (test_true t u e) tries
        each u few false e = d.tries u few

-- the collector's next step, if there is one
drawn-turn : (s : Setup) (m : Machine) (starts : ℕ → m.State) (run : List Happening) → IsDrawn s m starts run
    → IsDrawn s m starts (with_next (next_by s m starts run Collector) run)
unfolding collector_after
drawn-turn s m starts run d = go (ask_of (collector_after s (turns_of (heap_of run)))) refl
  where
    log : List Turn
    log = turns_of (heap_of run)

    c : Collecting
    c = collector_after s log

    at : Place → ℕ
    at = word_after s (heap_of run)

    go : (o : Option Ask) → ask_of c ≡ o → IsDrawn s m starts (with_next (by_collector (turn_for c at o)) run)
    go None e = d
    go (Some ask) e =
        let found = at (place_of ask) in
        let step = next-step c at ask (place_of ask) found (turn_of c found) (stored_by ask found) (moved c found) e refl refl refl refl refl in
        let goes = took-stands c found (turn_of c found) (moved c found) refl refl (ap is_some e) in
        let extends = next-extends c at (record { turn = turn_of c found; place = place_of ask; stored = stored_by ask found }) (moved c found) step goes s (heap_of run) d.stands (λ p. refl) in
        record {
          is_run = (d.is_run, extends.may_happen);
          tries = d.tries;
          stands = subst (λ (e : Collecting). StandsAfter s (turn_of c found ∷ log) e) (sym (moved-found c found)) (goes s log d.stands);
        }

-- the run of a list of actors
pub drawn : (s : Setup) (m : Machine) (starts : ℕ → m.State) (actors : List Actor) → AreActors s.threads actors → IsDrawn s m starts (run_by s m starts actors)
unfolding run_by
drawn s m starts [] are = drawn-none s m starts
drawn s m starts (Thread t ∷ actors) are = drawn-move s m starts (run_by s m starts actors) t are.0 (drawn s m starts actors are.1)
drawn s m starts (Collector ∷ actors) are = drawn-turn s m starts (run_by s m starts actors) (drawn s m starts actors are.1)
