-- One step of an actor after some others: what it adds to the run, and how it breaks it.
use Rattle.std.proofs.Common.{◌≡◌, ◌<◌, ◌≤◌, ◌+◌, ◌⊎◌, inl, inr, ℕ, suc, Bool, cond, List, [], ◌∷◌, length, Option, Some, None, MatchOption, refl, sym, ap, subst, ◌∙◌, arith}
use Rattle.std.specs.Prelude.{count_by}
use Rattle.std.proofs.lemmas.List.Sums.{sum_by-cons, count_by-le-length}
use Rattle.pools.specs.Heap.{Setup}
use Rattle.colours.specs.declared.turn.Turn.{Turn}
use Rattle.colours.specs.declared.turn.Turn.TheVariants as turn
use Rattle.runs.specs.Machine.{Machine, WordValue}
use Rattle.runs.specs.ModuleRuns.{Happening, OfThread, OfCollector}
use Rattle.runs.specs.Broken as broken
use Rattle.runs.specs.Broken.{Touched, used_by, IsBlue, IsReborn, IsBroken, IsCause, Shows, GoesBefore, IsReachable, IsGone, WentWrong, TouchedGone}
use Rattle.moves.specs.declared.actor.Actor.{Actor}
use Rattle.moves.specs.declared.moves.Move.{Move}
use Rattle.moves.specs.declared.moves.Move.TheVariants as move
use Rattle.moves.specs.Calls.{move_in}
use Rattle.moves.specs.Causes.{IsStepCause}
use Rattle.moves.specs.Runs.{run_by, next_by, with_next}
use Rattle.stepping.specs.declared.gone.Gone.{Gone}
use Rattle.stepping.specs.declared.gone.Gone.TheVariants.{Blue, Reborn}
use Rattle.stepping.specs.Reach.{IsFirstGone}
use Rattle.stepping.specs.declared.happening.Happening.{Happening as Made}
use Rattle.stepping.specs.declared.happening.Happening.TheVariants.{Thread, Collector}
use Rattle.stepping.specs.declared.happening.MadeStep.{MadeStep}
use Rattle.stepping.specs.declared.loss.Loss.TheVariants.{Nothing}
use Rattle.stepping.specs.Ends.{IsStepOrNone, Tells}
use Rattle.replay.specs.Lists.{cause_of_gone}
use Rattle.replay.specs.Outcomes.{claims, frees}
use Rattle.replay.specs.Watched.{claims_made, frees_made, claims_cell, frees_cell}

-- ---- the run

-- with the actor's next happening, if there is one
run-more : (s : Setup) (m : Machine) (starts : ℕ → m.State) (actor : Actor) (before : List Actor) (next : Option Happening) → next_by s m starts (run_by s m starts before) actor ≡ next
    → run_by s m starts (actor ∷ before) ≡ with_next next (run_by s m starts before)
unfolding run_by
run-more s m starts actor before next is = ap (λ o. with_next o (run_by s m starts before)) is

-- it has no more happenings than actors
pub run-short : (s : Setup) (m : Machine) (starts : ℕ → m.State) (actors : List Actor) → length (run_by s m starts actors) ≤ length actors
unfolding run_by
run-short s m starts [] = omega arith
run-short s m starts (actor ∷ actors) = go (run_by s m starts actors) (length actors) (next_by s m starts (run_by s m starts actors) actor) (run-short s m starts actors)
  where
    go : (run : List Happening) (count : ℕ) (next : Option Happening) → length run ≤ count → length (with_next next run) ≤ suc count
    go run count None short = omega (arith, short)
    go run count (Some happening) short = omega (arith, short)

-- ---- counts

-- one more of a list
count-more : {X : Type 0} (p : X → Bool) (x : X) (xs : List X) (n : ℕ) (b : Bool) → n ≡ count_by p xs → p x ≡ b → n + cond b 1 0 ≡ count_by p (x ∷ xs)
count-more p x xs n b is same =
    let more : count_by p (x ∷ xs) ≡ cond (p x) 1 0 + count_by p xs = sum_by-cons (λ y. cond (p y) 1 0) x xs in
    let test : cond {A = ℕ} (p x) 1 0 ≡ cond {A = ℕ} b 1 0 = ap (λ c. cond {A = ℕ} c 1 0) same in
    omega (arith, more, test, is)

-- a thread's move claims a cell where it is made as one
move-claims : (t : ℕ) (roots : List WordValue) (move : Move) → claims (OfThread t (move_in roots move)) ≡ claims_made (Thread t move)
move-claims t roots move.Works = refl
move-claims t roots move.GoesWrong = refl
move-claims t roots (move.ReadsWord base word value) = refl
move-claims t roots (move.ReadsOldValue base word value) = refl
move-claims t roots (move.Marks r) = refl
move-claims t roots (move.StoresAfterBarrier base word value) = refl
move-claims t roots (move.StoresPlain base word value) = refl
move-claims t roots (move.Claims r won) = refl
move-claims t roots (move.ReadsPosted stage) = refl
move-claims t roots (move.Answers stage) = refl
move-claims t roots move.Ends = refl
move-claims t roots (move.ReadsPostedFirst stage) = refl
move-claims t roots (move.EntersStage stage) = refl
move-claims t roots (move.ReadsPostedAgain stage) = refl

-- a step of the collector frees a cell where it is made as one
turn-frees : (turn : Turn) → frees (OfCollector turn) ≡ frees_made (Collector turn)
turn-frees (turn.PostStage stage) = refl
turn-frees (turn.ReadStage thread stage) = refl
turn-frees (turn.MarkFound cell colour) = refl
turn-frees (turn.ReadColour cell colour) = refl
turn-frees (turn.ScanWord cell word value) = refl
turn-frees (turn.Blacken cell) = refl
turn-frees (turn.ClearWord cell word) = refl
turn-frees (turn.Free cell) = refl

-- what was made claims a cell where the happening does that it tells
claims_told : (roots : ℕ → List WordValue) (made : Made) (happening : Happening) → Tells roots made happening → claims happening ≡ claims_made made
claims_told roots (Thread t move) happening tells = ap claims tells ∙ move-claims t (roots t) move
claims_told roots (Collector turn) happening tells = ap claims tells

-- and frees one
frees_told : (roots : ℕ → List WordValue) (made : Made) (happening : Happening) → Tells roots made happening → frees happening ≡ frees_made made
frees_told roots (Thread t move) happening tells = ap frees tells
frees_told roots (Collector turn) happening tells = ap frees tells ∙ turn-frees turn

-- the claims after a step, or none
pub claims-more : (s : Setup) (m : Machine) (starts : ℕ → m.State) (actor : Actor) (before : List Actor) (made : Option MadeStep) (n : ℕ)
    → IsStepOrNone s m starts (run_by s m starts before) actor made → n ≡ count_by claims (run_by s m starts before) → n + cond (claims_cell made) 1 0 ≡ count_by claims (run_by s m starts (actor ∷ before))
claims-more s m starts actor before None n none is = omega (arith, is, ap (count_by claims) (run-more s m starts actor before None none))
claims-more s m starts actor before (Some step) n is_step is =
    count-more claims is_step.happening (run_by s m starts before) n (claims_made step.happening) is (claims_told _ step.happening is_step.happening is_step.tells)
    ∙ ap (count_by claims) (sym (run-more s m starts actor before (Some is_step.happening) is_step.next))

-- the frees
pub frees-more : (s : Setup) (m : Machine) (starts : ℕ → m.State) (actor : Actor) (before : List Actor) (made : Option MadeStep) (n : ℕ)
    → IsStepOrNone s m starts (run_by s m starts before) actor made → n ≡ count_by frees (run_by s m starts before) → n + cond (frees_cell made) 1 0 ≡ count_by frees (run_by s m starts (actor ∷ before))
frees-more s m starts actor before None n none is = omega (arith, is, ap (count_by frees) (run-more s m starts actor before None none))
frees-more s m starts actor before (Some step) n is_step is =
    count-more frees is_step.happening (run_by s m starts before) n (frees_made step.happening) is (frees_told _ step.happening is_step.happening is_step.tells)
    ∙ ap (count_by frees) (sym (run-more s m starts actor before (Some is_step.happening) is_step.next))

-- the claims and frees of a run are no more than its actors
pub claims-short : (s : Setup) (m : Machine) (starts : ℕ → m.State) (actors : List Actor) → count_by claims (run_by s m starts actors) ≤ length actors
claims-short s m starts actors = omega (arith, count_by-le-length claims (run_by s m starts actors), run-short s m starts actors)

pub frees-short : (s : Setup) (m : Machine) (starts : ℕ → m.State) (actors : List Actor) → count_by frees (run_by s m starts actors) ≤ length actors
frees-short s m starts actors = omega (arith, count_by-le-length frees (run_by s m starts actors), run-short s m starts actors)

-- ---- causes

-- where nothing that is gone can be reached, a run is broken by its last step alone
pub unbroken_by : (s : Setup) (m : Machine) (starts : ℕ → m.State) (run : List Happening) → (WentWrong run → ⊥) → (TouchedGone s run → ⊥) → IsFirstGone s m starts run None → ¬ IsBroken s m starts run
unbroken_by s m starts run right kept sound (inl wrong) = right wrong
unbroken_by s m starts run right kept sound (inr (inl touched)) = kept touched
unbroken_by s m starts run right kept sound (inr (inr (r, reached, gone))) = sound r reached gone

-- a run that is not broken reaches nothing that is gone
pub none_gone : (s : Setup) (m : Machine) (starts : ℕ → m.State) (run : List Happening) → ¬ IsBroken s m starts run → IsFirstGone s m starts run None
none_gone s m starts run unbroken r reached gone = unbroken (inr (inr (r, reached, gone)))

-- a touch of this kind is one of a cell that was gone
touched_gone : (s : Setup) (P : List Happening → WordValue → Type 0) → ((run : List Happening) (r : WordValue) → P run r → IsGone s run r) → (run : List Happening) → Touched P run → TouchedGone s run
touched_gone s P f [] x = x
touched_gone s P f (OfThread t move ∷ run) x = go (used_by move) x
  where
    go : (o : Option WordValue) → MatchOption o ⊥ (P run) → MatchOption o ⊥ (IsGone s run)
    go None y = y
    go (Some r) y = f run r y
touched_gone s P f (OfCollector turn ∷ run) x = x

-- the first thing that is gone is the cause, where the last step itself breaks nothing
pub gone_is_cause : (s : Setup) (m : Machine) (starts : ℕ → m.State) (run : List Happening) (gone : Gone) → IsStepCause s m starts run None → IsFirstGone s m starts run (Some gone)
    → IsCause s m starts run (cause_of_gone gone)
gone_is_cause s m starts run gone none first = go gone first
  where
    wrong : ¬ Shows s m starts run broken.Wrong
    wrong shows = none.0 shows

    blue : (cell : ℕ) → ¬ Shows s m starts run (broken.TouchBlue cell)
    blue cell shows = none.1 (touched_gone s (λ before r. (r.cell ≡ cell) × IsBlue s before r) (λ before r y. inl y.1) run shows)

    birth : (cell : ℕ) → ¬ Shows s m starts run (broken.TouchBirth cell)
    birth cell shows = none.1 (touched_gone s (λ before r. (r.cell ≡ cell) × IsReborn s before r) (λ before r y. inr y.1) run shows)

    less : (c cell n : ℕ) → (n < n) ⊎ ((n ≡ n) × (c < cell)) → c < cell
    less c cell n (inl goes) = absurd (omega (arith, goes))
    less c cell n (inr goes) = goes.1

    go : (gone : Gone) → IsFirstGone s m starts run (Some gone) → IsCause s m starts run (cause_of_gone gone)
    go (Blue cell) first = record { shows = first.0; first = λ other goes shows. earlier other goes shows }
      where
        earlier : (other : broken.Cause) → GoesBefore other (broken.ReachBlue cell) → ¬ Shows s m starts run other
        earlier broken.Wrong goes shows = wrong shows
        earlier (broken.TouchBlue c) goes shows = blue c shows
        earlier (broken.TouchBirth c) goes shows = birth c shows
        earlier (broken.ReachBlue c) goes shows = first.1 c (less c cell 3 goes) shows
        earlier (broken.ReachBirth c) (inl goes) shows = absurd (omega (arith, goes))
        earlier (broken.ReachBirth c) (inr goes) shows = absurd (omega (arith, goes.0))
    go (Reborn cell) first = record { shows = first.1; first = λ other goes shows. earlier other goes shows }
      where
        earlier : (other : broken.Cause) → GoesBefore other (broken.ReachBirth cell) → ¬ Shows s m starts run other
        earlier broken.Wrong goes shows = wrong shows
        earlier (broken.TouchBlue c) goes shows = blue c shows
        earlier (broken.TouchBirth c) goes shows = birth c shows
        earlier (broken.ReachBlue c) goes shows = first.0 c shows
        earlier (broken.ReachBirth c) goes shows = first.2 c (less c cell 4 goes) shows

-- the cause that is told after a step, or none, is the first
pub cause_told : (s : Setup) (m : Machine) (starts : ℕ → m.State) (actor : Actor) (before : List Actor) (step : MadeStep) → IsStepOrNone s m starts (run_by s m starts before) actor (Some step) → IsStepCause s m starts (run_by s m starts (actor ∷ before)) step.broke
cause_told s m starts actor before step is = subst (λ run. IsStepCause s m starts run step.broke) (sym (run-more s m starts actor before (Some is.happening) is.next)) is.broke

-- a step that loses nothing breaks no run by what is gone
pub nothing_lost : (s : Setup) (m : Machine) (starts : ℕ → m.State) (actor : Actor) (before : List Actor) (step : MadeStep) → IsStepOrNone s m starts (run_by s m starts before) actor (Some step) → step.loss ≡ Nothing
    → ¬ IsBroken s m starts (run_by s m starts before) → IsFirstGone s m starts (run_by s m starts (actor ∷ before)) None
nothing_lost s m starts actor before step is loses unbroken =
    subst (λ run. IsFirstGone s m starts run None) (sym (run-more s m starts actor before (Some is.happening) is.next)) (is.loses loses (none_gone s m starts (run_by s m starts before) unbroken))

-- where an actor has no next step, the run stays as it is
pub none_made : (s : Setup) (m : Machine) (starts : ℕ → m.State) (actor : Actor) (before : List Actor) → IsStepOrNone s m starts (run_by s m starts before) actor None → ¬ IsBroken s m starts (run_by s m starts before)
    → ¬ IsBroken s m starts (run_by s m starts (actor ∷ before))
none_made s m starts actor before none unbroken = subst (λ run. ¬ IsBroken s m starts run) (sym (run-more s m starts actor before None none)) unbroken
