-- The run of one actor more, and what a loss is after it.
use Rattle.std.proofs.Common.{◌≡◌, ℕ, Option, Some, None, List, ◌∷◌, ap, subst}
use Rattle.pools.specs.Heap.{Setup}
use Rattle.runs.specs.Machine.{Machine}
use Rattle.runs.specs.ModuleRuns.{Happening, IsModuleRun}
use Rattle.moves.specs.declared.actor.Actor.{Actor}
use Rattle.moves.specs.Runs.{next_by, with_next, run_by, AreActors}
use Rattle.moves.specs.Drawn.{drawn}
use Rattle.stepping.specs.Reach.{IsFirstGone, LosesNothing}

-- the run after one step more
pub run_more : (s : Setup) (m : Machine) (starts : ℕ → m.State) (before : List Actor) (actor : Actor) (happening : Happening) → next_by s m starts (run_by s m starts before) actor ≡ Some happening
    → run_by s m starts (actor ∷ before) ≡ happening ∷ run_by s m starts before
unfolding run_by
run_more s m starts before actor happening e = ap (λ (o : Option Happening). with_next o (run_by s m starts before)) e

-- and after none
pub run_same : (s : Setup) (m : Machine) (starts : ℕ → m.State) (before : List Actor) (actor : Actor) → next_by s m starts (run_by s m starts before) actor ≡ None
    → run_by s m starts (actor ∷ before) ≡ run_by s m starts before
unfolding run_by
run_same s m starts before actor e = ap (λ (o : Option Happening). with_next o (run_by s m starts before)) e

-- the law of losses, for these starts
abbrev pub KeepsAll : (s : Setup) (m : Machine) (starts : ℕ → m.State) → Type 0
KeepsAll s m starts = (run : List Happening) (happening : Happening) → IsModuleRun s m starts (happening ∷ run) → LosesNothing s m starts run happening
    → IsFirstGone s m starts run None → IsFirstGone s m starts (happening ∷ run) None

-- the longer run is a run
pub is_longer_run : (s : Setup) (m : Machine) (starts : ℕ → m.State) (before : List Actor) (actor : Actor) (happening : Happening) → AreActors s.threads (actor ∷ before)
    → next_by s m starts (run_by s m starts before) actor ≡ Some happening → IsModuleRun s m starts (happening ∷ run_by s m starts before)
is_longer_run s m starts before actor happening are e =
    subst (λ (run : List Happening). IsModuleRun s m starts run) (run_more s m starts before actor happening e) (drawn s m starts (actor ∷ before) are).is_run
