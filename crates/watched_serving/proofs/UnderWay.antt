-- Where a call of a watched thread begins, and where it is over.
use Rattle.std.proofs.Common.{◌≡◌, ℕ, ◌≤◌, List, refl, sym, subst, arith}
use Rattle.colours.specs.Steps.{Step}
use Rattle.colours.specs.Mutator.{Ready, phase_of}
use Rattle.runs.specs.Machine.{Action, Machine}
use Rattle.runs.specs.Moves.{old_of}
use Rattle.heap_table.specs.Holders.{Holder, IsNow}
use Rattle.serving.proofs.UnderWay.{Under, Over}
use Rattle.watched_serving.specs.Serving.{Serves}

-- where a call begins
pub begins : (m : Machine) (start : m.State) (moves : ℕ) (t : Holder) (state : m.State) (v : Serves m start moves t state) (action : Action) → phase_of t.setup t.thread t.log ≡ Ready → m.action state ≡ action
    → Under t.setup m t.thread start state action moves t.log Ready (old_of v.real.share)
begins m start moves t state v action ready e = record {
  share = v.real.share;
  asked = v.real.asked;
  no_births = v.real.no_births;
  steps = v.real.steps;
  leads_to = v.real.leads_to;
  asks = e;
  stands = ready;
  read = refl;
  long = v.long;
}

-- and where it is over
pub ends : (m : Machine) (start : m.State) (moves : ℕ) (t after : Holder) (next : m.State) (many : ℕ) → moves ≤ many → (log : List Step) → IsNow t log after
    → Over t.setup m t.thread start next many log → Serves m start moves after next
ends m start moves t after next many enough log is over = subst (λ (x : Holder). Serves m start moves x next) (sym is) record {
  real = over.real;
  long = let l = over.long in omega arith;
}
