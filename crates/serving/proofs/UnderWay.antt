-- A call under way, move by move.
use Rattle.std.proofs.Common.{◌≡◌, ℕ, suc, ◌≤◌, Bool, true, false, Some, List, ◌∷◌, length, if◌then◌else◌, inr, refl, sym, subst, arith}
use Rattle.pools.specs.Heap.{Setup}
use Rattle.colours.specs.Steps.{Step}
use Rattle.colours.specs.Mutator.{Phase, Ready, phase_of, phase_after, stage_of, MayFollow}
use Rattle.runs.specs.Machine.{WordValue, Action, Machine}
use Rattle.runs.specs.Moves.{Move, Works, ReadsOldValue, null, step_of, steps_of, state_after, ends_call, answer_of, old_of, AsksFor, IsAsked, IsShare}
use Rattle.runs.specs.RealThreads.{BringsNoBirth, HasNoBirths, IsRealShare}
use Rattle.runs.specs.Promises.{IsCareful}
use Rattle.heap_table.specs.Holders.{Holder, IsNow}
use Rattle.serving.specs.Serving.{Serves}

-- the share so far leads to this state, which asks for this action; this is the thread's state, after at least this number of moves
pub record Under (s : Setup) (m : Machine) (t : ℕ) (start : m.State) (state : m.State) (action : Action) (moves : ℕ) (log : List Step) (phase : Phase) (old : WordValue) : Type 0 where
  pub share : List Move
  pub asked : IsShare s m t start share
  pub no_births : HasNoBirths share
  pub steps : steps_of share ≡ log
  pub leads_to : state_after s m t start share ≡ state
  pub asks : m.action state ≡ action
  pub stands : phase_of s t log ≡ phase
  pub read : old_of share ≡ old
  pub long : moves ≤ length share

-- what was read for a write, by the last move alone
abbrev pub old_by : Move → WordValue
old_by (ReadsOldValue base word value) = value
old_by _ = null

old_alone : (move : Move) (share : List Move) → old_of (move ∷ share) ≡ old_by move
old_alone (ReadsOldValue base word value) share = refl
old_alone _ share = refl

-- the call is over
pub record Over (s : Setup) (m : Machine) (t : ℕ) (start : m.State) (next : m.State) (moves : ℕ) (log : List Step) : Type 0 where
  pub real : IsRealShare s m t start log next
  pub long : moves ≤ length real.share

module _ (s : Setup) (m : Machine) (t : ℕ) (start : m.State) (state : m.State) (action : Action) (moves : ℕ) (log : List Step) (phase : Phase) (old : WordValue) (u : Under s m t start state action moves log phase old)
    (move : Move) where
  asks_for : AsksFor s (m.roots state) old action phase move → AsksFor s (m.roots (state_after s m t start u.share)) (old_of u.share) (m.action (state_after s m t start u.share)) (phase_of s t (steps_of u.share)) move
  asks_for a = rw (u.leads_to, u.asks, u.steps, u.stands, u.read) a

  module _ (step : Step) (is : step_of move ≡ Some step) (follows : MayFollow s (stage_of log) phase step) (asks : AsksFor s (m.roots state) old action phase move) (no_birth : BringsNoBirth move)
      (after : Phase) (stands : phase_after s (stage_of log) phase step ≡ after) where
    is_asked : IsAsked s m t start u.share move
    is_asked = (rw (is, u.steps, u.stands) follows, inr (asks_for asks))

    steps_are : steps_of (move ∷ u.share) ≡ step ∷ log
    steps_are = rw (is, u.steps) refl

    stands_then : phase_of s t (step ∷ log) ≡ after
    stands_then = rw u.stands stands

    state_then : (b : Bool) → ends_call move after ≡ b → state_after s m t start (move ∷ u.share) ≡ (if b then m.after_answer state (answer_of action move) else state)
    state_then b e = rw (steps_are, stands_then, e, u.leads_to, u.asks) refl

    -- one move more
    pub further : ends_call move after ≡ false → Under s m t start state action moves (step ∷ log) after (old_by move)
    further e = record {
      share = move ∷ u.share;
      asked = (u.asked, is_asked);
      no_births = (u.no_births, no_birth);
      steps = steps_are;
      leads_to = state_then false e;
      asks = u.asks;
      stands = stands_then;
      read = old_alone move u.share;
      long = let l = u.long in omega arith;
    }

    -- the last move of the call
    pub last : ends_call move after ≡ true → Over s m t start (m.after_answer state (answer_of action move)) (suc moves) (step ∷ log)
    last e = record {
      real = record { share = move ∷ u.share; asked = (u.asked, is_asked); no_births = (u.no_births, no_birth); steps = steps_are; leads_to = state_then true e };
      long = let l = u.long in omega arith;
    }

-- a call that is one local move
pub works : (s : Setup) (m : Machine) (t : ℕ) (start : m.State) (state : m.State) (action : Action) (moves : ℕ) (log : List Step) (old : WordValue) (u : Under s m t start state action moves log Ready old)
    → AsksFor s (m.roots state) old action Ready Works → Over s m t start (m.after_answer state (answer_of action Works)) (suc moves) log
works s m t start state action moves log old u a = record {
  real = record {
    share = Works ∷ u.share;
    asked = (u.asked, (tt, inr (asks_for s m t start state action moves log Ready old u Works a)));
    no_births = (u.no_births, tt);
    steps = u.steps;
    leads_to = rw (u.steps, u.stands, u.leads_to, u.asks) refl;
  };
  long = let l = u.long in omega arith;
}

-- where a call begins
pub begins : (m : Machine) (start : m.State) (moves : ℕ) (t : Holder) (state : m.State) (v : Serves m start moves t state) (action : Action) → phase_of t.setup t.thread t.log ≡ Ready → m.action state ≡ action
    → Under t.setup m t.thread start state action moves t.log Ready (old_of v.real.share)
begins m start moves t state v action ready e = record {
  share = v.real.share;
  asked = v.real.asked;
  no_births = v.real.no_births;
  steps = v.real.steps;
  leads_to = v.real.leads_to;
  asks = e;
  stands = ready;
  read = refl;
  long = v.long;
}

-- and where it is over
pub ends : (m : Machine) (start : m.State) (moves : ℕ) (t after : Holder) (next : m.State) (many : ℕ) → IsCareful t.setup m t.thread start → moves ≤ many → (log : List Step) → IsNow t log after
    → Over t.setup m t.thread start next many log → Serves m start moves after next
ends m start moves t after next many careful enough log is over = subst (λ (x : Holder). Serves m start moves x next) (sym is) record {
  careful = careful;
  real = over.real;
  long = let l = over.long in omega arith;
}
