-- The shares of a run with one step more.
use Rattle.std.proofs.Common.{◌≡◌, ◌≢◌, ℕ, List, [], ◌∷◌, refl, sym, ap, subst, ◌∙◌, ne_eqb, eq-eqb}
use Rattle.colours.specs.Steps.{Step}
use Rattle.colours.specs.declared.turn.Turn.{Turn}
use Rattle.colours.specs.Runs.{Event, ByThread, ByCollector, log_of}
use Rattle.pools.specs.Heap.{Setup}
use Rattle.heap_rule.specs.View.{Actor, Thread, Share, OfThread, OfCollector, View, actor_of, grown}
use Rattle.heap_rule.specs.Rule.{IsShareIn, AreSharesIn, Knows, MayMake}

-- the log of a step's thread
pub own_log : (t : ℕ) (step : Step) (run : List Event) → log_of t (ByThread t step ∷ run) ≡ step ∷ log_of t run
own_log t step run = rw (eq-eqb t t refl) refl

-- the log of another thread
pub other_log : (t u : ℕ) (step : Step) (run : List Event) → u ≢ t → log_of t (ByThread u step ∷ run) ≡ log_of t run
other_log t u step run n = rw (ne_eqb u t n) refl

-- the share of a step's actor grows
pub grows : (s : Setup) (run : List Event) (share : Share) (event : Event) → MayMake s share event → IsShareIn run share → IsShareIn (event ∷ run) (grown event share)
grows s run (OfThread t log) (ByThread u step) m h = subst (λ (v : ℕ). log_of t (ByThread v step ∷ run) ≡ step ∷ log) (sym m.0) (own_log t step run ∙ ap (λ (l : List Step). step ∷ l) h)
grows s run (OfThread t log) (ByCollector turn) m h = absurd m
grows s run (OfCollector log) (ByThread u step) m h = absurd m
grows s run (OfCollector log) (ByCollector turn) m h = ap (λ (l : List Turn). turn ∷ l) h

-- and no other share does
pub stays : (s : Setup) (run : List Event) (share other : Share) (event : Event) → MayMake s share event → actor_of share ≢ actor_of other → IsShareIn run other → IsShareIn (event ∷ run) other
stays s run (OfThread t log) (OfThread u l) (ByThread v step) m n h = other_log u v step run (λ (e : v ≡ u). n (ap Thread (sym m.0 ∙ e))) ∙ h
stays s run (OfThread t log) (OfCollector l) (ByThread v step) m n h = h
stays s run (OfThread t log) other (ByCollector turn) m n h = absurd m
stays s run (OfCollector log) other (ByThread v step) m n h = absurd m
stays s run (OfCollector log) (OfThread u l) (ByCollector turn) m n h = h
stays s run (OfCollector log) (OfCollector l) (ByCollector turn) m n h = absurd (n refl)

-- a share that grows is its actor's still
pub same_actor : (event : Event) (share : Share) → actor_of (grown event share) ≡ actor_of share
same_actor (ByThread u step) (OfThread t log) = refl
same_actor (ByThread u step) (OfCollector log) = refl
same_actor (ByCollector turn) (OfThread t log) = refl
same_actor (ByCollector turn) (OfCollector log) = refl

module _ (s : Setup) (run : List Event) (owner : Actor → ℕ) (share : Share) (event : Event) (m : MayMake s share event) where
  -- the shares of another seat stay
  pub shares_stay : (j : ℕ) → j ≢ owner (actor_of share) → (shares : List Share) → AreSharesIn run owner j shares → AreSharesIn (event ∷ run) owner j shares
  shares_stay j n [] h = tt
  shares_stay j n (x ∷ xs) h = ((h.0.0, stays s run share x event m (λ (e : actor_of share ≡ actor_of x). n (sym h.0.0 ∙ sym (ap owner e))) h.0.1), shares_stay j n xs h.1)

  -- a thread that is not dealt out has still made no step
  pub undealt_stays : (j : ℕ) → j ≢ owner (actor_of share) → (t : ℕ) → (owner (Thread t) ≡ j) × (log_of t run ≡ []) → (owner (Thread t) ≡ j) × (log_of t (event ∷ run) ≡ [])
  undealt_stays j n t h = (h.0, stays s run share (OfThread t []) event m (λ (e : actor_of share ≡ Thread t). n (sym h.0 ∙ sym (ap owner e))) h.1)

  -- what another seat knows is true of the longer run
  pub knows_else : (j : ℕ) → j ≢ owner (actor_of share) → (v : View) → Knows run owner j v → Knows (event ∷ run) owner j v
  knows_else j n v k = record {
    undealt = λ t low high. undealt_stays j n t (k.undealt t low high);
    shares = shares_stay j n v.shares k.shares;
  }
