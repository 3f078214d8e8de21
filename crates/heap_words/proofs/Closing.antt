-- Tokens that come back.
use Rattle.std.proofs.Common.{◌≡◌, ℕ, ◌<◌, List, [], ◌∷◌, get_or, sym, subst, arith}
use mathlib.Core.Option.{some}
use lib.ListN.{get_elem?}
use Rattle.atomic_table.specs.Table.{State}
use Rattle.pools.specs.Heap.{Setup, cells}
use Rattle.colours.specs.Runs.{Event, word_after}
use Rattle.heap_rule.specs.View.{Actor, Share, View}
use Rattle.heap_rule.specs.Rule.{size, index, AreSharesIn, Ruled}
use Rattle.heap_rule.specs.Places.{stages_before}
use Rattle.heap_words.specs.Endings.{Closing, AreSharesOf, Ends}

-- the table is not empty
pub size_some : (s : Setup) → 0 < size s
size_some s = let k = stages_before s (cells s) in omega arith

-- the shares that a seat knows are shares of the run
shares_known : (run : List Event) (owner : Actor → ℕ) (seat : ℕ) (shares : List Share) → AreSharesIn run owner seat shares → AreSharesOf run shares
shares_known run owner seat [] h = tt
shares_known run owner seat (share ∷ shares) h = (h.0.1, shares_known run owner seat shares h.1)

-- the words of a table that meets the rule are those of a run
pub ending : (s : Setup) (table : State (Unit {0}) View) (seat : ℕ) (v : View) (shares : List Share) (c : Closing) → Ruled s table → get_elem? table.views seat ≡ some v → v.shares ≡ shares
    → c.setup ≡ s → table.words ≡ c.words → Ends s shares c
ending s table seat v shares c h at same setup words = record {
  run = h.run;
  is_run = h.is_run;
  words = λ p here. subst (λ (x : Setup). get_or c.words (index x p) 0 ≡ word_after s h.run p) (sym setup) (subst (λ (ws : List ℕ). get_or ws (index s p) 0 ≡ word_after s h.run p) words (h.words p here));
  shares_are = subst (AreSharesOf h.run) same (shares_known h.run h.owner seat v.shares (h.views seat v at).shares);
}
