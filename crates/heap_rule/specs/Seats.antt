-- How the rule begins, and how seats are dealt out and come back.
use Rattle.std.proofs.Common.{◌≡◌, ◌≢◌, ◌⊎◌, ℕ, zero, suc, ◌+◌, ◌<◌, ◌≤◌, eqb, cond, List, [], ◌∷◌, ◌++◌, length, get_or, set, refl, sym, ap, subst, ◌∙◌, ⊎_elim, inl, inr, arith, ne_eqb, eq-eqb}
use Rattle.std.proofs.lemmas.Bool.{cond-true}
use Rattle.std.proofs.Math.ListN.{length-set}
use mathlib.Core.Option.{some, some-injective, some-ne-none}
use lib.ListN.{get_elem?}
use Rattle.atomic_table.specs.Table.{Splits, Joins, opening}
use Rattle.atomic_table.proofs.Lists.{at_set}
use Rattle.pools.specs.Heap.{Setup, IsSetup}
use Rattle.colours.specs.declared.place.Place.{Place}
use Rattle.colours.specs.Runs.{Event, log_of, word_after, word_at_start}
use Rattle.heap_rule.specs.View.{Actor, Thread, Collector, Share, View, actor_of, dealt, newcomer, joined, spent}
use Rattle.heap_rule.specs.Rule.{index, size, HasPlace, AreSharesIn, Knows, Ruled, dealing}

-- before the first step a word is as at the start
nothing_written : (s : Setup) (p : Place) → word_after s [] p ≡ word_at_start s p
unfolding word_after
nothing_written s p = refl

module _ {A : Type 0} where
  -- an element of a list with one more is one of the list, or that one
  at_end : (l : List A) (a b : A) (j : ℕ) → get_elem? (l ++ a ∷ []) j ≡ some b → (get_elem? l j ≡ some b) ⊎ ((j ≡ length l) × (a ≡ b))
  at_end [] a b zero e = inr (refl, some-injective a b e)
  at_end [] a b (suc j) e = absurd (some-ne-none b (sym e))
  at_end (x ∷ xs) a b zero e = inl e
  at_end (x ∷ xs) a b (suc j) e = ⊎_elim (λ t. inl t) (λ (t : (j ≡ length xs) × (a ≡ b)). inr (ap suc t.0, t.1)) (at_end xs a b j e)

-- the first seat has all actors, whose logs are empty
pub opens : (s : Setup) (words : List ℕ) → IsSetup s → length words ≡ size s → ((p : Place) → HasPlace s p → get_or words (index s p) 0 ≡ word_at_start s p) → Ruled s (opening words [] (dealing s 0))
opens s words ok sized are = record {
  run = [];
  owner = λ _. 0;
  is_run = record { setup = ok; run_of = tt; discipline = tt };
  sized = sized;
  words = λ p here. are p here ∙ sym (nothing_written s p);
  views = λ j v there. at_first j v there;
} where
  knows : Knows [] (λ _. 0) 0 (dealing s 0)
  knows = record { undealt = λ t low high. (refl, refl); shares = ((refl, refl), tt) }

  at_first : (j : ℕ) (v : View) → get_elem? (dealing s 0 ∷ []) j ≡ some v → Knows [] (λ _. 0) j v
  at_first zero v e = subst (Knows [] (λ _. 0) 0) (some-injective (dealing s 0) v e) knows
  at_first (suc j) v e = absurd (some-ne-none v (sym e))

-- shares stay, where their actors go to another seat
shares_moved : (run : List Event) (owner after : Actor → ℕ) (j i : ℕ) → ((a : Actor) → owner a ≡ j → after a ≡ i) → (xs : List Share) → AreSharesIn run owner j xs → AreSharesIn run after i xs
shares_moved run owner after j i move [] h = tt
shares_moved run owner after j i move (x ∷ xs) h = ((move (actor_of x) h.0.0, h.0.1), shares_moved run owner after j i move xs h.1)

-- two lists of shares of one seat
both_shares : (run : List Event) (owner : Actor → ℕ) (j : ℕ) (xs ys : List Share) → AreSharesIn run owner j xs → AreSharesIn run owner j ys → AreSharesIn run owner j (xs ++ ys)
both_shares run owner j [] ys h k = k
both_shares run owner j (x ∷ xs) ys h k = (h.0, both_shares run owner j xs ys h.1 k)

-- what a seat knows stays true where its actors stay with it
knows_moved : (run : List Event) (owner after : Actor → ℕ) (j : ℕ) (v : View) → ((a : Actor) → owner a ≡ j → after a ≡ j) → Knows run owner j v → Knows run after j v
knows_moved run owner after j v move k = record {
  undealt = λ t low high. let u = k.undealt t low high in (move (Thread t) u.0, u.1);
  shares = shares_moved run owner after j j move v.shares k.shares;
}

-- one thread goes from the seat to a new one
module _ (s : Setup) (id k : ℕ) (below : k < s.threads) where
  pub splits : Splits (Ruled s) id (dealing s k) (dealt (dealing s k)) (newcomer (dealing s k))
  splits table h at = record {
    run = h.run;
    owner = after;
    is_run = h.is_run;
    sized = h.sized;
    words = h.words;
    views = λ j v there. ⊎_elim
        (λ (old : get_elem? (set table.views id (dealing s (k + 1))) j ≡ some v). ⊎_elim
        (λ (t : (j ≡ id) × (dealing s (k + 1) ≡ v)). subst (λ (x : ℕ). Knows h.run after x v) (sym t.0) (subst (Knows h.run after id) t.1 left))
        (λ (t : (j ≢ id) × (get_elem? table.views j ≡ some v)). knows_moved h.run h.owner after j v (λ a o. after_else a (λ (e : a ≡ Thread k). t.0 (sym o ∙ (ap h.owner e ∙ mine.0))) ∙ o) (h.views j v t.1))
        (at_set table.views id j (dealing s (k + 1)) v old))
        (λ (new : (j ≡ length (set table.views id (dealing s (k + 1)))) × (newcomer (dealing s k) ≡ v)). subst (λ (x : ℕ). Knows h.run after x v) (sym (new.0 ∙ length-set table.views id (dealing s (k + 1)))) (subst (Knows h.run after (length table.views)) new.1 right))
        (at_end (set table.views id (dealing s (k + 1))) (newcomer (dealing s k)) v j there);
  } where
    after : Actor → ℕ
    after Collector = h.owner Collector
    after (Thread t) = cond (eqb t k) (length table.views) (h.owner (Thread t))

    before : Knows h.run h.owner id (dealing s k)
    before = h.views id (dealing s k) at

    mine : (h.owner (Thread k) ≡ id) × (log_of k h.run ≡ [])
    mine = before.undealt k (omega arith) below

    after_here : after (Thread k) ≡ length table.views
    after_here = cond-true (eqb k k) _ _ (eq-eqb k k refl)

    after_else : (a : Actor) → a ≢ Thread k → after a ≡ h.owner a
    after_else Collector n = refl
    after_else (Thread t) n = rw (ne_eqb t k (λ (e : t ≡ k). n (ap Thread e))) refl

    right : Knows h.run after (length table.views) (newcomer (dealing s k))
    right = record { undealt = λ t low high. absurd (omega arith); shares = ((after_here, mine.1), tt) }

    left : Knows h.run after id (dealing s (k + 1))
    left = record {
      undealt = λ t low high. let u = before.undealt t (omega arith) high in (after_else (Thread t) (λ (e : Thread t ≡ Thread k). let f : t ≡ k = cc in omega arith) ∙ u.0, u.1);
      shares = ((after_else Collector (λ (e : Collector ≡ Thread k). cc) ∙ before.shares.0.0, before.shares.0.1), tt);
    }

-- the seat `other`, which has nothing to deal out, goes into the seat id
pub joins : (s : Setup) (id : ℕ) (v : View) (other : ℕ) (w : View) → w.until ≤ w.next → Joins (Ruled s) id v other w (joined v w) spent
joins s id v other w bare table h at apart there = record {
  run = h.run;
  owner = after;
  is_run = h.is_run;
  sized = h.sized;
  words = h.words;
  views = λ j u found. ⊎_elim
      (λ (t : (j ≡ other) × (spent ≡ u)). subst (Knows h.run after j) t.1 nothing)
      (λ (t : (j ≢ other) × (get_elem? (set table.views id (joined v w)) j ≡ some u)). ⊎_elim
      (λ (q : (j ≡ id) × (joined v w ≡ u)). subst (λ (x : ℕ). Knows h.run after x u) (sym q.0) (subst (Knows h.run after id) q.1 both))
      (λ (q : (j ≢ id) × (get_elem? table.views j ≡ some u)). knows_moved h.run h.owner after j u (λ a o. after_else a (λ (e : h.owner a ≡ other). t.0 (sym o ∙ e)) ∙ o) (h.views j u q.1))
      (at_set table.views id j (joined v w) u t.1))
      (at_set (set table.views id (joined v w)) other j spent u found);
} where
  after : Actor → ℕ
  after a = cond (eqb (h.owner a) other) id (h.owner a)

  after_here : (a : Actor) → h.owner a ≡ other → after a ≡ id
  after_here a o = cond-true (eqb (h.owner a) other) _ _ (eq-eqb (h.owner a) other o)

  after_else : (a : Actor) → h.owner a ≢ other → after a ≡ h.owner a
  after_else a n = rw (ne_eqb (h.owner a) other n) refl

  stays : (a : Actor) → h.owner a ≡ id → after a ≡ id
  stays a o = after_else a (λ (e : h.owner a ≡ other). apart (sym e ∙ o)) ∙ o

  mine : Knows h.run h.owner id v
  mine = h.views id v at

  theirs : Knows h.run h.owner other w
  theirs = ⊎_elim (λ (t : (other ≡ id) × (joined v w ≡ w)). absurd (apart t.0)) (λ (t : (other ≢ id) × (get_elem? table.views other ≡ some w)). h.views other w t.1) (at_set table.views id other (joined v w) w there)

  nothing : {j : ℕ} → Knows h.run after j spent
  nothing = record { undealt = λ t low high. absurd (omega arith); shares = tt }

  both : Knows h.run after id (joined v w)
  both = record {
    undealt = λ t low high. let u = mine.undealt t low high in (stays (Thread t) u.0, u.1);
    shares = both_shares h.run after id w.shares v.shares (shares_moved h.run h.owner after other id after_here w.shares theirs.shares) (shares_moved h.run h.owner after id id stays v.shares mine.shares);
  }
