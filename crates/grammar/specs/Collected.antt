-- Forms one after another whose values are kept: a recursion on a count of turns, beside a loop that counts up.
use Rattle.std.proofs.Common.{◌≡◌, ℕ, suc, Bool, true, false, List, [], ◌∷◌, ◌++◌, Ok, Err, refl}
use Rattle.grammar.specs.Outcome.{Parser}
use Rattle.grammar.specs.Many.{many_from}

module _ {S E A : Type 0} (stop : S → Bool) (item : Parser S E A) where
  pub list_ends : (n : ℕ) (found : List A) (i : S) → stop i ≡ true → many_from stop item (suc n) found i ≡ Ok (found, i)
  unfolding many_from
  list_ends n found i e = rw e refl

  pub list_goes : (n : ℕ) (found : List A) (i : S) (a : A) (m : S) → stop i ≡ false → item i ≡ Ok (a, m) → many_from stop item (suc n) found i ≡ many_from stop item n (found ++ a ∷ []) m
  unfolding many_from
  list_goes n found i a m e r = rw (e, r) refl

  pub list_breaks : (n : ℕ) (found : List A) (i : S) (e : E) → stop i ≡ false → item i ≡ Err e → many_from stop item (suc n) found i ≡ Err e
  unfolding many_from
  list_breaks n found i e not_stop r = rw (not_stop, r) refl

  pub no_list : (found : List A) (i : S) → many_from stop item 0 found i ≡ Ok (found, i)
  unfolding many_from
  no_list found i = refl
