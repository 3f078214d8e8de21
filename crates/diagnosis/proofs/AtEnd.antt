-- The last element of a list.
use Rattle.std.proofs.Common.{◌≡◌, ℕ, zero, suc, List, [], ◌∷◌, ◌++◌, length, slice_get, Some, refl, arith}

pub at_end : {X : Type 0} (xs : List X) (n : ℕ) (x : X) → length xs ≡ n → slice_get (xs ++ x ∷ []) n ≡ Some x
at_end [] zero x e = refl
at_end [] (suc n) x e = absurd (omega (arith, e))
at_end (y ∷ ys) zero x e = absurd (omega (arith, e))
at_end (y ∷ ys) (suc n) x e = at_end ys n x (omega (arith, e))
