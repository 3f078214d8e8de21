-- Lists that grow by one element at the end, and elements of which none passes a test.
use Rattle.std.proofs.Common.{◌≡◌, ℕ, zero, suc, Bool, false, List, [], ◌∷◌, ◌++◌, length, slice_get, Some, subst}
use Rattle.std.specs.List.{list_any, AllByRecursion}
use Rattle.lemmas.specs.Bools.{or_neither}

-- what holds of each element, by its place, holds of one more list whose last element it holds of
pub one_more : {A : Type 0} (P : ℕ → A → Type 0) (xs : List A) (x : A) → ((n : ℕ) (y : A) → slice_get xs n ≡ Some y → P n y) → P (length xs) x
    → (n : ℕ) (y : A) → slice_get (xs ++ x ∷ []) n ≡ Some y → P n y
one_more P [] x each last zero y e = let same : x ≡ y = cc in subst (P 0) same last
one_more P [] x each last (suc n) y e = absurd cc
one_more P (z ∷ xs) x each last zero y e = each 0 y e
one_more P (z ∷ xs) x each last (suc n) y e = one_more (λ k. P (suc k)) xs x (λ k w h. each (suc k) w h) last n y e

-- no element passes
pub none_pass : {A : Type 0} (test : A → Bool) (xs : List A) → list_any test xs ≡ false → AllByRecursion (λ x. test x ≡ false) xs
none_pass test [] e = tt
none_pass test (x ∷ xs) e = let parts = or_neither (test x) (list_any test xs) e in (parts.0, none_pass test xs parts.1)

-- so does not the one at a place
pub none_passes_at : {A : Type 0} (test : A → Bool) (xs : List A) (n : ℕ) (x : A) → list_any test xs ≡ false → slice_get xs n ≡ Some x → test x ≡ false
none_passes_at test [] n x e at = absurd cc
none_passes_at test (y ∷ xs) zero x e at = let same : y ≡ x = cc in subst (λ z. test z ≡ false) same (or_neither (test y) (list_any test xs) e).0
none_passes_at test (y ∷ xs) (suc n) x e at = none_passes_at test xs n x (or_neither (test y) (list_any test xs) e).1 at
