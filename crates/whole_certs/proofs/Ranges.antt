-- Tests of all numbers of a range, and of all elements of a list.
use Rattle.std.proofs.Common.{◌≡◌, ◌<◌, ◌≤◌, inl, inr, ℕ, zero, suc, ◌+◌, Bool, true, List, [], ◌∷◌, Some, slice_get, refl, subst, arith}
use Rattle.std.specs.List.{list_all, range_with_len}
use Rattle.std.proofs.lemmas.Bool.{cases_lt}
use Rattle.lemmas.specs.Bools.{and_first, and_second, and_true}

in_range_from : (p : ℕ → Bool) (a n i : ℕ) → list_all p (range_with_len a n) ≡ true → a ≤ i → i < a + n → p i ≡ true
in_range_from p a zero i all from less = absurd (omega (arith, from, less))
in_range_from p a (suc n) i all from less =
    elim (cases_lt a i) [
      | inl more ↦ in_range_from p (a + 1) n i (and_second (p a) (list_all p (range_with_len (a + 1) n)) all) (omega (arith, more)) (omega (arith, less))
      | inr most ↦ let same : a ≡ i = omega (arith, from, most) in subst (λ x. p x ≡ true) same (and_first (p a) (list_all p (range_with_len (a + 1) n)) all)
    ]

-- one of the numbers below `n`
pub in_range : (p : ℕ → Bool) (n i : ℕ) → list_all p (range_with_len 0 n) ≡ true → i < n → p i ≡ true
in_range p n i all less = in_range_from p 0 n i all (omega arith) (omega (arith, less))

-- all numbers
pub all_in_range : (p : ℕ → Bool) (a n : ℕ) → ((i : ℕ) → p i ≡ true) → list_all p (range_with_len a n) ≡ true
all_in_range p a zero each = refl
all_in_range p a (suc n) each = and_true (p a) (list_all p (range_with_len (a + 1) n)) (each a) (all_in_range p (a + 1) n each)

module _ {A : Type 0} (p : A → Bool) where
  -- one of the elements
  pub all_at : (xs : List A) (i : ℕ) (x : A) → list_all p xs ≡ true → slice_get xs i ≡ Some x → p x ≡ true
  all_at [] i x all at = absurd cc
  all_at (y ∷ xs) zero x all at = let same : y ≡ x = cc in subst (λ z. p z ≡ true) same (and_first (p y) (list_all p xs) all)
  all_at (y ∷ xs) (suc i) x all at = all_at xs i x (and_second (p y) (list_all p xs) all) at

  -- all elements
  pub all_if : (xs : List A) → ((i : ℕ) (x : A) → slice_get xs i ≡ Some x → p x ≡ true) → list_all p xs ≡ true
  all_if [] each = refl
  all_if (y ∷ xs) each = and_true (p y) (list_all p xs) (each 0 y refl) (all_if xs (λ i. each (suc i)))
