-- What the first item of a range that stops a search tells of those before it.
use Rattle.std.proofs.Common.{◌≡◌, ◌≤◌, ◌<◌, ◌+◌, ℕ, zero, suc, Bool, true, false, List, [], ◌∷◌, Option, Some, None, arith, sym, ⊎_elim, subst}
use Rattle.std.proofs.lemmas.Bool.{cases_lt}
use Rattle.std.specs.List.{AllZip, slice_get, range_with_len}
use Rattle.rayon.specs.Lists.{filter_by_mask}

module _ {X : Type 0} (post : ℕ → X → Type 0) (p : X → Bool) where
  -- the numbers from k below m passed
  abbrev pub Passed : ℕ → ℕ → Type 0
  Passed k m = (d : ℕ) → k ≤ d → d < m → (x : X) × post d x × (p x ≡ false)

  -- what the result says
  abbrev pub Found : ℕ → ℕ → Option X → Type 0
  Found k m None = Passed k m
  Found k m (Some x) = (d : ℕ) × (k ≤ d) × (d < m) × post d x × (p x ≡ true) × Passed k d

  one_more : (k m : ℕ) (x : X) → post k x → p x ≡ false → Passed (k + 1) m → Passed k m
  one_more k m x is good rest d low high =
      ⊎_elim
      (λ lt. rest d (omega arith) high)
      (λ ge. let same : k ≡ d = omega arith in (x, subst (λ e. post e x) same is, good))
      (cases_lt k d)

  stays : (k m : ℕ) (x : X) → post k x → p x ≡ false → (r : Option X) → Found (k + 1) m r → Found k m r
  stays k m x is good None h = one_more k m x is good h
  stays k m x is good (Some y) h = (h.0, omega (arith, h.1), h.2, h.3, h.4, one_more k h.0 x is good h.5)

  pub first_is : (n k : ℕ) (xs : List X) (bs : List Bool) → AllZip post (range_with_len k n) xs → AllZip (λ x b. b ≡ p x) xs bs → Found k (k + n) (slice_get (filter_by_mask xs bs) 0)
  first_is zero k [] bs h a = λ d low high. absurd (omega arith)
  first_is zero k (x ∷ xs) bs h a = absurd h
  first_is (suc n) k [] bs h a = absurd h
  first_is (suc n) k (x ∷ xs) [] h a = absurd a
  first_is (suc n) k (x ∷ xs) (true ∷ bs) h a =
      (k, omega arith, omega arith, h.0, sym a.0, λ d low high. absurd (omega arith))
  first_is (suc n) k (x ∷ xs) (false ∷ bs) h a =
      let whole : k + 1 + n ≡ k + suc n = omega arith in
      let rest = subst (λ m. Found (k + 1) m (slice_get (filter_by_mask xs bs) 0)) whole (first_is n (k + 1) xs bs h.1 a.1) in
      stays k (k + suc n) x h.0 (sym a.0) _ rest
