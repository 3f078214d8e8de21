-- Functions changed at one place.
use Rattle.std.proofs.Common.{◌≡◌, ◌⊎◌, inl, inr, ℕ, ◌∙◌, cond, ◌==◌}
use Rattle.std.proofs.lemmas.Bool.{cases_eq, eq-eqb, ne_eqb, cond-true, cond-false}

-- the function with another value at one number
abbrev pub put : {A : Type 0} → (ℕ → A) → ℕ → A → ℕ → A
put f t a u = cond (u == t) a (f u)

-- at that number
pub put-here : {A : Type 0} (f : ℕ → A) (t : ℕ) (a : A) (u : ℕ) → u ≡ t → put f t a u ≡ a
put-here f t a u e = cond-true (u == t) a (f u) (eq-eqb u t e)

-- at any other
pub put-other : {A : Type 0} (f : ℕ → A) (t : ℕ) (a : A) (u : ℕ) → (u ≡ t → ⊥) → put f t a u ≡ f u
put-other f t a u n = cond-false (u == t) a (f u) (ne_eqb u t n)

-- the words with another value at one place
abbrev pub put_word : (ℕ → ℕ → ℕ) → (x i v : ℕ) → ℕ → ℕ → ℕ
put_word f x i v y j = cond (y == x) (cond (j == i) v (f y j)) (f y j)

-- a place is this one or not
pub here_or_not : (x i y j : ℕ) → ((y ≡ x) × (j ≡ i)) ⊎ ((y ≡ x) × (j ≡ i) → ⊥)
here_or_not x i y j = elim (cases_eq y x) [
  | inl e ↦ elim (cases_eq j i) [ inl f ↦ inl (e, f) | inr n ↦ inr (λ b. n b.1) ]
  | inr n ↦ inr (λ b. n b.0)
]

-- at that place
pub put_word-here : (f : ℕ → ℕ → ℕ) (x i v y j : ℕ) → (y ≡ x) × (j ≡ i) → put_word f x i v y j ≡ v
put_word-here f x i v y j e = cond-true (y == x) (cond (j == i) v (f y j)) (f y j) (eq-eqb y x e.0) ∙ cond-true (j == i) v (f y j) (eq-eqb j i e.1)

-- at any other
pub put_word-other : (f : ℕ → ℕ → ℕ) (x i v y j : ℕ) → ((y ≡ x) × (j ≡ i) → ⊥) → put_word f x i v y j ≡ f y j
put_word-other f x i v y j n = elim (cases_eq y x) [
  | inl e ↦ cond-true (y == x) (cond (j == i) v (f y j)) (f y j) (eq-eqb y x e) ∙ cond-false (j == i) v (f y j) (ne_eqb j i (λ g. n (e, g)))
  | inr m ↦ cond-false (y == x) (cond (j == i) v (f y j)) (f y j) (ne_eqb y x m)
]
