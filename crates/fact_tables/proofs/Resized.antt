-- Lists that are cut to a length, or filled up to it with one element.
use Rattle.std.proofs.Common.{◌≡◌, ◌⊎◌, inl, inr, ℕ, zero, suc, List, [], ◌∷◌, ◌++◌, length, get_or, refl, ap, ◌∙◌, arith}
use Rattle.std.specs.Prelude.{replicate, take, ◌-◌}
use Rattle.lemmas.specs.Lists.{IsIn, length_replicate}
use Rattle.fact_tables.specs.EachListed.{OnlyListed, each_listed, copied}
use Rattle.fact_tables.proofs.EachListed.{wiped_all}

module _ {X : Type 0} (d : X) where
  at_replicate : (n i : ℕ) → get_or (replicate n d) i d ≡ d
  at_replicate zero i = refl
  at_replicate (suc n) zero = refl
  at_replicate (suc n) (suc i) = at_replicate n i

  -- an element is what it was, or d
  at_resized : (n more : ℕ) (xs : List X) (i : ℕ) → (get_or (take n xs ++ replicate more d) i d ≡ get_or xs i d) ⊎ (get_or (take n xs ++ replicate more d) i d ≡ d)
  at_resized zero more [] i = inr (at_replicate more i)
  at_resized zero more (x ∷ xs) i = inr (at_replicate more i)
  at_resized (suc n) more [] i = inr (at_replicate more i)
  at_resized (suc n) more (x ∷ xs) zero = inl refl
  at_resized (suc n) more (x ∷ xs) (suc i) = at_resized n more xs i

  length_resized : (n more : ℕ) (xs : List X) → more ≡ n - length xs → length (take n xs ++ replicate more d) ≡ n
  length_resized zero more [] e = let none : more ≡ 0 = omega (arith, e) in length_replicate more d ∙ none
  length_resized zero more (x ∷ xs) e = let none : more ≡ 0 = omega (arith, e) in length_replicate more d ∙ none
  length_resized (suc n) more [] e = let all : more ≡ suc n = omega (arith, e) in length_replicate more d ∙ all
  length_resized (suc n) more (x ∷ xs) e = let rest : more ≡ n - length xs = omega (arith, e) in ap suc (length_resized n more xs rest)

  -- those that are not listed are d as before
  resized_listed : (listed : List ℕ) (n more : ℕ) (xs : List X) → OnlyListed d listed xs → OnlyListed d listed (take n xs ++ replicate more d)
  resized_listed listed n more xs only i = elim (only i) [
    | inl one ↦ inl one
    | inr e ↦ inr (elim (at_resized n more xs i) [ inl same ↦ same ∙ e | inr none ↦ none ])
  ]

  -- all are d once those that are listed are
  pub resized_wiped : (listed : List ℕ) (n : ℕ) (xs : List X) → OnlyListed d listed xs → each_listed d (copied d []) listed (take n xs ++ replicate (n - length xs) d) ≡ replicate n d
  resized_wiped listed n xs only = wiped_all d listed (take n xs ++ replicate (n - length xs) d) (resized_listed listed n (n - length xs) xs only) ∙ ap (λ k. replicate k d) (length_resized n (n - length xs) xs refl)
