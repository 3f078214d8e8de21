-- Items of a list.
use Rattle.std.proofs.Common.{ℕ, zero, suc, ◌<◌, inl, inr, List, [], ◌∷◌, length, get_or, refl, sym, subst, arith}
use Rattle.lemmas.specs.Lists.{IsIn}

-- the item at a place is in the list
pub in_list : (xs : List ℕ) (i : ℕ) → i < length xs → IsIn (get_or xs i 0) xs
in_list [] i lt = absurd (omega (arith, lt))
in_list (y ∷ xs) zero lt = inl refl
in_list (y ∷ xs) (suc i) lt = inr (in_list xs i (omega (arith, lt)))

-- what holds of each item holds of what is in the list
pub each_in : (P : ℕ → Type 0) (xs : List ℕ) → ((i : ℕ) → i < length xs → P (get_or xs i 0)) → (x : ℕ) → IsIn x xs → P x
each_in P [] h x m = absurd m
each_in P (y ∷ xs) h x (inl e) = subst P (sym e) (h 0 (omega arith))
each_in P (y ∷ xs) h x (inr m) = each_in P xs (λ i lt. h (suc i) (omega arith)) x m
