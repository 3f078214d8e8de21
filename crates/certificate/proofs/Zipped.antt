-- Where one of two lists has ended, so have their pairs.
use Rattle.std.proofs.Common.{◌≡◌, ℕ, List, [], ◌∷◌, ◌++◌, ◌⊎◌, inl, inr}
use Rattle.std.specs.List.{flat_map, zip}
use Rattle.std.proofs.lemmas.List.{append-nil}

pub nothing_left : {A B : Type 0} (f : A × B → List ℕ) (xs : List A) (ys : List B) (out : List ℕ) → (xs ≡ []) ⊎ (ys ≡ []) → out ++ flat_map f (zip xs ys) ≡ out
nothing_left f [] ys out e = append-nil out
nothing_left f (x ∷ xs) [] out e = append-nil out
nothing_left f (x ∷ xs) (y ∷ ys) out (inl e) = absurd cc
nothing_left f (x ∷ xs) (y ∷ ys) out (inr e) = absurd cc
