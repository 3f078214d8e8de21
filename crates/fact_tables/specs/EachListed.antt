-- Changes of the elements of a list at places that are listed.
use Rattle.std.specs.Prelude.{◌≡◌, ◌⊎◌, ℕ, List, [], ◌∷◌, slice_index_or, slice_set}
use Rattle.lemmas.specs.Lists.{IsIn}

-- each element that is not listed is this one
abbrev pub OnlyListed : {X : Type 0} → (x : X) → (listed : List ℕ) → List X → Type 0
OnlyListed x listed xs = (i : ℕ) → IsIn i listed ⊎ (slice_index_or xs i x ≡ x)

-- a change of each element that is listed; after the last element x stands
abbrev pub each_listed : {X : Type 0} → (x : X) → (ℕ → X → X) → (listed : List ℕ) → List X → List X
each_listed x change [] xs = xs
each_listed x change (i ∷ listed) xs = each_listed x change listed (slice_set xs i (change i (slice_index_or xs i x)))

-- an element is as another list has it
abbrev pub copied : {X : Type 0} → (x : X) → (others : List X) → ℕ → X → X
copied x others i own = slice_index_or others i x
