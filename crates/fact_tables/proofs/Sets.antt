-- What is at a place of a list after a write, and small facts on tests.
use Rattle.std.proofs.Common.{◌≡◌, ℕ, zero, suc, List, [], ◌∷◌, get_or, refl, true, false, Bool, slice_set}
use Rattle.std.specs.Prelude.{◌||◌}
use Rattle.std.specs.List.{list_any}
use Rattle.lemmas.specs.Bools.{or_second, or_first}

-- the place is empty where it was emptied
pub set_empty : {X : Type 0} (xs : List X) (i : ℕ) (d : X) → get_or (slice_set xs i d) i d ≡ d
set_empty [] i d = refl
set_empty (x ∷ xs) zero d = refl
set_empty (x ∷ xs) (suc i) d = set_empty xs i d

-- what passes at a place passes somewhere
pub found : {X : Type 0} (p : X → Bool) (xs : List X) (i : ℕ) (d : X) → p d ≡ false → p (get_or xs i d) ≡ true → list_any p xs ≡ true
found p [] i d fails e = absurd cc
found p (x ∷ xs) zero d fails e = or_first (p x) (list_any p xs) e
found p (x ∷ xs) (suc i) d fails e = or_second (p x) (list_any p xs) (found p xs i d fails e)

-- a part of an element that is written as it was is as it was everywhere
pub set_part : {X Y : Type 0} (q : X → Y) (xs : List X) (i j : ℕ) (a d : X) → q a ≡ q (get_or xs i d) → q (get_or (slice_set xs i a) j d) ≡ q (get_or xs j d)
set_part q [] i j a d e = refl
set_part q (x ∷ xs) zero zero a d e = e
set_part q (x ∷ xs) zero (suc j) a d e = refl
set_part q (x ∷ xs) (suc i) zero a d e = refl
set_part q (x ∷ xs) (suc i) (suc j) a d e = set_part q xs i j a d e

-- what is written is so where it is written
pub set_is : {X Y : Type 0} (q : X → Y) (xs : List X) (i : ℕ) (a d : X) (y : Y) → q a ≡ y → q d ≡ y → q (get_or (slice_set xs i a) i d) ≡ y
set_is q [] i a d y e none = none
set_is q (x ∷ xs) zero a d y e none = e
set_is q (x ∷ xs) (suc i) a d y e none = set_is q xs i a d y e none

pub or_true : (a : Bool) → (a || true) ≡ true
or_true true = refl
or_true false = refl
