-- Lists: what is at a place of one that was mapped, what holds at each place, and one that was written over.
use Rattle.std.proofs.Common.{◌≡◌, ℕ, zero, suc, List, [], ◌∷◌, ◌++◌, length, map, Some, slice_get, refl, ap, arith}
use Rattle.std.specs.Prelude.{take, drop}
use Rattle.std.specs.List.{AllByRecursion}

-- what is at a place of a mapped list
pub get_mapped : {A B : Type 0} (f : A → B) (xs : List A) (t : ℕ) (y : B) → slice_get (map f xs) t ≡ Some y → (x : A) × (slice_get xs t ≡ Some x) × (f x ≡ y)
get_mapped f [] t y e = absurd cc
get_mapped f (x ∷ xs) zero y e = (x, refl, cc)
get_mapped f (x ∷ xs) (suc t) y e = get_mapped f xs t y e

-- what holds at each place holds of all
pub all_places : {A : Type 0} {P : A → Type 0} (xs : List A) → ((t : ℕ) (x : A) → slice_get xs t ≡ Some x → P x) → AllByRecursion P xs
all_places [] each = tt
all_places (x ∷ xs) each = (each zero x refl, all_places xs (λ t y e. each (suc t) y e))

-- a list of which each element was written again
pub written_over : {A : Type 0} (n : ℕ) (new old : List A) → length new ≡ length old → n ≡ length old → take n (new ++ drop (length new) old) ≡ new
written_over zero [] [] same many = refl
written_over (suc n) [] [] same many = refl
written_over n [] (y ∷ old) same many = absurd (omega (arith, same))
written_over n (x ∷ new) [] same many = absurd (omega (arith, same))
written_over zero (x ∷ new) (y ∷ old) same many = absurd (omega (arith, many))
written_over (suc n) (x ∷ new) (y ∷ old) same many = ap (λ rest. x ∷ rest) (written_over n new old (omega (arith, same)) (omega (arith, many)))
