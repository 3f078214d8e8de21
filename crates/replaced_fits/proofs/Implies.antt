-- Tests of which one holds where the other does.
use Rattle.std.proofs.Common.{◌≡◌, ℕ, suc, Bool, true, ◌&&◌, ◌||◌, List, [], ◌∷◌, slice_get, Some, refl, inl, inr}
use Rattle.std.specs.List.{list_all}
use Rattle.lemmas.specs.Bools.{and_parts, and_true, or_parts, or_first, or_second}

-- the second holds where the first does
abbrev pub Implies : Bool → Bool → Type 0
Implies a b = a ≡ true → b ≡ true

pub itself : (a : Bool) → Implies a a
itself a h = h

pub both_imply : (a b c d : Bool) → Implies a c → Implies b d → Implies (a && b) (c && d)
both_imply a b c d f g h = let p = and_parts a b h in and_true c d (f p.0) (g p.1)

pub either_implies : (a b c d : Bool) → Implies a c → Implies b d → Implies (a || b) (c || d)
either_implies a b c d f g h = elim (or_parts a b h) [ inl x ↦ or_first c d (f x) | inr y ↦ or_second c d (g y) ]

-- of all elements, by their places
pub each_implies : {A : Type 0} (p q : A → Bool) (xs : List A) → ((k : ℕ) (x : A) → slice_get xs k ≡ Some x → Implies (p x) (q x)) → Implies (list_all p xs) (list_all q xs)
each_implies p q [] f h = refl
each_implies p q (x ∷ xs) f h = let parts = and_parts (p x) (list_all p xs) h in and_true (q x) (list_all q xs) (f 0 x refl parts.0) (each_implies p q xs (λ k y e. f (suc k) y e) parts.1)
