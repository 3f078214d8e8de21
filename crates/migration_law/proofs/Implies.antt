-- Tests of which one holds where the other does.
use Rattle.std.proofs.Common.{◌≡◌, Bool, true, ◌&&◌, ◌||◌, List, [], ◌∷◌, map, refl, inl, inr}
use Rattle.std.specs.List.{list_all, list_any}
use Rattle.lemmas.specs.Bools.{and_parts, and_true, or_parts, or_first, or_second}

-- the second holds where the first does
abbrev pub Implies : Bool → Bool → Type 0
Implies a b = a ≡ true → b ≡ true

pub itself : (a : Bool) → Implies a a
itself a h = h

pub both_imply : (a b c d : Bool) → Implies a c → Implies b d → Implies (a && b) (c && d)
both_imply a b c d f g h = let p = and_parts a b h in and_true c d (f p.0) (g p.1)

pub either_implies : (a b c d : Bool) → Implies a c → Implies b d → Implies (a || b) (c || d)
either_implies a b c d f g h = elim (or_parts a b h) [ inl x ↦ or_first c d (f x) | inr y ↦ or_second c d (g y) ]

-- of all elements
pub all_imply : {A : Type 0} (p q : A → Bool) (xs : List A) → ((x : A) → Implies (p x) (q x)) → Implies (list_all p xs) (list_all q xs)
all_imply p q [] f h = refl
all_imply p q (x ∷ xs) f h = let parts = and_parts (p x) (list_all p xs) h in and_true (q x) (list_all q xs) (f x parts.0) (all_imply p q xs f parts.1)

-- of some element of a list, and of the list of others for each
pub some_implies : {A B : Type 0} (g : A → B) (p : A → Bool) (q : B → Bool) (xs : List A) → ((x : A) → Implies (p x) (q (g x))) → Implies (list_any p xs) (list_any q (map g xs))
some_implies g p q [] f h = h
some_implies g p q (x ∷ xs) f h = either_implies (p x) (list_any p xs) (q (g x)) (list_any q (map g xs)) (f x) (some_implies g p q xs f) h
