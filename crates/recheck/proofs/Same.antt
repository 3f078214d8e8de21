-- What passes a test of equality is equal.
use Rattle.std.proofs.Common.{◌≡◌, Bool, true, List, [], ◌∷◌, Option, Some, None, refl, ap, ◌∙◌}
use Rattle.std.specs.Option.{option_eq}
use Rattle.std.specs.Cmp.Lexicographic.{pointwise}
use Rattle.lemmas.specs.Bools.{and_first, and_second}

pub same_list : {A : Type 0} (E : A → A → Bool) → ((a b : A) → E a b ≡ true → a ≡ b) → (xs ys : List A) → pointwise E xs ys ≡ true → xs ≡ ys
same_list E same [] [] h = refl
same_list E same [] (y ∷ ys) h = absurd cc
same_list E same (x ∷ xs) [] h = absurd cc
same_list {A = A} E same (x ∷ xs) (y ∷ ys) h = ap (λ (a : A). a ∷ xs) (same x y (and_first (E x y) _ h)) ∙ ap (λ (l : List A). y ∷ l) (same_list E same xs ys (and_second (E x y) _ h))

pub same_option : {A : Type 0} (E : A → A → Bool) → ((a b : A) → E a b ≡ true → a ≡ b) → (a b : Option A) → option_eq E a b ≡ true → a ≡ b
same_option E same None None e = refl
same_option E same None (Some b) e = absurd cc
same_option E same (Some a) None e = absurd cc
same_option E same (Some a) (Some b) e = ap Some (same a b e)
