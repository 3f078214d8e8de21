-- What holds of all elements of a list.
use Rattle.std.proofs.Common.{◌≡◌, ℕ, zero, suc, List, [], ◌∷◌, ◌++◌, Some, inl, inr, slice_get, sym, subst}
use Rattle.std.specs.List.{AllByRecursion}
use Rattle.lemmas.specs.Lists.{IsIn}

module _ {A : Type 0} (P : A → Type 0) where
  -- it holds of an element, and of the one at a place
  pub all_in : (xs : List A) (y : A) → AllByRecursion P xs → IsIn y xs → P y
  all_in [] y h is = absurd is
  all_in (x ∷ xs) y h (inl e) = subst P (sym e) h.0
  all_in (x ∷ xs) y h (inr is) = all_in xs y h.1 is

  pub all_get : (xs : List A) (place : ℕ) (x : A) → AllByRecursion P xs → slice_get xs place ≡ Some x → P x
  all_get [] place x h at = absurd cc
  all_get (y ∷ xs) zero x h at = let same : y ≡ x = cc in subst P same h.0
  all_get (y ∷ xs) (suc place) x h at = all_get xs place x h.1 at

  -- two lists that are joined
  pub all_join : (xs ys : List A) → AllByRecursion P xs → AllByRecursion P ys → AllByRecursion P (xs ++ ys)
  all_join [] ys h g = g
  all_join (x ∷ xs) ys h g = (h.0, all_join xs ys h.1 g)

  pub all_first : (xs ys : List A) → AllByRecursion P (xs ++ ys) → AllByRecursion P xs
  all_first [] ys h = tt
  all_first (x ∷ xs) ys h = (h.0, all_first xs ys h.1)

  pub all_second : (xs ys : List A) → AllByRecursion P (xs ++ ys) → AllByRecursion P ys
  all_second [] ys h = h
  all_second (x ∷ xs) ys h = all_second xs ys h.1

-- what follows of each element
pub all_so : {A : Type 0} (P Q : A → Type 0) (xs : List A) → ((x : A) → P x → Q x) → AllByRecursion P xs → AllByRecursion Q xs
all_so P Q [] so h = tt
all_so P Q (x ∷ xs) so h = (so x h.0, all_so P Q xs so h.1)
