-- Numbers, lists and places that a tour has.
use Rattle.std.proofs.Common.{◌≡◌, ◌≢◌, ◌⊎◌, inl, inr, ◌<◌, ℕ, zero, suc, Bool, true, false, min, List, [], ◌∷◌, ◌++◌, length, take, Option, Some, None, refl, sym, ap, ◌∙◌, arith}
use Rattle.std.proofs.lemmas.Bool.{cases_eq, cases_lt}
use Rattle.std.proofs.lemmas.Option.{slice_get_within}
use Rattle.std.specs.Prelude.{slice_get, slice_set}
use Rattle.lemmas.specs.Numbers.{some_same}
use Rattle.lemmas.specs.Lists.{get_front, get_end, get_either}
use Rattle.layout.specs.Tours.{least, is_placeless, is_new, Has, AreIncreasing, IsUpTo, new_count}

-- ---- lists

pub not_both : (b : Bool) → b ≡ true → b ≡ false → ⊥
not_both b e f = cc

pub has_front : (xs : List ℕ) (x p : ℕ) → Has xs p → Has (xs ++ x ∷ []) p
has_front xs x p w = (w.0, get_front xs (x ∷ []) w.0 p w.1)

pub has_last : (xs : List ℕ) (x : ℕ) → Has (xs ++ x ∷ []) x
has_last xs x = (length xs, get_end xs x)

pub has_either : (xs : List ℕ) (x p : ℕ) → Has (xs ++ x ∷ []) p → Has xs p ⊎ (p ≡ x)
has_either xs x p w = elim (get_either xs x w.0 p w.1) [ inl e ↦ inl (w.0, e) | inr e ↦ inr e.1 ]

pub none_in : (p : ℕ) → Has [] p → ⊥
none_in p w = cases w.0 w.1 where
  cases : (i : ℕ) → slice_get {X = ℕ} [] i ≡ Some p → ⊥
  cases i e = cc

pub has_more : (x : ℕ) (xs : List ℕ) (p : ℕ) → Has xs p → Has (x ∷ xs) p
has_more x xs p w = (suc w.0, w.1)

pub has_less : (x : ℕ) (xs : List ℕ) (p : ℕ) → p ≢ x → Has (x ∷ xs) p → Has xs p
has_less x xs p ne w = cases w.0 w.1 where
  cases : (i : ℕ) → slice_get (x ∷ xs) i ≡ Some p → Has xs p
  cases zero e = absurd (ne (sym (some_same x p e)))
  cases (suc i) e = (i, e)

pub has_or_not : (xs : List ℕ) (p : ℕ) → Has xs p ⊎ (Has xs p → ⊥)
has_or_not [] p = inr (none_in p)
has_or_not (x ∷ xs) p = elim (cases_eq p x) [
  | inl e ↦ inl (zero, ap Some (sym e))
  | inr ne ↦ elim (has_or_not xs p) [ inl w ↦ inl (has_more x xs p w) | inr none ↦ inr (λ w. none (has_less x xs p ne w)) ]
]

pub take_get : (xs : List ℕ) (n i p : ℕ) → slice_get (take n xs) i ≡ Some p → (i < n) × (slice_get xs i ≡ Some p)
take_get [] zero i p e = absurd (none_in p (i, e))
take_get [] (suc n) i p e = absurd (none_in p (i, e))
take_get (x ∷ xs) zero i p e = absurd (none_in p (i, e))
take_get (x ∷ xs) (suc n) zero p e = (omega arith, e)
take_get (x ∷ xs) (suc n) (suc i) p e = let h = take_get xs n i p e in let lt = h.0 in (omega (arith, lt), h.1)

pub get_take : (xs : List ℕ) (n i p : ℕ) → i < n → slice_get xs i ≡ Some p → slice_get (take n xs) i ≡ Some p
get_take [] n i p lt e = absurd (none_in p (i, e))
get_take (x ∷ xs) zero i p lt e = absurd (omega (arith, lt))
get_take (x ∷ xs) (suc n) zero p lt e = e
get_take (x ∷ xs) (suc n) (suc i) p lt e = get_take xs n i p (omega (arith, lt)) e

pub taken : (xs : List ℕ) (n p : ℕ) → Has (take n xs) p → Has xs p
taken xs n p w = (w.0, (take_get xs n w.0 p w.1).1)

pub increasing_with : (xs : List ℕ) (n : ℕ) → AreIncreasing xs → ((x : ℕ) → Has xs x → x < n) → AreIncreasing (xs ++ n ∷ [])
increasing_with xs n up below k l one other lt ek el = by (get_either xs n k one ek) (get_either xs n l other el) where
  by : (slice_get xs k ≡ Some one) ⊎ ((k ≡ length xs) × (one ≡ n)) → (slice_get xs l ≡ Some other) ⊎ ((l ≡ length xs) × (other ≡ n)) → one < other
  by (inl a) (inl b) = up k l one other lt a b
  by (inl a) (inr b) = let less = below one (k, a) in omega (arith, less, b.1)
  by (inr a) (inl b) = absurd (let inside = slice_get_within xs l other b in omega (arith, lt, inside, a.0))
  by (inr a) (inr b) = absurd (omega (arith, lt, a.0, b.0))

pub increasing_take : (xs : List ℕ) (n : ℕ) → AreIncreasing xs → AreIncreasing (take n xs)
increasing_take xs n up k l one other lt ek el = up k l one other lt (take_get xs n k one ek).1 (take_get xs n l other el).1

pub increasing_front : (xs : List ℕ) (x : ℕ) → AreIncreasing (xs ++ x ∷ []) → AreIncreasing xs
increasing_front xs x up k l one other lt ek el = up k l one other lt (get_front xs (x ∷ []) k one ek) (get_front xs (x ∷ []) l other el)

-- ---- places

pub one_less_new : (xs : List (Option ℕ)) (t place : ℕ) → slice_get xs t ≡ Some None → suc (new_count (slice_set xs t (Some place))) ≡ new_count xs
one_less_new [] t place e = absurd cc
one_less_new (None ∷ xs) zero place e = refl
one_less_new (Some k ∷ xs) zero place e = absurd cc
one_less_new (None ∷ xs) (suc t) place e = ap suc (one_less_new xs t place e)
one_less_new (Some k ∷ xs) (suc t) place e = one_less_new xs t place e

pub placeless_there : (o : Option (Option ℕ)) → is_placeless o ≡ true → o ≡ Some None
placeless_there None e = absurd cc
placeless_there (Some None) e = refl
placeless_there (Some (Some k)) e = absurd cc

-- a type that was not met has no place
pub new_there : (places : List (Option ℕ)) (t : ℕ) → is_new places t ≡ true → slice_get places t ≡ Some None
new_there places t e = placeless_there (slice_get places t) e

pub met_there : (o : Option (Option ℕ)) (i : ℕ) → o ≡ Some (Some i) → is_placeless o ≡ false
met_there None i e = absurd cc
met_there (Some None) i e = absurd cc
met_there (Some (Some k)) i e = refl

-- ---- the lesser of two numbers

pub not_there : (q : ℕ) → None ≡ Some q → ⊥
not_there q e = cc

pub min_either : (a b : ℕ) → (min a b ≡ a) ⊎ (min a b ≡ b)
min_either a b = elim (cases_lt a b) [ inl lt ↦ inl (omega (arith, lt)) | inr le ↦ inr (omega (arith, le)) ]

pub least_is : (one other : Option ℕ) (k : ℕ) → least one other ≡ Some k → (one ≡ Some k) ⊎ (other ≡ Some k)
least_is None other k e = inr e
least_is (Some a) None k e = inl e
least_is (Some a) (Some b) k e = elim (min_either a b) [ inl same ↦ inl (ap Some (sym same) ∙ e) | inr same ↦ inr (ap Some (sym same) ∙ e) ]

pub least_up_to : (one other : Option ℕ) (n : ℕ) → IsUpTo one n → IsUpTo (least one other) n
least_up_to None other n h = absurd (not_there h.least h.is)
least_up_to (Some a) None n h = h
least_up_to (Some a) (Some b) n h = let same : a ≡ h.least = some_same a h.least h.is in let le = h.up_to in record { least = min a b; is = refl; up_to = omega (arith, same, le) }

pub other_up_to : (one other : Option ℕ) (n : ℕ) → IsUpTo other n → IsUpTo (least one other) n
other_up_to None other n h = h
other_up_to (Some a) None n h = absurd (not_there h.least h.is)
other_up_to (Some a) (Some b) n h = let same : b ≡ h.least = some_same b h.least h.is in let le = h.up_to in record { least = min a b; is = refl; up_to = omega (arith, same, le) }

pub up_to_itself : (o : Option ℕ) (n : ℕ) → o ≡ Some n → IsUpTo o n
up_to_itself o n e = record { least = n; is = e; up_to = omega arith }
