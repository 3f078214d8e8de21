-- Lists: what is at a place, what is one of the elements, and what holds of all of them.
use Rattle.std.proofs.Common.{◌≡◌, ℕ, zero, suc, ◌+◌, ◌<◌, Bool, true, List, [], ◌∷◌, ◌++◌, ◌⊎◌, inl, inr, length, get_or, map, sum, slice_get, slice_set, take, Some, ◌≢◌, refl, sym, ap, subst, ◌∙◌, arith}
use Rattle.std.specs.Prelude.{replicate}
use Rattle.std.specs.List.{list_all, list_any}
use Rattle.std.proofs.lemmas.List.{take_more}
use Rattle.std.proofs.lemmas.Option.{slice_get_within, get_or_from_slice_get}
use Rattle.std.proofs.lemmas.List.Sums.{sum_by-cons}
use Rattle.lemmas.specs.Bools.{and_parts, and_true, or_first, or_second}

-- there is an element at each place before the end
pub get_some : {A : Type 0} (xs : List A) (i : ℕ) → i < length xs → (x : A) × (slice_get xs i ≡ Some x)
get_some [] i lt = absurd (omega arith)
get_some (x ∷ xs) zero lt = (x, refl)
get_some (x ∷ xs) (suc i) lt = get_some xs i (omega arith)

-- the element that a list was made longer by
pub get_end : {A : Type 0} (xs : List A) (x : A) → slice_get (xs ++ x ∷ []) (length xs) ≡ Some x
get_end [] x = refl
get_end (y ∷ xs) x = get_end xs x

-- what a list held is there when it has become longer
pub get_front : {A : Type 0} (xs more : List A) (i : ℕ) (x : A) → slice_get xs i ≡ Some x → slice_get (xs ++ more) i ≡ Some x
get_front [] more i x e = absurd cc
get_front (y ∷ xs) more zero x e = e
get_front (y ∷ xs) more (suc i) x e = get_front xs more i x e

-- what a list with one element more holds was there, or is that element
pub get_either : {A : Type 0} (xs : List A) (last : A) (i : ℕ) (x : A) → slice_get (xs ++ last ∷ []) i ≡ Some x → (slice_get xs i ≡ Some x) ⊎ ((i ≡ length xs) × (x ≡ last))
get_either [] last zero x e = inr (refl, cc)
get_either [] last (suc i) x e = absurd cc
get_either (y ∷ xs) last zero x e = inl e
get_either (y ∷ xs) last (suc i) x e = elim (get_either xs last i x e) [ inl h ↦ inl h | inr h ↦ inr (ap suc h.0, h.1) ]

-- the first elements are at their places
pub get_first : {A : Type 0} (xs : List A) (i n : ℕ) → i < n → slice_get (take n xs) i ≡ slice_get xs i
get_first xs i zero lt = absurd (omega (arith, lt))
get_first [] i (suc n) lt = refl
get_first (x ∷ xs) zero (suc n) lt = refl
get_first (x ∷ xs) (suc i) (suc n) lt = get_first xs i n (omega (arith, lt))

-- the first elements and the one at the place after them
pub first_more : {A : Type 0} (xs : List A) (i : ℕ) (x : A) → slice_get xs i ≡ Some x → take (i + 1) xs ≡ take i xs ++ x ∷ []
first_more xs i x at = take_more xs i x (slice_get_within xs i x at) ∙ ap (λ y. take i xs ++ y ∷ []) (get_or_from_slice_get xs i x x at)

-- what is written at a place is there
pub set_here : {A : Type 0} (xs : List A) (i : ℕ) (y : A) → i < length xs → slice_get (slice_set xs i y) i ≡ Some y
set_here [] i y lt = absurd (omega (arith, lt))
set_here (x ∷ xs) zero y lt = refl
set_here (x ∷ xs) (suc i) y lt = set_here xs i y (omega (arith, lt))

pub set_is : {A : Type 0} (xs : List A) (i : ℕ) (y x : A) → slice_get (slice_set xs i y) i ≡ Some x → y ≡ x
set_is [] i y x e = absurd cc
set_is (z ∷ xs) zero y x e = cc
set_is (z ∷ xs) (suc i) y x e = set_is xs i y x e

-- every other place holds what it held
pub set_other : {A : Type 0} (xs : List A) (i j : ℕ) (y : A) → j ≢ i → slice_get (slice_set xs i y) j ≡ slice_get xs j
set_other [] i j y ne = refl
set_other (x ∷ xs) zero zero y ne = absurd (ne refl)
set_other (x ∷ xs) zero (suc j) y ne = refl
set_other (x ∷ xs) (suc i) zero y ne = refl
set_other (x ∷ xs) (suc i) (suc j) y ne = set_other xs i j y (λ e. ne (ap suc e))

-- what a list holds after a write was there, or is what was written
pub set_either : {A : Type 0} (xs : List A) (i : ℕ) (y : A) (j : ℕ) (x : A) → slice_get (slice_set xs i y) j ≡ Some x → (slice_get xs j ≡ Some x) ⊎ ((j ≡ i) × (y ≡ x))
set_either [] i y j x e = inl e
set_either (z ∷ xs) zero y zero x e = inr (refl, cc)
set_either (z ∷ xs) zero y (suc j) x e = inl e
set_either (z ∷ xs) (suc i) y zero x e = inl e
set_either (z ∷ xs) (suc i) y (suc j) x e = elim (set_either xs i y j x e) [ inl h ↦ inl h | inr h ↦ inr (ap suc h.0, h.1) ]

pub at_map : {X : Type 0} (g : X → X) (xs : List X) (j : ℕ) (d : X) → g d ≡ d → get_or (map g xs) j d ≡ g (get_or xs j d)
at_map g [] j d e = sym e
at_map g (x ∷ xs) zero d e = refl
at_map g (x ∷ xs) (suc j) d e = at_map g xs j d e

pub length_replicate : {A : Type 0} (n : ℕ) (a : A) → length (replicate n a) ≡ n
length_replicate zero a = refl
length_replicate (suc n) a = ap suc (length_replicate n a)

-- it is one of the elements
abbrev pub IsIn : {A : Type 0} → A → List A → Type 0
IsIn x [] = ⊥
IsIn x (y ∷ ys) = (x ≡ y) ⊎ IsIn x ys

-- what is in one of two lists is in the joined list
pub in_first : {A : Type 0} (x : A) (first second : List A) → IsIn x first → IsIn x (first ++ second)
in_first x [] second is = absurd is
in_first x (y ∷ first) second (inl same) = inl same
in_first x (y ∷ first) second (inr later) = inr (in_first x first second later)

pub in_second : {A : Type 0} (x : A) (first second : List A) → IsIn x second → IsIn x (first ++ second)
in_second x [] second is = is
in_second x (y ∷ first) second is = inr (in_second x first second is)

-- and what is in the joined list is in one of the two
pub in_either : {A : Type 0} (x : A) (first second : List A) → IsIn x (first ++ second) → IsIn x first ⊎ IsIn x second
in_either x [] second is = inr is
in_either x (y ∷ first) second (inl same) = inl (inl same)
in_either x (y ∷ first) second (inr later) = elim (in_either x first second later) [ inl is ↦ inl (inr is) | inr is ↦ inr is ]

-- the last element is in the list, and what is in the list is the last element or one before it
pub last_in : {A : Type 0} (x : A) (xs : List A) → IsIn x (xs ++ x ∷ [])
last_in x xs = in_second x xs (x ∷ []) (inl refl)

pub in_longer : {A : Type 0} (x : A) (xs : List A) (last : A) → IsIn x (xs ++ last ∷ []) → IsIn x xs ⊎ (x ≡ last)
in_longer x xs last is = elim (in_either x xs (last ∷ []) is) [
  | inl before ↦ inl before
  | inr there ↦ elim there [
    | inl same ↦ inr same
    | inr none ↦ absurd none
  ]
]

-- what holds of all elements, and of one more
pub all_end : {A : Type 0} (test : A → Bool) (xs : List A) (x : A) → list_all test xs ≡ true → test x ≡ true → list_all test (xs ++ x ∷ []) ≡ true
all_end test [] x e h = rw h refl
all_end test (y ∷ xs) x e h = let p = and_parts (test y) (list_all test xs) e in and_true (test y) (list_all test (xs ++ x ∷ [])) p.0 (all_end test xs x p.1 h)

-- one element passes the test
pub any_at : {A : Type 0} (test : A → Bool) (xs : List A) (i : ℕ) (x : A) → slice_get xs i ≡ Some x → test x ≡ true → list_any test xs ≡ true
any_at test [] i x at h = absurd cc
any_at test (y ∷ xs) zero x at h = let same : y ≡ x = cc in or_first (test y) (list_any test xs) (subst (λ z. test z ≡ true) (sym same) h)
any_at test (y ∷ xs) (suc i) x at h = or_second (test y) (list_any test xs) (any_at test xs i x at h)

pub sum_cons : (c : ℕ) (cs : List ℕ) → sum (c ∷ cs) ≡ c + sum cs
sum_cons c cs = sum_by-cons (λ x. x) c cs
