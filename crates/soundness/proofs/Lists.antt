-- What is at a place of a list after a write, and small facts on tests.
use Rattle.std.proofs.Common.{◌≡◌, ◌≢◌, ℕ, zero, suc, ◌+◌, ◌<◌, ◌≤◌, List, [], ◌∷◌, ◌++◌, length, get_or, refl, sym, ap, subst, arith, true, false, Bool, unwrap_or, slice_get, slice_set}
use Rattle.std.specs.Prelude.{◌==◌, replicate}
use Rattle.std.specs.List.{list_all, zip, range_with_len}
use Rattle.lemmas.specs.Numbers.{test_true, test_yes}
use Rattle.lemmas.specs.Bools.{and_parts}
use Rattle.fact_tables.specs.Covers.{implied}

pub turned : (x y : ℕ) → (x == y) ≡ true → (y == x) ≡ true
turned x y e = test_yes y x (sym (test_true x y e))

-- the element of a list at a place, by `slice_get`
abbrev pub got : {X : Type 0} → X → List X → ℕ → X
got d xs j = unwrap_or (slice_get xs j) d

-- two lists, written at one place
pub at_set2 : {X Y : Type 0} (P : X → Y → Type 0) (xs : List X) (ys : List Y) (i j : ℕ) (a d : X) (b e : Y) → length xs ≡ length ys → (i ≡ j → P a b) → (i ≢ j → P (get_or xs j d) (got e ys j)) → P d e
    → P (get_or (slice_set xs i a) j d) (got e (slice_set ys i b) j)
at_set2 P [] [] i j a d b e len here other none = none
at_set2 P [] (y ∷ ys) i j a d b e len here other none = absurd (omega arith)
at_set2 P (x ∷ xs) [] i j a d b e len here other none = absurd (omega arith)
at_set2 P (x ∷ xs) (y ∷ ys) zero zero a d b e len here other none = here refl
at_set2 P (x ∷ xs) (y ∷ ys) zero (suc j) a d b e len here other none = other (λ e. absurd (omega arith))
at_set2 P (x ∷ xs) (y ∷ ys) (suc i) zero a d b e len here other none = other (λ e. absurd (omega arith))
at_set2 P (x ∷ xs) (y ∷ ys) (suc i) (suc j) a d b e len here other none = at_set2 P xs ys i j a d b e (omega arith) (λ e. here (ap suc e)) (λ ne. other (λ e. ne (omega arith))) none

-- one list, written at a place
pub at_set : {X : Type 0} (P : X → Type 0) (xs : List X) (i j : ℕ) (a d : X) → (i ≡ j → i < length xs → P a) → (i ≢ j → P (get_or xs j d)) → P d → P (get_or (slice_set xs i a) j d)
at_set P [] i j a d here other none = none
at_set P (x ∷ xs) zero zero a d here other none = here refl (omega arith)
at_set P (x ∷ xs) zero (suc j) a d here other none = other (λ e. absurd (omega arith))
at_set P (x ∷ xs) (suc i) zero a d here other none = other (λ e. absurd (omega arith))
at_set P (x ∷ xs) (suc i) (suc j) a d here other none = at_set P xs i j a d (λ e lt. here (ap suc e) (omega arith)) (λ ne. other (λ e. ne (omega arith))) none

-- and looked at within the list
pub at_set_in : {X : Type 0} (P : X → Type 0) (xs : List X) (i j : ℕ) (a d : X) → j < length xs → (i ≡ j → P a) → (i ≢ j → P (get_or xs j d)) → P (get_or (slice_set xs i a) j d)
at_set_in P [] i j a d lt here other = absurd (omega arith)
at_set_in P (x ∷ xs) zero zero a d lt here other = here refl
at_set_in P (x ∷ xs) zero (suc j) a d lt here other = other (λ e. absurd (omega arith))
at_set_in P (x ∷ xs) (suc i) zero a d lt here other = other (λ e. absurd (omega arith))
at_set_in P (x ∷ xs) (suc i) (suc j) a d lt here other = at_set_in P xs i j a d (omega arith) (λ e. here (ap suc e)) (λ ne. other (λ e. ne (omega arith)))

-- what held before a write, and holds of what is written
pub at_set_got : {X : Type 0} (P : X → Type 0) (xs : List X) (i j : ℕ) (a d : X) → (i ≡ j → P a) → P (got d xs j) → P (got d (slice_set xs i a) j)
at_set_got P [] i j a d here same = same
at_set_got P (x ∷ xs) zero zero a d here same = here refl
at_set_got P (x ∷ xs) zero (suc j) a d here same = same
at_set_got P (x ∷ xs) (suc i) zero a d here same = same
at_set_got P (x ∷ xs) (suc i) (suc j) a d here same = at_set_got P xs i j a d (λ e. here (ap suc e)) same

-- a write within the list is found
pub got_set : {X : Type 0} (xs : List X) (i : ℕ) (a d : X) → i < length xs → got d (slice_set xs i a) i ≡ a
got_set [] i a d lt = absurd (omega arith)
got_set (x ∷ xs) zero a d lt = refl
got_set (x ∷ xs) (suc i) a d lt = got_set xs i a d (omega arith)

-- one element more at the end
pub at_old : {X : Type 0} (xs : List X) (y : X) (j : ℕ) (d : X) → j < length xs → get_or (xs ++ y ∷ []) j d ≡ get_or xs j d
at_old [] y j d lt = absurd (omega arith)
at_old (x ∷ xs) y zero d lt = refl
at_old (x ∷ xs) y (suc j) d lt = at_old xs y j d (omega arith)

pub at_end : {X : Type 0} (xs : List X) (y d : X) → get_or (xs ++ y ∷ []) (length xs) d ≡ y
at_end [] y d = refl
at_end (x ∷ xs) y d = at_end xs y d

pub longer : {X : Type 0} (xs : List X) (y : X) → length (xs ++ y ∷ []) ≡ suc (length xs)
longer [] y = refl
longer (x ∷ xs) y = ap suc (longer xs y)

-- a place is this one, or another
pub by_equal : {A : Type 0} (x y : ℕ) → (x ≡ y → A) → (x ≢ y → A) → A
by_equal {A} x y same other = pick (x == y) refl where
  pick : (b : Bool) → (x == y) ≡ b → A
  pick true e = same (test_true x y e)
  pick false e = other (λ z. let t = test_yes x y z in absurd cc)

-- another place than the one written
pub at_other : {X : Type 0} (xs : List X) (i j : ℕ) (a d : X) → i ≢ j → get_or (slice_set xs i a) j d ≡ get_or xs j d
at_other [] i j a d ne = refl
at_other (x ∷ xs) zero zero a d ne = absurd (ne refl)
at_other (x ∷ xs) zero (suc j) a d ne = refl
at_other (x ∷ xs) (suc i) zero a d ne = refl
at_other (x ∷ xs) (suc i) (suc j) a d ne = at_other xs i j a d (λ e. ne (ap suc e))

pub at_same : {X : Type 0} (xs : List X) (i : ℕ) (a d : X) → i < length xs → get_or (slice_set xs i a) i d ≡ a
at_same [] i a d lt = absurd (omega arith)
at_same (x ∷ xs) zero a d lt = refl
at_same (x ∷ xs) (suc i) a d lt = at_same xs i a d (omega arith)

pub replicated : {X : Type 0} (n i : ℕ) (x : X) → get_or (replicate n x) i x ≡ x
replicated zero i x = refl
replicated (suc n) zero x = refl
replicated (suc n) (suc i) x = replicated n i x

-- a test of each pair of two lists holds of the pair at a place
pub all_zip : {X Y : Type 0} (g : X × Y → Bool) (xs : List X) (ys : List Y) (j : ℕ) (d : X) (e : Y) → j < length xs → j < length ys → list_all g (zip xs ys) ≡ true → g (get_or xs j d, get_or ys j e) ≡ true
all_zip g [] ys j d e lx ly all = absurd (omega arith)
all_zip g (x ∷ xs) [] j d e lx ly all = absurd (omega arith)
all_zip g (x ∷ xs) (y ∷ ys) zero d e lx ly all = (and_parts (g (x, y)) (list_all g (zip xs ys)) all).0
all_zip g (x ∷ xs) (y ∷ ys) (suc j) d e lx ly all = all_zip g xs ys j d e (omega arith) (omega arith) (and_parts (g (x, y)) (list_all g (zip xs ys)) all).1

-- where it is asked, it holds
pub as_implied : (asked holds : Bool) → implied asked holds ≡ true → asked ≡ true → holds ≡ true
as_implied asked true e z = refl
as_implied true false e z = absurd cc
as_implied false false e z = absurd cc

pub not_both : {A : Type 0} (b : Bool) → b ≡ true → b ≡ false → A
not_both true e z = absurd cc
not_both false e z = absurd cc

-- a place with more than the default is within the list
pub within_list : {X : Type 0} (xs : List X) (j : ℕ) (d : X) → (get_or xs j d ≡ d → ⊥) → j < length xs
within_list [] j d ne = absurd (ne refl)
within_list (x ∷ xs) zero d ne = omega arith
within_list (x ∷ xs) (suc j) d ne = let r = within_list xs j d ne in omega arith

-- a test of each number of a range holds of one in it
pub each_from : (test : ℕ → Bool) (first count w : ℕ) → first ≤ w → w < first + count → list_all test (range_with_len first count) ≡ true → test w ≡ true
each_from test first zero w le lt e = absurd (omega arith)
each_from test first (suc count) w le lt e = by_equal first w
    (λ z. subst (λ y. test y ≡ true) z (and_parts (test first) (list_all test (range_with_len (first + 1) count)) e).0)
    (λ ne. each_from test (first + 1) count w (omega (arith, le, ne)) (omega arith) (and_parts (test first) (list_all test (range_with_len (first + 1) count)) e).1)

pub each_below : (test : ℕ → Bool) (count w : ℕ) → w < count → list_all test (range_with_len 0 count) ≡ true → test w ≡ true
each_below test count w lt e = each_from test 0 count w (omega arith) (omega arith) e
