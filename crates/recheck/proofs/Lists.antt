-- Lists in which one element is replaced.
use Rattle.std.proofs.Common.{◌≡◌, ◌≢◌, ◌<◌, ◌+◌, ◌==◌, ℕ, zero, suc, Bool, true, false, List, [], ◌∷◌, length, slice_get, Some, refl, ap, sym, subst, ◌∙◌, arith, eqb-true, eq-eqb}
use Rattle.std.specs.Prelude.{slice_set}
use Rattle.std.proofs.lemmas.Option.{slice_get-get_or, unwrap_or-slice_get}
use Rattle.ir_ast.specs.Names.{name_at}

-- where the old element is put back, the list is as it was
pub set_back : {A : Type 0} (xs : List A) (n : ℕ) (x y : A) → slice_get xs n ≡ Some x → slice_set (slice_set xs n y) n x ≡ xs
set_back [] n x y at = refl
set_back (z ∷ xs) zero x y at = let same : x ≡ z = cc in ap (λ a. a ∷ xs) same
set_back (z ∷ xs) (suc n) x y at = ap (λ l. z ∷ l) (set_back xs n x y at)

-- lists of one length with the same elements are one
pub same_each : {A : Type 0} (xs ys : List A) → length ys ≡ length xs → ((n : ℕ) → n < length xs → slice_get ys n ≡ slice_get xs n) → ys ≡ xs
same_each [] [] count each = refl
same_each [] (y ∷ ys) count each = absurd cc
same_each (x ∷ xs) [] count each = absurd cc
same_each (x ∷ xs) (y ∷ ys) count each =
    let first = each 0 (omega arith) in
    let head : y ≡ x = cc in
    let rest : length ys ≡ length xs = cc in
    ap (λ a. a ∷ ys) head ∙ ap (λ l. x ∷ l) (same_each xs ys rest (λ n less. each (suc n) (omega (arith, less))))

-- what holds below a number, and of it, holds below the next one
pub one_further : (P : ℕ → Type 0) (k : ℕ) → ((n : ℕ) → n < k → P n) → P k → (n : ℕ) → n < k + 1 → P n
one_further P k before here n less = by (n == k) refl
  where
    by : (b : Bool) → (n == k) ≡ b → P n
    by true e = subst P (sym (eqb-true n k e)) here
    by false e =
        let other : n ≢ k = λ h. let t = eq-eqb n k h in absurd cc in
        before n (omega (arith, less, other))

-- where names are the same, they are there in both lists
pub same_name : (xs ys : List (List ℕ)) (n : ℕ) → n < length xs → n < length ys → name_at xs n ≡ name_at ys n → slice_get ys n ≡ slice_get xs n
same_name xs ys n in_one in_other e =
    slice_get-get_or ys n [] in_other ∙ ap Some (sym (unwrap_or-slice_get ys n []) ∙ sym e ∙ unwrap_or-slice_get xs n []) ∙ sym (slice_get-get_or xs n [] in_one)
