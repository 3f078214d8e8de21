-- Structs are made from their last field on.
use Rattle.std.proofs.Common.{◌≡◌, ◌∙◌, ap, sym, refl, ℕ, ◌+◌, ◌-◌, ◌<◌, ◌≤◌, arith, List, [], ◌∷◌, ◌++◌, length, take, get_or, Ok, Err}
use Rattle.std.proofs.lemmas.List.{take_more}
use Rattle.grammar.specs.Outcome.{Outcome, Parser, and_then}
use Rattle.ir_forms.specs.declared.input.Input.{Input}
use Rattle.ir_forms.specs.declared.written.WrittenType.{WrittenType}
use Rattle.ir_forms.specs.Written.{before, field_before}

and_then_done : {S E A : Type 0} (r : Outcome S E A) → and_then r (λ a i. Ok (a, i)) ≡ r
and_then_done (Ok p) = refl
and_then_done (Err e) = refl

and_then_twice : {S E A B C : Type 0} (r : Outcome S E A) (f : A → Parser S E B) (g : B → Parser S E C)
    → and_then (and_then r f) g ≡ and_then r (λ a i. and_then (f a i) g)
and_then_twice (Ok p) f g = refl
and_then_twice (Err e) f g = refl

-- the last field comes first
before_last : (xs : List WrittenType) (p whole : WrittenType) (i : Input)
    → (before (xs ++ p ∷ []) whole).read i ≡ and_then ((field_before p whole).read i) (λ w. (before xs w).read)
unfolding before
before_last [] p whole i = sym (and_then_done ((field_before p whole).read i))
before_last (x ∷ xs) p whole i =
    ap (λ r. and_then r (λ w. (field_before x w).read)) (before_last xs p whole i)
    ∙ and_then_twice ((field_before p whole).read i) (λ w. (before xs w).read) (λ w. (field_before x w).read)

-- where `at` fields are left, the last of these comes first
pub next_field : (fields : List WrittenType) (at : ℕ) (d whole : WrittenType) (i : Input) → 0 < at → at ≤ length fields
    → (before (take at fields) whole).read i ≡ and_then ((field_before (get_or fields (at - 1) d) whole).read i) (λ w. (before (take (at - 1) fields) w).read)
next_field fields at d whole i some within =
    let e : at ≡ at - 1 + 1 = omega arith in
    ap (λ n. (before (take n fields) whole).read i) e ∙ ap (λ xs. (before xs whole).read i) (take_more fields (at - 1) d (omega arith))
    ∙ before_last (take (at - 1) fields) (get_or fields (at - 1) d) whole i

pub no_field : (fields : List WrittenType) (at : ℕ) (whole : WrittenType) (i : Input) → at ≡ 0 → (before (take at fields) whole).read i ≡ Ok (whole, i)
unfolding before
no_field fields at whole i e = rw e refl
