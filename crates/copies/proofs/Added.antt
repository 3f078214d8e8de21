-- A name or a type whose number is the next one is new, and is added at the end.
use Rattle.std.proofs.Common.{◌≡◌, ℕ, ◌+◌, ◌<◌, Bool, List, [], ◌∷◌, ◌++◌, length, take, slice_get, is_some, unwrap_or, if◌then◌else◌, Option, Some, None, refl, ap, sym, ◌∙◌, arith, length-take-le}
use Rattle.std.specs.Prelude.{position}
use Rattle.std.specs.Str.{bytes_eq}
use Rattle.std.proofs.lemmas.List.{take_more}
use Rattle.std.proofs.lemmas.List.Quantifiers.{position-Some}
use Rattle.std.proofs.lemmas.Option.{unwrap_or-slice_get, get_or_from_slice_get}
use Rattle.ir_ast.specs.Names.{number_of, numbered, name_at}
use Rattle.ir_ast.specs.Types.{number_of_type, numbered_type, is_same_type}
use Rattle.ir_ast.specs.declared.ir_type.IrType.{IrType}

-- where the place is the end, there is none
no_place : {A : Type 0} (test : A → Bool) (xs : List A) (d : A) → unwrap_or (position test xs) (length xs) ≡ length xs → position test xs ≡ None
no_place test xs d e = by (position test xs) refl e
  where
    by : (place : Option ℕ) → position test xs ≡ place → unwrap_or place (length xs) ≡ length xs → place ≡ None
    by None is h = refl
    by (Some n) is h = let within : n < length xs = (position-Some test xs n d is).0 in absurd (omega (arith, within))

-- what is added where there is no place
added : {A : Type 0} (test : A → Bool) (xs : List A) (x : A) → unwrap_or (position test xs) (length xs) ≡ length xs → (if is_some (position test xs) then xs else xs ++ x ∷ []) ≡ xs ++ x ∷ []
added test xs x e = ap (λ place. if is_some place then xs else xs ++ x ∷ []) (no_place test xs x e)

-- a name with the next number
next_name : (names : List (List ℕ)) (n : ℕ) → n < length names → number_of (name_at names n) (take n names) ≡ n → numbered (name_at names n) (take n names) ≡ take (n + 1) names
next_name names n less e =
    added (bytes_eq (name_at names n)) (take n names) (name_at names n) (e ∙ sym (length-take-le n names (omega (arith, less))))
    ∙ ap (λ x. take n names ++ x ∷ []) (unwrap_or-slice_get names n []) ∙ sym (take_more names n [] less)

-- a type with the next number
next_type : (types : List IrType) (n : ℕ) (written : IrType) → n < length types → slice_get types n ≡ Some written → number_of_type written (take n types) ≡ n → numbered_type written (take n types) ≡ take (n + 1) types
next_type types n written less at e =
    added (is_same_type written) (take n types) written (e ∙ sym (length-take-le n types (omega (arith, less))))
    ∙ ap (λ x. take n types ++ x ∷ []) (sym (get_or_from_slice_get types n written written at)) ∙ sym (take_more types n written less)

-- the copy of the first names with one name more
pub one_name_more : (names copy after : List (List ℕ)) (text : List ℕ) (n number : ℕ) → n < length names → copy ≡ take n names → text ≡ name_at names n
    → number ≡ number_of text copy → number ≡ n → after ≡ numbered text copy → after ≡ take (n + 1) names
one_name_more names copy after text n number less so_far is at same more =
    more ∙ ap (λ x. numbered x copy) is ∙ ap (numbered (name_at names n)) so_far
    ∙ next_name names n less (ap (number_of (name_at names n)) (sym so_far) ∙ ap (λ x. number_of x copy) (sym is) ∙ sym at ∙ same)

-- the copy of the first types with one type more
pub one_type_more : (types copy after : List IrType) (written : IrType) (n number : ℕ) → n < length types → copy ≡ take n types → slice_get types n ≡ Some written
    → number ≡ number_of_type written copy → number ≡ n → after ≡ numbered_type written copy → after ≡ take (n + 1) types
one_type_more types copy after written n number less so_far is at same more =
    more ∙ ap (numbered_type written) so_far ∙ next_type types n written less is (ap (number_of_type written) (sym so_far) ∙ sym at ∙ same)
