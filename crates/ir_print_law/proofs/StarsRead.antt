-- Printed stars are read as pointer types.
use Rattle.std.proofs.Common.{◌≡◌, ℕ, zero, suc, ◌+◌, ◌-◌, ◌<◌, ◌≤◌, ◌^◌, Bool, true, false, if◌then◌else◌, List, [], ◌∷◌, ◌++◌, length, Option, Some, None, is_some, unwrap_or, refl, sym, subst, arith, length-append}
use Rattle.std.specs.Prelude.{nat_lt, is_none}
use Rattle.std.proofs.lemmas.Bool.Decides.{nat_tests}
use Rattle.std.proofs.lemmas.List.Quantifiers.{position-Some}
use Rattle.ir_tokens.specs.declared.token.Kind.TheVariants as k
use Rattle.ir_tokens.specs.Bytes.{Text, class_of}
use Rattle.ir_ast.specs.Types.{is_same_type, place_of_type, number_of_type}
use Rattle.ir_ast.specs.declared.ir_type.IrType.{IrType}
use Rattle.ir_ast.specs.declared.ir_type.IrType.TheVariants.{Pointer}
use Rattle.ir_forms.specs.Cursor.{sees}
use Rattle.ir_forms.specs.declared.input.Input.{Input}
use Rattle.ir_forms.specs.Input.{limit, advanced, skip}
use Rattle.ir_forms.specs.Written.{has_opaque, is_other_kind, pointers, star_or, intern, intern_pointer, interned_pointer, is_second_kind, place_in_table, with_type_interned}
use Rattle.grammar.specs.Grammar.{pure, refuse, ◌>>=◌, ◌>>◌}
use Rattle.ir_print_law.proofs.OneKind.{and_false, opaque_stays}
use Rattle.ir_print_law.specs.Stars.{stars, starred_number, StarsAreRead}
use Rattle.ir_print_law.specs.Stands.{Stands}
use Rattle.ir_print_law.proofs.Words.{sign_comes, seen}

pub type_place_within : (t : IrType) (types : List IrType) → number_of_type t types ≤ length types
type_place_within t types = by (place_of_type t types) refl where
  by : (place : Option ℕ) → place_of_type t types ≡ place → unwrap_or place (length types) ≤ length types
  by None e = omega arith
  by (Some place) e = let found = position-Some (is_same_type t) types place t e in let less = found.0 in omega (arith, less)

grown_by : (t : Bool) (types : List IrType) (x : IrType) → length (if t then types else types ++ x ∷ []) ≤ length types + 1
grown_by true types x = omega arith
grown_by false types x = let e = length-append types (x ∷ []) in omega (arith, e)

pub interned : (t : IrType) (i : Input) → length i.types < 2 ^ 32 → (intern t).says i (number_of_type t i.types) (with_type_interned t i)
unfolding intern
interned t i less =
    let within : number_of_type t i.types ≤ length i.types = type_place_within t i.types in
    let few : nat_lt (place_in_table t i) 4294967296 ≡ true = grind (arith, nat_tests) in
    (tt, i, (few, refl), (refl, refl))

-- a pointer type of the text's kind comes into the table
pub pointed : (from : ℕ) (t : IrType) (i : Input) → length i.types < 2 ^ 32 → is_other_kind t i.types ≡ false → (intern_pointer from t).says i (number_of_type t i.types) (with_type_interned t i)
unfolding intern_pointer is_second_kind
pointed from t i less same =
    subst (λ (b : Bool). (interned_pointer from t b).says i (number_of_type t i.types) (with_type_interned t i)) (sym same)
    (number_of_type t i.types, with_type_interned t i, interned t i less, (tt, with_type_interned t i, (refl, refl), (refl, refl)))

star_comes : (i : Input) (rest : Text) → Stands i.cursor (42 ∷ rest) → (sees k.Star i.cursor ≡ true) × Stands (advanced i).cursor rest
unfolding class_of
star_comes i rest at = let w = sign_comes i.cursor [] 42 rest k.Star refl refl refl at in (seen k.Star i w.0, w.3)

pub stars_are_read : StarsAreRead
unfolding pointers
stars_are_read from zero zero number i rest le few plain ends at =
    (i, subst (λ (t : Bool). (star_or {A = ℕ × ℕ} (refuse limit) (pure (0, number)) t).says i (0, number) i) (sym (ends i at)) (refl, refl), refl, at)
stars_are_read from zero (suc room) number i rest le few plain ends at =
    let same : suc room ≡ suc room - 0 = omega arith in
    let said : (pointers from (suc room) number).says i (suc room, number) i =
    subst (λ (t : Bool). (star_or {A = ℕ × ℕ} (skip >> intern_pointer from (Pointer number) >>= pointers from room) (pure (suc room, number)) t).says i (suc room, number) i) (sym (ends i at)) (refl, refl) in
    (i, subst (λ (n : ℕ). (pointers from (suc room) number).says i (n, number) i) same said, refl, at)
stars_are_read from (suc count) zero number i rest le few plain ends at = absurd (omega (arith, le))
stars_are_read from (suc count) (suc room) number i rest le few plain ends at =
    let star = star_comes i (stars count ++ rest) at in
    let m = with_type_interned (Pointer number) (advanced i) in
    let grown : length m.types ≤ length i.types + 1 = grown_by (is_some (place_of_type (Pointer number) i.types)) i.types (Pointer number) in
    let more = stars_are_read from count room (number_of_type (Pointer number) i.types) m rest (omega (arith, le)) (omega (arith, few, grown)) (opaque_stays (Pointer number) i.types refl plain) ends star.1 in
    let entry = pointed from (Pointer number) (advanced i) (omega (arith, few)) (and_false (has_opaque i.types) (is_none (place_of_type (Pointer number) i.types)) plain) in
    let same : suc room - suc count ≡ room - count = omega arith in
    let all : (skip >> intern_pointer from (Pointer number) >>= pointers from room).says i (room - count, starred_number (suc count) number i.types) more.0 =
    (number_of_type (Pointer number) i.types, m, (tt, advanced i, (refl, refl), entry), more.1) in
    let said = subst (λ (n : ℕ). (skip >> intern_pointer from (Pointer number) >>= pointers from room).says i (n, starred_number (suc count) number i.types) more.0) (sym same) all in (
      more.0,
      subst (λ (t : Bool). (star_or {A = ℕ × ℕ} (skip >> intern_pointer from (Pointer number) >>= pointers from room) (pure (suc room, number)) t).says i (suc room - suc count, starred_number (suc count) number i.types) more.0) (sym star.0) said,
      more.2,
      more.3,
    )
