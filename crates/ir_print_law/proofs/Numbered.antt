-- Values without a name are read by their numbers.
use Rattle.std.proofs.Common.{◌≡◌, ℕ, ◌<◌, ◌^◌, Bool, true, not, if◌then◌else◌, Some, None, refl, ap, ◌∙◌, arith}
use Rattle.std.specs.Prelude.{◌==◌, nat_lt, slice_get}
use Rattle.std.specs.Fmt as text
use Rattle.std.proofs.lemmas.Bool.Decides.{nat_tests}
use Rattle.ir_print_law.proofs.NewLabels.{number_key}
use Rattle.ir_tokens.specs.Bytes.{Text}
use Rattle.ir_ast.specs.Names.{number_of}
use Rattle.ir_ast.specs.declared.function.LocalSort.TheVariants.{Unknown}
use Rattle.ir_forms.specs.Cursor.{spelled, local_key}
use Rattle.ir_forms.specs.Number as numbers
use Rattle.ir_forms.specs.Table.{mentioned}
use Rattle.ir_forms.specs.declared.input.Input.{Input}
use Rattle.ir_forms.specs.Names.{local_number, is_known_local, is_local, is_at, is_written_next, next_number, take_number, new_value, numbered_value, with_number_taken}
use Rattle.ir_print_law.specs.Readings.{NumberedValuesAreRead}
use Rattle.name_text.specs.Spelled.{number_is}
use Rattle.ir_print_law.proofs.Constants.{are_digits}
use Rattle.name_text.specs.Reading.{digits_spelled}
use Rattle.ir_print_law.proofs.Words.{local_number_comes}

-- ---- the next number

number_next : (i : Input) → spelled i.cursor ≡ text.decimal i.unnamed → i.unnamed < 4294967295 → next_number.says i tt (with_number_taken i)
unfolding next_number take_number
number_next i e less =
    let wide : i.unnamed < 2 ^ 64 = omega (arith, less) in
    let small : nat_lt i.unnamed 18446744073709551616 ≡ true = grind (arith, nat_tests) in
    let itself : i.unnamed == i.unnamed ≡ true = grind (arith, nat_tests) in
    let further : nat_lt i.unnamed 4294967295 ≡ true = grind (arith, nat_tests) in
    let value : numbers.decimal (spelled i.cursor) ≡ i.unnamed = ap numbers.decimal e ∙ number_is i.unnamed wide in
    let written : is_written_next i ≡ true =
    ap (λ (n : ℕ). is_at i.unnamed (numbers.small n)) value ∙ ap (λ (t : Bool). is_at i.unnamed (if t then Some i.unnamed else None)) small ∙ itself in
    (tt, i, (written, refl), (tt, i, (further, refl), (refl, refl)))

pub numbered_values_are_read : NumberedValuesAreRead
unfolding numbered_value new_value local_key
numbered_values_are_read i gap rest few less is_free room blanks seam at =
    let digits = text.decimal i.unnamed in
    let wide : i.unnamed < 2 ^ 64 = omega (arith, few) in
    let own = are_digits i.unnamed wide in
    let w = local_number_comes i.cursor gap (text.decimal i.unnamed) rest blanks own seam at in
    let spelled_so : spelled i.cursor ≡ text.decimal i.unnamed = w.2 ∙ digits_spelled (text.decimal i.unnamed) own.1 in
    let key : local_key i.cursor ≡ text.decimal i.unnamed = rw (w.0, spelled_so) (number_key i.unnamed wide) in
    let same : local_number i ≡ number_of (text.decimal i.unnamed) i.locals.names = ap (λ (x : Text). number_of x i.locals.names) key in
    let bound : nat_lt (number_of (text.decimal i.unnamed) i.locals.names) 4294967296 ≡ true = grind (arith, nat_tests) in
    let in_range = ap (λ (n : ℕ). nat_lt n 4294967296) same ∙ bound in
    let unknown : not (is_known_local i) ≡ true =
    ap (λ (x : Text). not (is_local (slice_get (mentioned x Unknown i.locals).sorts (number_of x i.locals.names)))) key ∙ ap not is_free in
    let has_room : nat_lt i.values 1000000 ≡ true = grind (arith, nat_tests) in
    let taken = with_number_taken i in
    ((tt, taken, number_next i spelled_so few, (tt, taken, (tt, taken, (tt, taken, (in_range, refl), (unknown, refl)), (has_room, refl)), (same, refl))), key, w.3)
