-- Labels are read, and from there on it is known which blocks they mean.
use Rattle.std.proofs.Common.{◌≡◌, ℕ, ◌+◌, ◌/◌, ◌%◌, ◌<◌, ◌≤◌, ◌^◌, Bool, true, false, not, if◌then◌else◌, [], ◌∷◌, ◌++◌, slice_get, None, Some, refl, sym, ap, ◌∙◌, arith, append_assoc, inl}
use Rattle.std.specs.Prelude.{nat_lt, ◌==◌, ◌||◌}
use Rattle.std.specs.Fmt as text
use Rattle.std.specs.List.{list_all}
use Rattle.std.proofs.lemmas.Bool.Decides.{nat_tests}
use Rattle.std.proofs.lemmas.Fmt.{decimal_by_steps}
use Rattle.ir_print_law.proofs.NamesRead.{few}
use Rattle.lemmas.specs.Bools.{and_parts, not_true, or_second}
use Rattle.ir_ast.specs.LocalKeys.{key_of_digits}
use Rattle.ir_ast.specs.Names.{number_of}
use Rattle.ir_ast.specs.declared.function.LocalSort.TheVariants as local
use Rattle.ir_tokens.specs.declared.token.Kind.TheVariants as k
use Rattle.ir_tokens.specs.Bytes.{Text, is_digit, is_letter}
use Rattle.ir_tokens.specs.Tokens.{begins_gap, past_gap}
use Rattle.ir_forms.specs.Cursor.{kind, next, spelled, local_key}
use Rattle.ir_forms.specs.Number as numbers
use Rattle.ir_forms.specs.Place.{Place}
use Rattle.ir_forms.specs.Table.{mentioned}
use Rattle.ir_forms.specs.declared.input.Input.{Input}
use Rattle.ir_forms.specs.Names as names
use Rattle.ir_print_law.specs.Readings.{IsKey}
use Rattle.ir_print_law.specs.Stands.{Stands, AreDigits}
use Rattle.name_text.specs.Spelled.{number_is}
use Rattle.ir_print_law.proofs.Constants.{are_digits}
use Rattle.ir_print_law.proofs.Spelled.{label_number_read, label_number_spelled}
use Rattle.ir_print_law.proofs.Standing.{Comes, comes}
use Rattle.ir_print_law.proofs.Words.{no_gap}

-- ---- labels that are numbers

digit_begins : (b : ℕ) (bytes : Text) → is_digit b ≡ true → begins_gap (b ∷ bytes) ≡ false
digit_begins b bytes e = no_gap b bytes (or_second (is_letter b) (is_digit b) e)

past_line : (b : ℕ) (bytes : Text) → begins_gap (b ∷ bytes) ≡ false → past_gap false (10 ∷ b ∷ bytes) ≡ b ∷ bytes
unfolding past_gap
past_line b bytes e = by (b == 59) (b == 32 || b == 9 || b == 10 || b == 13) refl refl e where
  by : (t u : Bool) → b == 59 ≡ t → (b == 32 || b == 9 || b == 10 || b == 13) ≡ u → (t || u) ≡ false → past_gap false (b ∷ bytes) ≡ b ∷ bytes
  by true u e f h = absurd cc
  by false true e f h = absurd cc
  by false false e f h = rw (e, f) refl

pub label_number_comes : (place : Place) (digits rest : Text) → AreDigits digits → Stands place (10 ∷ (digits ++ 58 ∷ rest)) → Comes place k.LabelNumber (digits ++ 58 ∷ []) rest
label_number_comes place [] rest own at = absurd (omega (arith, own.0))
label_number_comes place (b ∷ digits) rest own at =
    let digit = (and_parts (is_digit b) (list_all is_digit digits) own.1).0 in
    let bytes = digits ++ 58 ∷ rest in
    comes place (10 ∷ []) b bytes ((b ∷ digits) ++ 58 ∷ []) rest k.LabelNumber refl (past_line b bytes (digit_begins b bytes digit)) (label_number_read (b ∷ digits) rest own)
    (sym (append_assoc (b ∷ digits) (58 ∷ []) rest)) (omega arith) at

abbrev no_zero : Text → Bool
no_zero [] = false
no_zero (b ∷ bytes) = not (b == 48)

kept_by : (digits : Text) → no_zero digits ≡ true → key_of_digits digits ≡ digits
kept_by [] e = absurd cc
kept_by (b ∷ []) e = refl
kept_by (b ∷ d ∷ digits) e = rw (not_true (b == 48) e) refl

no_zero_on : (digits : Text) (d : ℕ) → no_zero digits ≡ true → no_zero (digits ++ d ∷ []) ≡ true
no_zero_on [] d e = absurd cc
no_zero_on (b ∷ digits) d e = e

abbrev Kept : ℕ → Text → Type 0
Kept n digits = (key_of_digits digits ≡ digits) × (1 ≤ n → no_zero digits ≡ true)

key_is : (n : ℕ) → n < 2 ^ 64 → Kept n (text.decimal n)
key_is n less = decimal_by_steps Kept one more n less where
  one : (n : ℕ) → n < 10 → Kept n ((48 + n) ∷ [])
  one n less = (refl, λ some. let e : 48 + n == 48 ≡ false = grind (arith, nat_tests) in ap not e)

  more : (n : ℕ) (digits : Text) → 10 ≤ n → Kept (n / 10) digits → Kept n (digits ++ ((48 + n % 10) ∷ []))
  more n digits ge h =
      let front = no_zero_on digits (48 + n % 10) (h.1 (omega (arith, ge))) in
      (kept_by (digits ++ ((48 + n % 10) ∷ [])) front, λ some. front)

-- the key of a number is as the number is written
pub number_key : (n : ℕ) → n < 2 ^ 64 → key_of_digits (text.decimal n) ≡ text.decimal n
number_key n less = (key_is n less).0

-- a number is a key
pub decimal_key : (n : ℕ) → n < 2 ^ 64 → IsKey (text.decimal n)
decimal_key n less = inl (are_digits n less, number_key n less)

number_next : (u : ℕ) (i : Input) → i.unnamed ≡ u → spelled i.cursor ≡ text.decimal u → u < 4294967295 → names.next_number.says i tt (names.with_number_taken i)
unfolding names.next_number names.take_number
number_next u i same e less =
    let wide : u < 2 ^ 64 = omega (arith, less) in
    let small : nat_lt u 18446744073709551616 ≡ true = grind (arith, nat_tests) in
    let equal : u == u ≡ true = grind (arith, nat_tests) in
    let further : nat_lt u 4294967295 ≡ true = grind (arith, nat_tests) in
    let value : numbers.decimal (spelled i.cursor) ≡ u = ap numbers.decimal e ∙ number_is u wide in
    let written : names.is_written_next i ≡ true =
    ap (λ (n : ℕ). names.is_at i.unnamed (numbers.small n)) value ∙ ap (λ (t : Bool). names.is_at i.unnamed (if t then Some u else None)) small ∙ ap (λ (n : ℕ). u == n) same ∙ equal in
    (tt, i, (written, refl), (tt, i, (ap (λ (n : ℕ). nat_lt n 4294967295) same ∙ further, refl), (refl, refl)))

pub numbered_label_read : (u block : ℕ) (i : Input) (rest : Text) → i.unnamed ≡ u → u < 4294967295 → number_of (text.decimal u) i.locals.names < 2 ^ 32
    → names.is_local (slice_get (mentioned (text.decimal u) local.Unknown i.locals).sorts (number_of (text.decimal u) i.locals.names)) ≡ false
    → Stands i.cursor (10 ∷ (text.decimal u ++ 58 ∷ rest))
    → (names.numbered_label block).says i (number_of (text.decimal u) i.locals.names) (names.with_label block (names.with_number_taken i))
    × (local_key i.cursor ≡ text.decimal u) × Stands (next i.cursor) rest × (kind i.cursor ≡ k.LabelNumber)
unfolding names.numbered_label names.new_label local_key
numbered_label_read u block i rest same few_numbers less is_free at =
    let wide : u < 2 ^ 64 = omega (arith, few_numbers) in
    let own = are_digits u wide in
    let w = label_number_comes i.cursor (text.decimal u) rest own at in
    let spelled_so : spelled i.cursor ≡ text.decimal u = w.2 ∙ label_number_spelled (text.decimal u) own.1 in
    let key : local_key i.cursor ≡ text.decimal u = rw (w.0, spelled_so) (number_key u wide) in
    let number : names.local_number i ≡ number_of (text.decimal u) i.locals.names = ap (λ (x : Text). number_of x i.locals.names) key in
    let in_range = ap (λ (n : ℕ). nat_lt n 4294967296) number ∙ few (number_of (text.decimal u) i.locals.names) less in
    let unknown : not (names.is_known_local i) ≡ true =
    ap (λ (x : Text). not (names.is_local (slice_get (mentioned x local.Unknown i.locals).sorts (number_of x i.locals.names)))) key ∙ ap not is_free in
    let taken = names.with_number_taken i in
    ((tt, taken, number_next u i same spelled_so few_numbers, (tt, taken, (tt, taken, (in_range, refl), (unknown, refl)), (number, refl))), key, w.3, w.0)
