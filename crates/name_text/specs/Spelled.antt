-- Printed names and numbers are read as what they were printed of.
use Rattle.std.proofs.Common.{◌≡◌, ℕ, suc, ◌<◌, ◌^◌, true, false, ◌||◌, [], ◌∷◌, length, Some, refl, ap, arith, rules}
use Rattle.std.specs.Prelude.{nat_le}
use Rattle.std.specs.List.{list_all}
use Rattle.std.specs.Fmt.{decimal}
use Rattle.std.proofs.lemmas.Bool.{eq-eqb, le-leb}
use Rattle.std.proofs.lemmas.Bool.Decides.{nat_tests}
use Rattle.std.proofs.lemmas.Fmt.{digits_decimal, digits_value-decimal, decimal_nonempty}
use Rattle.std.proofs.lemmas.Str.Parse.{IsNumeralModel, numerals_by_fold}
use Rattle.lemmas.specs.Bools.{and_parts, or_second}
use Rattle.ir_ast.specs.LocalKeys.{key_of_name, key_of_digits}
use Rattle.ir_tokens.specs.Bytes.{Text, is_letter, is_digit}
use Rattle.ir_tokens.specs.declared.token.Kind.{Kind}
use Rattle.ir_tokens.specs.declared.token.Kind.TheVariants as k
use Rattle.name_text.specs.Names.{name_text}
use Rattle.name_text.specs.Naming.{name_by, name_in}
use Rattle.name_text.specs.Numbers.{is_nil, is_number, decimal_after, number_of_word, small}
use Rattle.name_text.specs.Numbers as numbers
use Rattle.name_text.specs.Readings.{AreBytes, IsName}
use Rattle.name_text.specs.Words.{is_word}
use Rattle.name_text.specs.declared.blank.Blank.{Blank}
use Rattle.name_text.specs.declared.naming.Sigil.{Sigil}
use Rattle.name_text.specs.declared.naming.Sigil.TheVariants as sigil
use Rattle.name_text.specs.Reading.{globals_are_read, locals_are_read, numbers_are_read}
use Rattle.name_text.specs.Seams.{is_word_byte, bytes_close, plain_bytes}

-- ---- names

short_is : (name : Text) → length name < 2 ^ 24 → nat_le (suc (length name)) (2 ^ 24) ≡ true
short_is name short = le-leb (suc (length name)) (2 ^ 24) (omega (arith, short))

-- a text that is one token names what the token spells
token_named : (sign : Sigil) (kind : Kind) (text name : Text) → IsName kind text name → nat_le (length text) (2 ^ 24) ≡ true → name_in sign text ≡ name_by sign kind name
token_named sign kind text name is few = rw (few, is.0, eq-eqb (length text) (length text) refl) (ap (name_by sign kind) is.1)

module _ (blank : Blank) (name : Text) (own : AreBytes name) (short : length (name_text blank name) < 2 ^ 24) where
  -- a printed global name is read as that name
  pub global_spelled : name_in sigil.Global (64 ∷ name_text blank name) ≡ Some name
  global_spelled = token_named sigil.Global k.GlobalName (64 ∷ name_text blank name) name (globals_are_read blank name own) (short_is (name_text blank name) short)

  -- and so is a type's name
  pub layout_spelled : name_in sigil.Layout (37 ∷ name_text blank name) ≡ Some name
  layout_spelled = token_named sigil.Layout k.LocalName (37 ∷ name_text blank name) name (locals_are_read blank name own) (short_is (name_text blank name) short)

  -- a local name is read as its key
  pub local_spelled : name_in sigil.Local (37 ∷ name_text blank name) ≡ Some (key_of_name name)
  local_spelled = token_named sigil.Local k.LocalName (37 ∷ name_text blank name) name (locals_are_read blank name own) (short_is (name_text blank name) short)

-- and so is the number of what has no name
pub digits_spelled : (digits : Text) → 0 < length digits → list_all is_digit digits ≡ true → length digits < 2 ^ 24 → name_in sigil.Local (37 ∷ digits) ≡ Some (key_of_digits digits)
digits_spelled digits some are short = token_named sigil.Local k.LocalNumber (37 ∷ digits) digits (numbers_are_read digits some are) (short_is digits short)

-- ---- letters and digits

digits_are_plain : (w : Text) → list_all is_digit w ≡ true → list_all (λ byte. is_letter byte || is_digit byte) w ≡ true
digits_are_plain [] e = refl
digits_are_plain (byte ∷ w) e =
    let parts = and_parts (is_digit byte) (list_all is_digit w) e in
    rw (or_second (is_letter byte) (is_digit byte) parts.0, digits_are_plain w parts.1) refl

-- no digit ends a word or begins quoted text
pub digits_are_inner : (w : Text) → list_all is_digit w ≡ true → list_all is_word_byte w ≡ true
digits_are_inner w e = plain_bytes w (digits_are_plain w e)

-- digits are one word
pub digits_are_word : (w : Text) → 0 < length w → list_all is_digit w ≡ true → is_word w ≡ true
digits_are_word [] some e = absurd (omega (arith, some))
digits_are_word (byte ∷ w) some e = bytes_close (byte ∷ w) (digits_are_inner (byte ∷ w) e)

-- ---- numbers

own : IsNumeralModel (λ (ds : Text). list_all is_digit ds ≡ true) (decimal_after 0)
own = numerals_by_fold _ (search rules) decimal_after (search rules)

pub number_is_inner : (n : ℕ) → n < 2 ^ 64 → list_all is_word_byte (decimal n) ≡ true
number_is_inner n less = digits_are_inner (decimal n) (digits_decimal own n less)

pub number_has_bytes : (n : ℕ) → n < 2 ^ 64 → 0 < length (decimal n)
number_has_bytes = decimal_nonempty

pub number_is_word : (n : ℕ) → n < 2 ^ 64 → is_word (decimal n) ≡ true
number_is_word n less = digits_are_word (decimal n) (decimal_nonempty n less) (digits_decimal own n less)

some_byte : (w : Text) → 0 < length w → is_nil w ≡ false
some_byte [] some = absurd (omega (arith, some))
some_byte (byte ∷ w) some = refl

pub number_is_one : (n : ℕ) → n < 2 ^ 64 → is_number (decimal n) ≡ true
number_is_one n less = rw (some_byte (decimal n) (decimal_nonempty n less), digits_decimal own n less) refl

pub number_is : (n : ℕ) → n < 2 ^ 64 → numbers.decimal (decimal n) ≡ n
unfolding numbers.decimal
number_is n less = digits_value-decimal own n less

-- a printed number is read as that number
pub number_read : (n : ℕ) → n < 2 ^ 64 → number_of_word (decimal n) ≡ Some n
number_read n less =
    let in_range : small n ≡ Some n = grind (arith, nat_tests) in
    rw (number_is_one n less, number_is n less) in_range
