-- A plain name, and a number, are looked up as they are.
use Rattle.std.proofs.Common.{◌≡◌, ℕ, ◌-◌, ◌<◌, ◌≤◌, ◌^◌, true, false, not, ◌||◌, ◌&&◌, [], ◌∷◌, length, take, drop, get_or, Some, refl, sym, ap, ◌∙◌, subst, arith}
use Rattle.std.specs.Prelude.{nat_lt}
use Rattle.std.specs.List.{list_all}
use Rattle.std.proofs.lemmas.Bool.Decides.{nat_tests}
use Rattle.std.proofs.Math.Seq.{take-length}
use Rattle.lemmas.specs.Bools.{and_parts}
use Rattle.ir_ast.specs.LocalKeys.{needs_mark, key_of_name, key_of_digits}
use Rattle.ir_tokens.specs.Bytes.{Text, is_letter, is_digit}
use Rattle.name_text.specs.Names.{begins_plain, is_plain, name_text}
use Rattle.name_text.specs.Naming.{name_in}
use Rattle.name_text.specs.Numbers.{is_nil, is_number}
use Rattle.name_text.specs.Readings.{AreBytes}
use Rattle.name_text.specs.Spelled.{global_spelled, layout_spelled, local_spelled, digits_spelled}
use Rattle.name_text.specs.declared.blank.Blank.TheVariants as blank
use Rattle.name_text.specs.declared.naming.Sigil.TheVariants as sigil

-- a byte of a plain name is far below 256
small_byte : (b : ℕ) → (is_letter b || is_digit b) ≡ true → b < 256
small_byte b e = grind (arith, nat_tests)

bytes_are : (w : Text) → list_all (λ b. is_letter b || is_digit b) w ≡ true → AreBytes w
bytes_are [] e = tt
bytes_are (b ∷ w) e =
    let parts = and_parts (is_letter b || is_digit b) (list_all (λ b. is_letter b || is_digit b) w) e in
    (small_byte b parts.0, bytes_are w parts.1)

-- no letter needs a mark
unmarked_letter : (b : ℕ) (w : Text) → is_letter b ≡ true → needs_mark (b ∷ w) ≡ false
unmarked_letter b w e = grind (arith, nat_tests)

unmarked : (w : Text) → begins_plain w ≡ true → needs_mark w ≡ false
unmarked [] e = absurd cc
unmarked (b ∷ w) e = unmarked_letter b w e

module _ (name : Text) (e : (is_plain name && nat_lt (length name) 16777216) ≡ true) where
  plain : is_plain name ≡ true
  plain = (and_parts (is_plain name) (nat_lt (length name) 16777216) e).0

  short : length name < 2 ^ 24
  short = let few = (and_parts (is_plain name) (nat_lt (length name) 16777216) e).1 in grind (arith, nat_tests)

  own : AreBytes name
  own = bytes_are name (and_parts (begins_plain name) (list_all (λ b. is_letter b || is_digit b) name) plain).1

  as_it_is : name_text blank.Kept name ≡ name
  as_it_is = rw plain refl

  printed_short : length (name_text blank.Kept name) < 2 ^ 24
  printed_short = subst (λ (t : Text). length t < 2 ^ 24) (sym as_it_is) short

  pub plain_global_read : name_in sigil.Global (64 ∷ name) ≡ Some name
  plain_global_read = subst (λ (t : Text). name_in sigil.Global (64 ∷ t) ≡ Some name) as_it_is (global_spelled blank.Kept name own printed_short)

  pub plain_layout_read : name_in sigil.Layout (37 ∷ name) ≡ Some name
  plain_layout_read = subst (λ (t : Text). name_in sigil.Layout (37 ∷ t) ≡ Some name) as_it_is (layout_spelled blank.Kept name own printed_short)

  key_is : key_of_name name ≡ name
  key_is = rw (unmarked name (and_parts (begins_plain name) (list_all (λ b. is_letter b || is_digit b) name) plain).0) refl

  keyed : name_in sigil.Local (37 ∷ name) ≡ Some (key_of_name name)
  keyed = subst (λ (t : Text). name_in sigil.Local (37 ∷ t) ≡ Some (key_of_name name)) as_it_is (local_spelled blank.Kept name own printed_short)

  pub plain_key_read : name_in sigil.Local (37 ∷ name) ≡ Some name
  plain_key_read = subst (λ (t : Text). name_in sigil.Local (37 ∷ name) ≡ Some t) key_is keyed

-- a number's key is its digits without zeros before them
some_digit : (w : Text) → not (is_nil w) ≡ true → 0 < length w
some_digit [] e = absurd cc
some_digit (b ∷ w) e = omega arith

pub number_read : (digits : Text) → (is_number digits && nat_lt (length digits) 16777216) ≡ true → name_in sigil.Local (37 ∷ digits) ≡ Some (key_of_digits digits)
number_read digits e =
    let parts = and_parts (is_number digits) (nat_lt (length digits) 16777216) e in
    let number = and_parts (not (is_nil digits)) (list_all is_digit digits) parts.0 in
    let few = parts.1 in
    let less : length digits < 2 ^ 24 = grind (arith, nat_tests) in
    digits_spelled digits (some_digit digits number.0) number.1 less

-- ---- a word is its sign and what follows it

abbrev pub unsigned : Text → Text
unsigned w = take (length w - 1) (drop 1 w)

signed : (w : Text) (sign : ℕ) → get_or w 0 0 ≡ sign → 1 ≤ length w → sign ∷ unsigned w ≡ w
signed [] sign e some = absurd (omega (arith, some))
signed (b ∷ w) sign e some =
    let rest : length (b ∷ w) - 1 ≡ length w = omega arith in
    rw (rest, take-length) (ap (λ (x : ℕ). x ∷ w) (sym e))

module _ (w : Text) (some : 1 ≤ length w) where
  pub signed_global : get_or w 0 0 ≡ 64 → (is_plain (unsigned w) && nat_lt (length (unsigned w)) 16777216) ≡ true → name_in sigil.Global w ≡ Some (unsigned w)
  signed_global first e = ap (name_in sigil.Global) (sym (signed w 64 first some)) ∙ plain_global_read (unsigned w) e

  pub signed_key : get_or w 0 0 ≡ 37 → (is_plain (unsigned w) && nat_lt (length (unsigned w)) 16777216) ≡ true → name_in sigil.Local w ≡ Some (unsigned w)
  signed_key first e = ap (name_in sigil.Local) (sym (signed w 37 first some)) ∙ plain_key_read (unsigned w) e

  pub signed_number : get_or w 0 0 ≡ 37 → (is_number (unsigned w) && nat_lt (length (unsigned w)) 16777216) ≡ true → name_in sigil.Local w ≡ Some (key_of_digits (unsigned w))
  signed_number first e = ap (name_in sigil.Local) (sym (signed w 37 first some)) ∙ number_read (unsigned w) e
