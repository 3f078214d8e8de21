-- Printed names are words, in quotes too.
use Rattle.std.proofs.Common.{◌≡◌, ℕ, ◌+◌, ◌/◌, ◌%◌, Bool, true, false, if◌then◌else◌, [], ◌∷◌, ◌++◌, refl, ap, ◌∙◌, arith, append_assoc}
use Rattle.std.specs.Prelude.{◌==◌, nat_lt}
use Rattle.std.specs.List.{flat_map}
use Rattle.std.proofs.lemmas.Bool.Decides.{nat_tests}
use Rattle.lemmas.specs.Bools.{and_parts}
use Rattle.ir_tokens.specs.Bytes.{Text}
use Rattle.name_text.specs.Names.{begins_plain, is_plain, is_shown, hexadecimal, quoted_byte, quoted_text}
use Rattle.name_text.specs.Readings.{NamesAreWords}
use Rattle.name_text.specs.Words.{closes, is_word}
use Rattle.name_text.specs.declared.blank.Blank.{Blank}
use Rattle.name_text.specs.Reading.{shown_is}
use Rattle.name_text.specs.Seams.{bytes_close, plain_bytes}

-- a byte other than a quote leaves the quotes open
stays_open : (b : ℕ) (rest : Text) → (b == 34) ≡ false → closes true (b ∷ rest) ≡ closes true rest
stays_open b rest e = rw e refl

hexadecimal_by : (t : Bool) (d : ℕ) → nat_lt d 10 ≡ t → (if t then 48 + d else 55 + d) == 34 ≡ false
hexadecimal_by true d e = grind (arith, nat_tests)
hexadecimal_by false d e = grind (arith, nat_tests)

no_quote : (d : ℕ) → hexadecimal d == 34 ≡ false
no_quote d = hexadecimal_by (nat_lt d 10) d refl

module _ (blank : Blank) where
  byte_by : (b : ℕ) (rest : Text) (t : Bool) → is_shown blank b ≡ t → closes true ((if t then b ∷ [] else 92 ∷ hexadecimal (b / 16) ∷ hexadecimal (b % 16) ∷ []) ++ rest) ≡ closes true rest
  byte_by b rest true e = stays_open b rest (shown_is blank b e).0
  byte_by b rest false e =
      stays_open (hexadecimal (b / 16)) (hexadecimal (b % 16) ∷ rest) (no_quote (b / 16))
      ∙ stays_open (hexadecimal (b % 16)) rest (no_quote (b % 16))

  -- the quotes stay open up to the quote after the name
  inside : (name rest : Text) → closes true (flat_map (quoted_byte blank) name ++ rest) ≡ closes true rest
  inside [] rest = refl
  inside (b ∷ name) rest =
      ap (closes true) (append_assoc (quoted_byte blank b) (flat_map (quoted_byte blank) name) rest)
      ∙ byte_by b (flat_map (quoted_byte blank) name ++ rest) (is_shown blank b) refl
      ∙ inside name rest

  plain_word : (name : Text) → is_plain name ≡ true → is_word name ≡ true
  plain_word [] e = absurd cc
  plain_word (b ∷ name) e = bytes_close (b ∷ name) (plain_bytes (b ∷ name) (and_parts (begins_plain (b ∷ name)) _ e).1)

  name_by : (name : Text) (t : Bool) → is_plain name ≡ t → is_word (if t then name else quoted_text blank name) ≡ true
  name_by name true e = plain_word name e
  name_by name false e = inside name (34 ∷ [])

pub names_are_words : NamesAreWords
names_are_words blank name = name_by blank name (is_plain name) refl
