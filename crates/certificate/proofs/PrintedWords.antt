-- The words of a printed text are read as what they were printed for.
use Rattle.std.proofs.Common.{◌≡◌, ℕ, ◌+◌, ◌<◌, ◌^◌, Bool, true, false, nat_lt, [], ◌∷◌, Option, Some, None, is_some, refl, ap, sym, ◌∙◌, inl, inr, ◌⊎◌, arith}
use Rattle.std.specs.Prelude.{◌==◌, if◌then◌else◌}
use Rattle.std.specs.List.{list_all}
use Rattle.std.specs.Fmt.{decimal}
use Rattle.std.proofs.lemmas.Bool.{le-leb, ltb-true}
use Rattle.lemmas.specs.Bools.{and_first}
use Rattle.ir_tokens.specs.Bytes.{Text, is_digit}
use Rattle.ir_ast.specs.KeyNames.{name_of_key}
use Rattle.ir_ast.specs.LocalKeys.{key_of_name}
use Rattle.name_text.specs.Words.{is_word}
use Rattle.name_text.specs.declared.blank.Blank.TheVariants as blank
use Rattle.name_text.specs.NameWords.{names_are_words}
use Rattle.name_text.specs.Spelled.{global_spelled, layout_spelled, local_spelled, digits_spelled, digits_are_word, number_is_inner, number_is_word, number_read}
use Rattle.name_text.specs.Seams.{bytes_close}
use Rattle.name_text.specs.Naming.{name_in}
use Rattle.certs.specs.Fits as fits
use Rattle.certificate.specs.Numbers.{count_of_word, bits_of_word}
use Rattle.certificate.specs.KeyText.{name_key_text}
use Rattle.certificate.specs.Print.{name_text, key_text}
use Rattle.name_text.specs.Readings.{IsShort}
use Rattle.certificate.specs.Named.{IsNameKey, IsNumberKey}
use Rattle.name_text.specs.declared.naming.Sigil.TheVariants as sigil

-- ---- names

-- the name of a layout with its sign is read as that name
pub layout_read : (name : Text) → IsShort blank.Kept name → name_in sigil.Layout (37 ∷ name_text name) ≡ Some name
layout_read name short = layout_spelled blank.Kept name short.0 short.1

-- and so is a global name
pub global_read : (name : Text) → IsShort blank.Kept name → name_in sigil.Global (64 ∷ name_text name) ≡ Some name
global_read name short = global_spelled blank.Kept name short.0 short.1

-- a local name is read as its key
local_read : (name : Text) → IsShort blank.Kept name → name_in sigil.Local (37 ∷ name_text name) ≡ Some (key_of_name name)
local_read name short = local_spelled blank.Kept name short.0 short.1

-- a printed name is one word
pub name_word : (name : Text) → is_word (name_text name) ≡ true
name_word name = names_are_words blank.Kept name

-- ---- keys

-- a key is read as it is printed, and is printed as one word
abbrev pub IsReadAgain : Text → Type 0
IsReadAgain key = (name_in sigil.Local (37 ∷ key_text key) ≡ Some key) × (is_word (key_text key) ≡ true)

number_again : (key : Text) → IsNumberKey key → IsReadAgain key
number_again [] is = absurd (omega (arith, is.0))
number_again (b ∷ ds) is =
    let number = b ∷ ds in
    let text : key_text number ≡ number = ap (λ (t : Bool). if t then number else name_text (name_of_key number)) (and_first (is_digit b) (list_all is_digit ds) is.1) in
    let read = digits_spelled number is.0 is.1 is.3 in
    (rw text (read ∙ ap (λ (x : Text). Some x) is.2), rw text (digits_are_word number is.0 is.1))

name_key_again : (key : Text) → IsNameKey key → IsReadAgain key
name_key_again key is =
    let name = is.0 in
    let text : key_text key ≡ name_text name = ap key_text is.1 ∙ name_key_text name in
    (rw text (local_read name is.2 ∙ ap (λ (x : Text). Some x) (sym is.1)), rw text (name_word name))

-- so is the key of a name, and that of a number
pub key_read : (key : Text) → IsNameKey key ⊎ IsNumberKey key → IsReadAgain key
key_read key (inl name) = name_key_again key name
key_read key (inr number) = number_again key number

-- ---- numbers

pub digit_is : (n : ℕ) → n < 10 → is_digit (48 + n) ≡ true
digit_is n lt = rw (le-leb 48 (48 + n) (omega arith), le-leb (48 + n) 57 (omega (arith, lt))) refl

pub small_is : (n : ℕ) → is_some (fits.small n) ≡ true → (fits.small n ≡ Some n) × (n < 2 ^ 64)
small_is n e = by (nat_lt n 18446744073709551616) refl e
  where
    by : (t : Bool) → nat_lt n 18446744073709551616 ≡ t → is_some (if t then Some n else None) ≡ true → ((if t then Some n else None) ≡ Some n) × (n < 2 ^ 64)
    by true is e = (refl, ltb-true n 18446744073709551616 is)
    by false is e = absurd cc

count_parts : (n : ℕ) → is_some (fits.from_one (fits.small n)) ≡ true → is_some (fits.small n) ≡ true
count_parts n e = by (fits.small n) e
  where
    by : (x : Option ℕ) → is_some (fits.from_one x) ≡ true → is_some x ≡ true
    by None e = absurd cc
    by (Some k) e = refl

from_read : (n : ℕ) → is_some (fits.from_one (Some n)) ≡ true → fits.from_one (Some n) ≡ Some n
from_read n e = by (n == 0) e
  where
    by : (t : Bool) → is_some (if t then None else Some n) ≡ true → (if t then None else Some n) ≡ Some n
    by true e = absurd cc
    by false e = refl

-- a count is read as it was printed, and is one word
pub count_read : (n : ℕ) → is_some (fits.from_one (fits.small n)) ≡ true → (count_of_word (decimal n) ≡ Some n) × (is_word (decimal n) ≡ true)
count_read n e =
    let small = small_is n (count_parts n e) in
    let some : is_some (fits.from_one (Some n)) ≡ true = ap (λ x. is_some (fits.from_one x)) (sym small.0) ∙ e in
    (ap fits.from_one (number_read n small.1) ∙ from_read n some, number_is_word n small.1)

-- so are the bits of an integer
pub bits_read : (n : ℕ) → is_some (fits.small n) ≡ true → (bits_of_word (105 ∷ decimal n) ≡ Some n) × (is_word (105 ∷ decimal n) ≡ true)
bits_read n e = let small = small_is n e in (number_read n small.1, bytes_close (decimal n) (number_is_inner n small.1))
