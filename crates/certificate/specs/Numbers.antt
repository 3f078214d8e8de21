-- Numbers and sets of words as a certificate writes them.
use Rattle.std.specs.Prelude.{ℕ, ◌+◌, ◌-◌, ◌*◌, ◌==◌, nat_lt, if◌then◌else◌, [], ◌∷◌, Option, Some, None, option_and_then}
use Rattle.ir_tokens.specs.Bytes.{Text, is_digit}
use Rattle.pools.specs.declared.word_set.WordSet.{WordSet}
use Rattle.pools.specs.WordSets.{no_words, adds_word}
use Rattle.certs.specs.Fits.{from_one}
use Rattle.name_text.specs.Numbers.{number_of_word}

-- the number from 1 that a word is
abbrev pub count_of_word : Text → Option ℕ
count_of_word word = from_one (number_of_word word)

-- the bits of the integer type that a word is
abbrev pub bits_of_word : Text → Option ℕ
bits_of_word [] = None
bits_of_word (byte ∷ digits) = if byte == 105 then number_of_word digits else None

-- one digit more after the number that is read
abbrev pub with_digit : Option ℕ → (digit : ℕ) → ℕ
with_digit None digit = digit - 48
with_digit (Some n) digit = 10 * n + (digit - 48)

-- the set with the number that ends here, if there is one
abbrev pub closed : WordSet → Option ℕ → Option WordSet
closed set None = None
closed set (Some n) = Some (adds_word set n)

-- a comma comes after each number but the last
abbrev pub words_after : WordSet → (number : Option ℕ) → Text → Option WordSet
words_after set number [] = closed set number
words_after set number (byte ∷ bytes) =
    if is_digit byte then (if nat_lt (with_digit number byte) 64 then words_after set (Some (with_digit number byte)) bytes else None)
    else (if byte == 44 then option_and_then (λ more. words_after more None bytes) (closed set number) else None)

-- the words of a cell, from 0 to 63, that a word of the text lists with commas between
abbrev pub words_of_word : Text → Option WordSet
words_of_word word = words_after no_words None word
