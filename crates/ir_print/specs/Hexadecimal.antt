-- How the bits of floating point numbers are printed.
use Rattle.std.specs.Prelude.{ℕ, zero, suc, ◌/◌, ◌%◌, [], ◌∷◌, ◌++◌}
use Rattle.ir_tokens.specs.Bytes.{Text}
use Rattle.name_text.specs.Names.{hexadecimal}

-- the last hexadecimal digits of a number, `many` of them
unfoldable pub digits_text : (many : ℕ) → ℕ → Text
digits_text zero number = []
digits_text (suc many) number = digits_text many (number / 16) ++ hexadecimal (number % 16) ∷ []

-- the bits of a number of 64 bits: `0x` and 16 hexadecimal digits
abbrev pub bits_text : ℕ → Text
bits_text number = 48 ∷ 120 ∷ digits_text 16 number
