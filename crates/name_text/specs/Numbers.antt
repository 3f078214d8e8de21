-- Decimal numbers as words.
use Rattle.std.specs.Prelude.{ℕ, ◌+◌, ◌-◌, ◌*◌, Bool, true, false, not, ◌&&◌, if◌then◌else◌, [], ◌∷◌, Option, None}
use Rattle.std.specs.List.{list_all}
pub use Rattle.ir_ast.specs.Numbers.{small}
use Rattle.ir_tokens.specs.Bytes.{Text, is_digit}

-- whether a text has no byte
abbrev pub is_nil : Text → Bool
is_nil [] = true
is_nil (byte ∷ bytes) = false

-- decimal digits, at least one
abbrev pub is_number : Text → Bool
is_number word = not (is_nil word) && list_all is_digit word

-- the number that digits spell after those that spell n
abbrev pub decimal_after : ℕ → Text → ℕ
decimal_after n [] = n
decimal_after n (digit ∷ digits) = decimal_after (10 * n + (digit - 48)) digits

-- the number that decimal digits spell
unfoldable pub decimal : Text → ℕ
decimal digits = decimal_after 0 digits

-- the number below 2 to the 64 that a word is
abbrev pub number_of_word : Text → Option ℕ
number_of_word word = if is_number word then small (decimal word) else None
