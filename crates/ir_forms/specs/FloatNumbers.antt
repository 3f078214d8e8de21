-- Floating point numbers as they are written: in decimals, or as the bits of them.
use Rattle.std.specs.Prelude.{ℕ, ◌+◌, ◌*◌, Bool, true, false, not, ◌&&◌, ◌||◌, ◌==◌, nat_lt, if◌then◌else◌, List, [], ◌∷◌, take, drop, Option, Some, None, is_some, option_and_then, is_nan, to_bits}
use Rattle.std.specs.List.{list_all, prefix_len}
use Rattle.std.specs.Float.{Float, binary64, float_is_infinite}
use Rattle.std.specs.Float.Parse.{parse_float}
use Rattle.ir_tokens.specs.Bytes.{is_name, is_digit, digit}
use Rattle.name_text.specs.Numbers.{is_nil, is_number, small}

-- a byte of a number: one that a name may have, or a plus
abbrev pub is_part : ℕ → Bool
is_part byte = is_name byte || byte == 43

-- the bytes from the first one on that belong to one number
abbrev pub run_of : List ℕ → List ℕ
run_of bytes = take (prefix_len is_part bytes) bytes

-- ---- decimals

-- the bytes after the digits that come first
abbrev pub past_digits : List ℕ → List ℕ
past_digits bytes = drop (prefix_len is_digit bytes) bytes

-- digits, with a sign before them or without one
abbrev pub is_signed_number : List ℕ → Bool
is_signed_number [] = false
is_signed_number (byte ∷ bytes) = if byte == 43 || byte == 45 then is_number bytes else is_number (byte ∷ bytes)

-- nothing, or an `e` and the number of tens
abbrev pub is_exponent : List ℕ → Bool
is_exponent [] = true
is_exponent (byte ∷ bytes) = (byte == 101 || byte == 69) && is_signed_number bytes

-- a point, and what may follow it
abbrev pub is_fraction : List ℕ → Bool
is_fraction [] = false
is_fraction (byte ∷ bytes) = byte == 46 && is_exponent (past_digits bytes)

-- digits, a point, and what may follow it
abbrev pub is_unsigned_decimal : List ℕ → Bool
is_unsigned_decimal word = nat_lt 0 (prefix_len is_digit word) && is_fraction (past_digits word)

-- such a number, with a minus before it or without one
abbrev pub is_decimal : List ℕ → Bool
is_decimal [] = false
is_decimal (byte ∷ bytes) = if byte == 45 then is_unsigned_decimal bytes else is_unsigned_decimal (byte ∷ bytes)

-- the bits of a number that is finite
abbrev pub finite_bits : Float → Option ℕ
finite_bits x = if is_nan x then None else (if float_is_infinite x then None else Some (to_bits binary64 x))

-- the bits of the number of 64 bits that is the nearest one to a decimal, if that is finite
abbrev pub decimal_bits : List ℕ → Option ℕ
decimal_bits word = option_and_then finite_bits (parse_float binary64 word)

-- ---- hexadecimal numbers

-- a hexadecimal digit
abbrev pub is_hexadecimal_digit : ℕ → Bool
is_hexadecimal_digit byte = is_some (digit byte)

-- a number with one hexadecimal digit more, if it is below 2 to the 64
abbrev pub with_digit : ℕ → (byte : ℕ) → Option ℕ
with_digit n byte = option_and_then (λ d. small (16 * n + d)) (digit byte)

-- the number below 2 to the 64 that hexadecimal digits spell after those that spell n
abbrev pub hexadecimal_after : ℕ → List ℕ → Option ℕ
hexadecimal_after n [] = Some n
hexadecimal_after n (byte ∷ bytes) = option_and_then (λ m. hexadecimal_after m bytes) (with_digit n byte)

-- hexadecimal digits, at least one
abbrev pub are_hexadecimal_digits : List ℕ → Bool
are_hexadecimal_digits digits = not (is_nil digits) && list_all is_hexadecimal_digit digits

-- `0x` and hexadecimal digits
abbrev pub is_hexadecimal : List ℕ → Bool
is_hexadecimal [] = false
is_hexadecimal (a ∷ []) = false
is_hexadecimal (a ∷ b ∷ digits) = (a == 48 && b == 120) && are_hexadecimal_digits digits

-- ---- both

-- the word is a floating point number
unfoldable pub is_float_number : List ℕ → Bool
is_float_number word = is_hexadecimal word || is_decimal word

-- its bits of 64, if it is finite as a decimal, or has no more bits as a hexadecimal number
unfoldable pub float_bits : List ℕ → Option ℕ
float_bits word = if is_hexadecimal word then hexadecimal_after 0 (drop 2 word) else decimal_bits word
