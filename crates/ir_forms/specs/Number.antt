-- Numbers as they are written.
use Rattle.std.specs.Prelude.{ℕ, ◌-◌, ◌*◌, ◌^◌, ◌==◌, nat_lt, nat_le, if◌then◌else◌, List, [], ◌∷◌, Option, Some, None, min, option_and_then}
pub use Rattle.name_text.specs.Numbers.{decimal, decimal_after, small}

-- the negative of a number, if it is not below 0
abbrev pub not_below_zero : ℕ → Option ℕ
not_below_zero n = if n == 0 then Some 0 else None

-- the number that a length spells, below 2 to the 64
unfoldable pub natural : List ℕ → Option ℕ
natural [] = small (decimal [])
natural (byte ∷ digits) = if byte == 45 then option_and_then not_below_zero (small (decimal digits)) else small (decimal (byte ∷ digits))

-- half the count of the numbers of n bits, with n at most 64
abbrev pub half_of : ℕ → ℕ
half_of bits = 2 ^ (min bits 64 - 1)

-- a number, if it is below twice the half
abbrev pub positive : ℕ → ℕ → Option ℕ
positive half n = if nat_lt n (2 * half) then Some n else None

-- the negative of a number that is at most the half, as twice the half minus the number
abbrev pub negative : ℕ → ℕ → Option ℕ
negative half n = if nat_le n half then Some (if n == 0 then 0 else 2 * half - n) else None

-- the number that a constant of n bits spells; one out of their range has none
unfoldable pub constant : List ℕ → ℕ → Option ℕ
constant [] bits = option_and_then (positive (half_of bits)) (small (decimal []))
constant (byte ∷ digits) bits =
    if byte == 45 then option_and_then (negative (half_of bits)) (small (decimal digits))
    else option_and_then (positive (half_of bits)) (small (decimal (byte ∷ digits)))
