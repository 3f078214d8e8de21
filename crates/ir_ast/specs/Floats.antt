-- Floating point numbers as the bits of them: those of 64 bits, and those of 32 bits that they hold.
use Rattle.std.specs.Prelude.{ℕ, ◌+◌, ◌-◌, ◌*◌, ◌/◌, ◌%◌, ◌^◌, ◌==◌, Bool, true, false, ◌&&◌, ◌||◌, nat_le, if◌then◌else◌}

-- the sign of a number of 64 bits
abbrev pub sign_of : ℕ → ℕ
sign_of n = n / 2 ^ 63

-- its exponent
abbrev pub exponent_of : ℕ → ℕ
exponent_of n = n / 2 ^ 52 % 2048

-- its fraction
abbrev pub fraction_of : ℕ → ℕ
fraction_of n = n % 2 ^ 52

-- the exponent and the fraction of the same number in 32 bits, as one number: with an exponent of its own, and without where it is too small for one
abbrev pub narrowed_fraction : (exponent fraction : ℕ) → ℕ
narrowed_fraction exponent fraction =
    if exponent == 0 then 0
    else (if exponent == 2047 then 255 * 2 ^ 23 + fraction / 2 ^ 29
    else (if nat_le 897 exponent then (exponent - 896) * 2 ^ 23 + fraction / 2 ^ 29
    else (2 ^ 52 + fraction) / 2 ^ (926 - exponent)))

-- the bits of the number in 32 bits, if these can hold it
abbrev pub narrowed : ℕ → ℕ
narrowed n = sign_of n * 2 ^ 31 + narrowed_fraction (exponent_of n) (fraction_of n)

-- how many bits of the fraction are cut off where the exponent of 32 bits is too small
abbrev pub cut_by : (exponent : ℕ) → ℕ
cut_by exponent = if nat_le 897 exponent then 29 else 926 - exponent

-- only zeros are cut off
abbrev pub cuts_zeros : (exponent fraction : ℕ) → Bool
cuts_zeros exponent fraction = fraction % 2 ^ cut_by exponent == 0

-- 32 bits hold this number of 64 bits
abbrev pub is_float : ℕ → Bool
is_float n =
    if exponent_of n == 0 then fraction_of n == 0
    else (if exponent_of n == 2047 then fraction_of n % 2 ^ 29 == 0
    else (nat_le 874 (exponent_of n) && (nat_le (exponent_of n) 1150 && cuts_zeros (exponent_of n) (fraction_of n))))

-- the word of a number of 64 bits at a type of this number of bits
abbrev pub float_word : (bits : ℕ) → ℕ → ℕ
float_word bits n = if bits == 32 then narrowed n else n
