-- Bounds of integers.
use Rattle.std.specs.Prelude.{ℕ, suc, if◌then◌else◌, Option, Some, None, nat_lt}

-- a number is below the next one; 2 to the 64 is no bound
abbrev pub below_next : ℕ → Option ℕ
below_next n = if nat_lt n 18446744073709551615 then Some (suc n) else None
