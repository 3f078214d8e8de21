-- Numbers that 64 bits hold.
use Rattle.std.specs.Prelude.{ℕ, nat_lt, if◌then◌else◌, Option, Some, None}

-- a number below 2 to the 64
abbrev pub small : ℕ → Option ℕ
small n = if nat_lt n 18446744073709551616 then Some n else None
