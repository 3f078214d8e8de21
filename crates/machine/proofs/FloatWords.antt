-- Numbers of which the lowest bits are cut off.
use Rattle.std.proofs.Common.{◌≡◌, ◌<◌, ◌≤◌, ◌/◌, ◌^◌, ℕ, arith}
use Rattle.std.proofs.Math.Nat.{div-eq_of_lt, div-le_self, pow-le-pow_right}

-- where as many bits are cut off as a number has, nothing is left
pub cut_off : (number by : ℕ) → number < 2 ^ 128 → 128 ≤ by → number / 2 ^ by ≡ 0
cut_off number by fits all =
    let within : 2 ^ 128 ≤ 2 ^ by = pow-le-pow_right {n = 2} (omega arith) {i = 128} {j = by} all in
    div-eq_of_lt {n = number} {m = 2 ^ by} (omega (arith, fits, within))

-- and what is left is no more than the number
pub no_more : (number by : ℕ) → number / 2 ^ by ≤ number
no_more number by = div-le_self number (2 ^ by)
