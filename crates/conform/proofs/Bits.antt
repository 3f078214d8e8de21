-- Numbers that fit a word.
use Rattle.std.proofs.Common.{◌≡◌, ℕ, ◌+◌, ◌-◌, ◌*◌, ◌/◌, ◌^◌, ◌<◌, ◌≤◌, subst, arith}
use Rattle.std.proofs.lemmas.Nat.{pow_pos, pow-add}
use Rattle.std.proofs.Math.Nat.{div-lt_iff_lt-mul}

-- each number of 64 bits fits a word of so many or more
pub fits_wide : (number bits : ℕ) → number < 2 ^ 64 → 64 ≤ bits → number < 2 ^ bits
fits_wide number bits small wide =
    let more : ℕ = bits - 64 in
    let some = pow_pos more in
    let split : 2 ^ (64 + more) ≡ 2 ^ 64 * 2 ^ more = pow-add 2 64 more in
    let large : number < 2 ^ (64 + more) = omega (arith, small, some, split) in
    subst (λ (n : ℕ). number < 2 ^ n) (omega (arith, wide)) large

-- a number fits where nothing is left above the word
pub shifted : (number bits : ℕ) → number / 2 ^ bits ≡ 0 → number < 2 ^ bits
shifted number bits none = let below : number < 1 * 2 ^ bits = (div-lt_iff_lt-mul {k = 2 ^ bits} {x = number} {y = 1} (pow_pos bits)).0 (omega (arith, none)) in omega (arith, below)

pub unshifted : (number bits : ℕ) → number < 2 ^ bits → number / 2 ^ bits ≡ 0
unshifted number bits small = let below : number / 2 ^ bits < 1 = (div-lt_iff_lt-mul {k = 2 ^ bits} {x = number} {y = 1} (pow_pos bits)).1 (omega (arith, small)) in omega (arith, below)
