-- The bits and the digits of a number, one after the other.
use Rattle.std.proofs.Common.{◌≡◌, ◌<◌, ◌≤◌, ◌^◌, ℕ, zero, suc, ◌+◌, ◌-◌, ◌*◌, ◌/◌, ◌%◌, ◌∙◌, Bool, true, false, refl, sym, ap, arith, inl, inr}
use Rattle.std.specs.Prelude.{◌⊎◌, ◌==◌, nat_lt, if◌then◌else◌}
use Rattle.std.proofs.Math.Nat.{pow-suc, pow-le-pow_right}
use Rattle.std.proofs.lemmas.Bool.{cases_lt, eq-eqb}
use Rattle.std.proofs.lemmas.Nat.{mul-add-lt, mod_below}
use Rattle.machine.specs.Kinds.{modulus, wrapped}
use Rattle.machine.specs.IntegerFunctions.{ones, zeros_below, reversed, width_at}

-- what is left is one less after this turn
left_after : (count turn : ℕ) → turn < count → count - turn ≡ suc (count - (turn + 1))
left_after count turn within = omega (arith, within)

-- the lowest bit is counted first
pub ones_turn : (bits turn n : ℕ) → turn < bits → ones (bits - turn) n ≡ n % 2 + ones (bits - (turn + 1)) (n / 2)
ones_turn bits turn n within = ap (λ k. ones k n) (left_after bits turn within)

-- where the lowest bit is not set, the others are left
pub below_turn : (bits below n : ℕ) → below < bits → n % 2 ≡ 0 → zeros_below (bits - below) n ≡ suc (zeros_below (bits - (below + 1)) (n / 2))
below_turn bits below n within even =
    let e : (n % 2 == 0) ≡ true = eq-eqb (n % 2) 0 even in
    ap (λ k. zeros_below k n) (left_after bits below within) ∙ ap (λ b. if b then suc (zeros_below (bits - (below + 1)) (n / 2)) else 0) e

-- the lowest digit goes behind those that were taken
pub digit_turned : (base digits turn turned n : ℕ) → turn < digits
    → (turned * base + n % base) * base ^ (digits - (turn + 1)) + reversed base (digits - (turn + 1)) (n / base) ≡ turned * base ^ (digits - turn) + reversed base (digits - turn) n
digit_turned base digits turn turned n within =
    by (digits - (turn + 1)) ∙ ap (λ k. turned * base ^ k + reversed base k n) (sym (left_after digits turn within)) where
      by : (k : ℕ) → (turned * base + n % base) * base ^ k + reversed base k (n / base) ≡ turned * base ^ suc k + reversed base (suc k) n
      by k =
          let p = ap (λ x. turned * x) (pow-suc base k) in
          let r : reversed base (suc k) n ≡ (n % base) * base ^ k + reversed base k (n / base) = refl in
          omega (arith, p, r)

-- and there is room for it
pub turned_within : (base turn turned n : ℕ) → 0 < base → turned < base ^ turn → turned * base + n % base < base ^ (turn + 1)
turned_within base turn turned n some within =
    let below = mul-add-lt turned base (n % base) (base ^ turn) within (mod_below n base some) in
    let e : base ^ (turn + 1) ≡ base ^ turn * base = ap (λ k. base ^ k) (omega arith) ∙ pow-suc base turn in
    omega (arith, below, e)

-- so it fits in as many bits as all the digits do
pub turned_fits : (base digits turn turned n : ℕ) → 0 < base → turn < digits → base ^ digits ≤ 2 ^ 64 → turned < base ^ turn → turned * base + n % base < 2 ^ 64
turned_fits base digits turn turned n some more room within =
    let one = turned_within base turn turned n some within in
    let all : base ^ (turn + 1) ≤ base ^ digits = pow-le-pow_right some (omega (arith, more)) in
    omega (arith, one, all, room)

-- an integer has as many values where its width is at most 64
pub width_kept : (bits n : ℕ) → wrapped (width_at bits) n ≡ wrapped bits n
width_kept bits n = pick (cases_lt bits 64) where
  pick : (bits < 64) ⊎ (64 ≤ bits) → wrapped (width_at bits) n ≡ wrapped bits n
  pick (inl lt) = let small : nat_lt bits 64 ≡ true = grind (arith, lt) in ap (λ b. wrapped (if b then bits else 64) n) small
  pick (inr le) =
      let large : nat_lt bits 64 ≡ false = grind (arith, le) in
      ap (λ b. wrapped (if b then bits else 64) n) large ∙ ap (λ b. n % (if b then 2 ^ bits else 2 ^ 64)) (sym large)

-- bytes of at most 64 bits
pub bytes_fit : (bits : ℕ) → bits ≤ 64 → 256 ^ (bits / 8) ≤ 2 ^ 64
bytes_fit bits within = pow-le-pow_right {n = 256} (omega arith) {i = bits / 8} {j = 8} (omega (arith, within))

-- and the bits
pub bits_fit : (bits : ℕ) → bits ≤ 64 → 2 ^ bits ≤ 2 ^ 64
bits_fit bits within = pow-le-pow_right {n = 2} (omega arith) {i = bits} {j = 64} within
