-- A number that is wrapped to some bits fits them.
use Rattle.std.proofs.Common.{◌≡◌, ℕ, ◌<◌, ◌≤◌, ◌^◌, true, false, subst, arith, inl, inr}
use Rattle.std.proofs.lemmas.Nat.{mod_below, pow_below, pow_pos}
use Rattle.std.proofs.lemmas.Bool.{cases_lt}
use Rattle.std.specs.Prelude.{◌⊎◌, ◌%◌, nat_lt}
use Rattle.machine.specs.Kinds.{wrapped}

-- whatever the number
pub wrapped_fits : (bits n : ℕ) → wrapped bits n < 2 ^ bits
wrapped_fits bits n = pick (cases_lt bits 64) where
  pick : (bits < 64) ⊎ (64 ≤ bits) → wrapped bits n < 2 ^ bits
  pick (inl lt) = let small : nat_lt bits 64 ≡ true = grind (arith, lt) in rw small (mod_below n (2 ^ bits) (pow_pos bits))
  pick (inr le) =
      let b : n % 2 ^ 64 < 2 ^ 64 = mod_below n (2 ^ 64) (pow_pos 64) in
      let large : nat_lt bits 64 ≡ false = grind (arith, le) in
      rw large (above (cases_lt 64 bits) b) where
        above : (64 < bits) ⊎ (bits ≤ 64) → n % 2 ^ 64 < 2 ^ 64 → n % 2 ^ 64 < 2 ^ bits
        above (inl more) b = let q = pow_below 64 bits more in omega (arith, q, b)
        above (inr less) b = let e : 64 ≡ bits = omega (arith, le, less) in subst (λ x. n % 2 ^ 64 < 2 ^ x) e b
