-- Sets of words of a cell as the bits of a number.
use Rattle.std.specs.Prelude.{ℕ, zero, suc, ◌≡◌, ◌+◌, ◌*◌, ◌/◌, ◌%◌, ◌==◌, ◌<◌, ◌^◌, Bool, true, false, if◌then◌else◌, List, [], ◌∷◌}
use Rattle.std.proofs.Common.{refl, ◌∙◌, arith}
use native.Mathlib.Nat.{pow-suc}

-- whether each of the lowest bits of a number is set, the lowest first
abbrev pub lowest_bits : (count bits : ℕ) → List Bool
lowest_bits zero bits = []
lowest_bits (suc count) bits = (bits % 2 == 1) ∷ lowest_bits count (bits / 2)

-- the set of those words whose bits are set
unfoldable pub set_of_bits : ℕ → List Bool
set_of_bits bits = lowest_bits 64 bits

-- the number with the bits of the words of a set
abbrev pub bits_of_set : List Bool → ℕ
bits_of_set [] = 0
bits_of_set (has ∷ rest) = (if has then 1 else 0) + 2 * bits_of_set rest

bit_of : (bits rest : ℕ) → bits < 2 → (if bits == 1 then 1 else 0) + rest ≡ bits + rest
bit_of zero rest lt = refl
bit_of (suc zero) rest lt = refl
bit_of (suc (suc bits)) rest lt = absurd (omega (arith, lt))

lowest_again : (count bits : ℕ) → bits < 2 ^ count → bits_of_set (lowest_bits count bits) ≡ bits
lowest_again zero bits lt = omega (arith, lt)
lowest_again (suc count) bits lt =
    let half = lowest_again count (bits / 2) (omega (arith, lt, pow-suc 2 count)) in
    bit_of (bits % 2) _ (omega arith) ∙ omega (arith, half)

-- the set of a number's bits has the bits of that number
pub bits_again : (bits : ℕ) → bits < 2 ^ 64 → bits_of_set (set_of_bits bits) ≡ bits
unfolding set_of_bits
bits_again bits lt = lowest_again 64 bits lt
