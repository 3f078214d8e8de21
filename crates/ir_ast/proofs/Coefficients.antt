-- The coefficients of a write, one after another.
use Rattle.std.proofs.Common.{◌≡◌, ℕ, ◌-◌, ◌<◌, ◌≤◌, List, [], ◌∷◌, length, get_or, take, drop, take_all, refl, sym, ap, arith}
use Rattle.std.specs.Int.{w32, from_le_bytes}
use Rattle.ir_ast.specs.declared.keyed_hasher.KeyedHasher.{KeyedHasher}
use Rattle.ir_ast.specs.KeyedHash.{step, write}

-- the first four bytes are the first coefficient
pub four : (s : KeyedHasher) (bytes : List ℕ) → 4 ≤ length bytes
    → write s bytes ≡ write (step s (from_le_bytes w32 (get_or bytes 0 0 ∷ get_or bytes 1 0 ∷ get_or bytes 2 0 ∷ get_or bytes 3 0 ∷ []))) (take (length bytes - 4) (drop 4 bytes))
unfolding write
four s [] h = absurd (omega arith)
four s (a ∷ []) h = absurd (omega arith)
four s (a ∷ b ∷ []) h = absurd (omega arith)
four s (a ∷ b ∷ c ∷ []) h = absurd (omega arith)
four s (a ∷ b ∷ c ∷ d ∷ rest) h = ap (write (step s (from_le_bytes w32 (a ∷ b ∷ c ∷ d ∷ [])))) (sym (take_all (length (a ∷ b ∷ c ∷ d ∷ rest) - 4) rest (omega arith)))

-- where there are fewer than four, the first byte is
pub one : (s : KeyedHasher) (bytes : List ℕ) → 1 ≤ length bytes → length bytes < 4 → write s bytes ≡ write (step s (get_or bytes 0 0)) (take (length bytes - 1) (drop 1 bytes))
unfolding write
one s [] h k = absurd (omega arith)
one s (a ∷ []) h k = refl
one s (a ∷ b ∷ []) h k = refl
one s (a ∷ b ∷ c ∷ []) h k = refl
one s (a ∷ b ∷ c ∷ d ∷ rest) h k = absurd (omega arith)

-- and then still fewer are left
pub fewer : (bytes : List ℕ) → 1 ≤ length bytes → length bytes < 4 → length (take (length bytes - 1) (drop 1 bytes)) < 4
fewer [] h k = absurd (omega arith)
fewer (a ∷ []) h k = omega arith
fewer (a ∷ b ∷ []) h k = omega arith
fewer (a ∷ b ∷ c ∷ []) h k = omega arith
fewer (a ∷ b ∷ c ∷ d ∷ rest) h k = absurd (omega arith)

-- and without a byte nothing is written
pub none : (s : KeyedHasher) (bytes : List ℕ) → length bytes < 1 → write s bytes ≡ s
unfolding write
none s [] h = refl
none s (a ∷ rest) h = absurd (omega arith)
