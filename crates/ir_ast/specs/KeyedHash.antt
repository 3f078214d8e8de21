-- What a keyed hasher computes.
use Rattle.std.specs.Prelude.{ℕ, ◌+◌, ◌-◌, ◌*◌, ◌/◌, ◌%◌, ◌^◌, List, [], ◌∷◌, bit_and}
use Rattle.std.specs.Hash.{le_bytes}
use Rattle.std.specs.Hash.DefaultHasher as sip
use Rattle.std.specs.Int.{w32, from_le_bytes}
use Rattle.ir_ast.specs.declared.hash_key.HashKey.{HashKey}
use Rattle.ir_ast.specs.declared.keyed_hasher.KeyedHasher.{KeyedHasher}

-- the key that a state of a hash gives after a text
module _ {S : Type 0} (write : S → List ℕ → S) (finish : S → ℕ) where
  abbrev pub key_after : S → List ℕ → HashKey
  key_after state text =
      let one = write state text in
      let two = write one (1 ∷ []) in
      let three = write two (2 ∷ []) in
      record { point = finish one / 2 ^ 4; factor = finish two / 2 ^ 3; offset = finish three / 2 ^ 3 }

-- the key of the tables that a text fills
abbrev pub key_of : List ℕ → HashKey
key_of text = key_after sip.write sip.finish sip.initial text

-- the key of tables with this key to which a further text adds
abbrev pub key_with : HashKey → List ℕ → HashKey
key_with key text = key_after sip.write sip.finish (sip.write (sip.write (sip.write sip.initial (le_bytes 8 key.point)) (le_bytes 8 key.factor)) (le_bytes 8 key.offset)) text

-- before the first write
abbrev pub start : HashKey → KeyedHasher
start key = record { sum = 1; point = key.point; factor = key.factor; offset = key.offset }

-- the low 61 bits and the bits above them
unfoldable pub folded : ℕ → ℕ
folded wide = (bit_and wide (2 ^ 61 - 1) + bit_and (wide / 2 ^ 61) (2 ^ 64 - 1)) % 2 ^ 64

-- with one more coefficient
unfoldable pub step : KeyedHasher → ℕ → KeyedHasher
step s coefficient = record s { sum = (folded (s.sum * s.point) + coefficient) % 2 ^ 64 }

-- after a write, of which each four bytes are a coefficient, and then each byte
unfoldable pub write : KeyedHasher → List ℕ → KeyedHasher
write s (a ∷ b ∷ c ∷ d ∷ rest) = write (step s (from_le_bytes w32 (a ∷ b ∷ c ∷ d ∷ []))) rest
write s (a ∷ rest) = write (step s a) rest
write s [] = s

-- the hash after these writes: the value of the polynomial times the factor, and the offset
unfoldable pub finish : KeyedHasher → ℕ
finish s = folded ((folded (s.sum * s.factor) + s.offset) % 2 ^ 64)
