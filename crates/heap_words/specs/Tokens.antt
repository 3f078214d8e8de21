-- Tokens and shared words, as contracts see them.
use Rattle.std.specs.Prelude.{ℕ, suc, ◌≡◌, List, [], ◌∷◌}
use Rattle.atomic_table.specs.Seated.{TableId}
use Rattle.pools.specs.Heap.{Setup}
use Rattle.heap_rule.specs.View.{Share, OfThread}

-- a token: the table that it is of, how its heap was set up, and its actor's share
pub record Holding : Type 0 where
  pub table : TableId
  pub setup : Setup
  pub share : Share

-- the words of a heap: how it was set up, and the table where they lie
pub record Shared : Type 0 where
  pub setup : Setup
  pub table : TableId

-- the token is of these words
pub record IsOf (words : Shared) (token : Holding) : Type 0 where
  pub table : token.table ≡ words.table
  pub setup : token.setup ≡ words.setup

-- the same token, whose share is this
abbrev pub IsNow : Holding → Share → Holding → Type 0
IsNow before share after = after ≡ record { table = before.table; setup = before.setup; share = share }

-- the token of a thread of these words that has made no step
abbrev pub IsFresh : Shared → (thread : ℕ) → Holding → Type 0
IsFresh words thread token = IsOf words token × (token.share ≡ OfThread thread [])

-- the tokens of the threads from this one on
abbrev pub AreFresh : Shared → (first : ℕ) → List Holding → Type 0
AreFresh words first [] = Unit {0}
AreFresh words first (token ∷ tokens) = IsFresh words first token × AreFresh words (suc first) tokens
