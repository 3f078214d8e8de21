-- Tokens that are dealt out.
use Rattle.std.proofs.Common.{ℕ, suc, ◌+◌, List, [], ◌∷◌, ◌++◌, length, subst, arith}
use Rattle.heap_words.specs.Tokens.{Holding, Shared, IsFresh, AreFresh}

pub fresh_more : (w : Shared) (first : ℕ) (ts : List Holding) (t : Holding) → AreFresh w first ts → IsFresh w (first + length ts) t → AreFresh w first (ts ++ t ∷ [])
fresh_more w first [] t h k = (subst (λ (n : ℕ). IsFresh w n t) (omega arith) k, tt)
fresh_more w first (x ∷ ts) t h k = (h.0, fresh_more w (suc first) ts t h.1 (subst (λ (n : ℕ). IsFresh w n t) (omega arith) k))
