-- The tokens of a heap before its first step.
use Rattle.std.specs.Prelude.{ℕ, suc, ◌≡◌, false, MatchBool, List, [], ◌∷◌, slice_index_or}
use Rattle.heap_words.specs.Tokens.{Shared, Holding}
use Rattle.heap_table.specs.Holders.{Holder, IsOf, MayCall, MayBegin}

-- the token of a thread that has made no step
abbrev pub fresh_holder : Holding → (thread : ℕ) → Holder
fresh_holder token thread = record { table = token.table; setup = token.setup; thread = thread; log = [] }

-- a late thread may begin, another one may call
abbrev pub MayStart : Shared → (thread : ℕ) → Holder → Type 0
MayStart heap thread token = MatchBool (slice_index_or heap.setup.late thread false) (MayBegin heap token) (MayCall heap token)

-- the token is this thread's, which has made no step
pub record IsNew (heap : Shared) (thread : ℕ) (token : Holder) : Type 0 where
  pub of : IsOf heap token
  pub number : token.thread ≡ thread
  pub log : token.log ≡ []
  pub start : MayStart heap thread token

-- the tokens of the threads from this one on
abbrev pub AreNew : Shared → (first : ℕ) → List Holder → Type 0
AreNew heap first [] = Unit {0}
AreNew heap first (token ∷ tokens) = IsNew heap first token × AreNew heap (suc first) tokens
