-- A late thread before it has begun.
use Rattle.std.specs.Prelude.{ℕ, ◌≤◌, length}
use Rattle.pools.specs.Heap.{Setup}
use Rattle.runs.specs.Machine.{Machine}
use Rattle.runs.specs.RealThreads.{IsRealShare}
use Rattle.heap_words.specs.Tokens.{Shared}
use Rattle.heap_table.specs.Holders.{Holder, MayBegin, IsNow}

-- the token is the thread's, which is absent after tries of at least this number of moves, and will begin in this state
pub record HasTried (m : Machine) (Fits : Setup → m.State → Type 0) (heap : Shared) (first : Holder) (start : m.State) (moves : ℕ) (token : Holder) : Type 0 where
  pub token_is : IsNow first token.log token
  pub absent : MayBegin heap token
  pub fits : Fits token.setup start
  pub real : IsRealShare token.setup m token.thread start token.log start
  pub long : moves ≤ length real.share
