-- The tokens of a new heap, its globals and cells, and what its calls find.
use Rattle.std.proofs.Common.{◌≡◌, ◌<◌, ◌^◌, ℕ, suc, ◌+◌, false, Bool, Some, List, [], ◌∷◌, ◌++◌, length, sym, ap, subst, arith}
use Rattle.std.specs.Prelude.{MatchBool, slice_get, slice_index_or}
use Rattle.pools.specs.declared.word_kind.WordKind.{WordKind}
use Rattle.pools.specs.declared.word_kind.WordKind.TheVariants.{Reference}
use Rattle.pools.specs.Heap.{Setup, cells, cells_in, kind_of}
use Rattle.colours.specs.Calls.{Todo, Reading, Replacing, Trying, Polling, Beginning, Arriving, Checking, Steps, IsAnswer}
use Rattle.colours.specs.Steps.{Step}
use Rattle.heap_words.specs.Tokens.{Shared}
use Rattle.heap_table.specs.Holders.{Holder, IsOf, MayCall, MayBegin, IsNow}
use Rattle.heap_table.specs.Opening.{IsNew, AreNew}
use Rattle.heap_table.specs.Closing.{AreOf}

-- the last of the tokens
pub last_new : (heap : Shared) (first : ℕ) (tokens : List Holder) (token : Holder) → AreNew heap first (tokens ++ token ∷ []) → AreNew heap first tokens × IsNew heap (first + length tokens) token
last_new heap first [] token h = (tt, subst (λ (n : ℕ). IsNew heap n token) (omega arith) h.0)
last_new heap first (x ∷ tokens) token h = let k = last_new heap (suc first) tokens token h.1 in ((h.0, k.0), subst (λ (n : ℕ). IsNew heap n token) (omega arith) k.1)

pub may_call : (heap : Shared) (n : ℕ) (token : Holder) → heap.setup.late ≡ [] → IsNew heap n token → MayCall heap token
may_call heap n token e new = subst (λ (late : List Bool). MatchBool (slice_index_or late n false) (MayBegin heap token) (MayCall heap token)) e new.start

-- a token of the same table and setup is of the same heap
pub still_of : (heap : Shared) (before after : Holder) (log : List Step) → IsOf heap before → IsNow before log after → IsOf heap after
still_of heap before after log of e = subst (IsOf heap) (sym e) record { table = of.table; setup = of.setup }

-- the tokens of a new heap are of it
pub are_of : (heap : Shared) (first : ℕ) (tokens : List Holder) → AreNew heap first tokens → AreOf heap tokens
are_of heap first [] h = tt
are_of heap first (token ∷ tokens) h = (h.0.of, are_of heap (suc first) tokens h.1)

-- the first global is a reference
pub first_global : (s : Setup) (others : List WordKind) → s.globals ≡ Reference 0 ∷ others → kind_of s 0 0 ≡ Some (Reference 0)
unfolding kind_of
first_global s others e = ap (λ (globals : List WordKind). slice_get globals 0) e

-- and the second
pub second_global : (s : Setup) (first : WordKind) (others : List WordKind) → s.globals ≡ first ∷ Reference 0 ∷ others → kind_of s 0 1 ≡ Some (Reference 0)
unfolding kind_of
second_global s first others e = ap (λ (globals : List WordKind). slice_get globals 1) e

-- the globals' cell and a pool of two
pub three_cells : (s : Setup) → s.pools ≡ 2 ∷ [] → cells s ≡ 3
three_cells s e = ap (λ (pools : List ℕ). cells_in pools) e

-- the globals' cell and a pool of four
pub five_cells : (s : Setup) → s.pools ≡ 4 ∷ [] → cells s ≡ 5
five_cells s e = ap (λ (pools : List ℕ). cells_in pools) e

-- a small number fits each operation
pub small_fits : (todo : Todo) (found : ℕ) → found < 2 ^ 32 → IsAnswer todo found
small_fits (Reading cell word) found small = tt
small_fits (Replacing cell word new) found small = small
small_fits (Trying cell cells) found small = tt
small_fits (Polling roots) found small = tt
small_fits Beginning found small = tt
small_fits (Arriving stage) found small = tt
small_fits (Checking stage) found small = tt
small_fits (Steps steps) found small = tt
