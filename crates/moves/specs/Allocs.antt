-- The first move of an alloc.
use Rattle.std.proofs.Common.{◌≡◌, ◌≢◌, ◌<◌, ℕ, zero, suc, Some, List, [], ◌∷◌, length, slice_index, refl, arith}
use Rattle.lemmas.specs.Numbers.{test_no}
use Rattle.pools.specs.Heap.{Setup}
use Rattle.colours.specs.Mutator.{Ready}
use Rattle.runs.specs.Machine.{WordValue, Alloc}
use Rattle.runs.specs.Moves.{Works}
use Rattle.runs.specs.NextMoves.{Sight, next_move, try_of}

-- a number that counts cells is that of a pool
pub within : (counts : List ℕ) (layout : ℕ) → slice_index counts layout ≢ 0 → layout < length counts
within [] layout n = absurd (n refl)
within (count ∷ counts) zero n = omega arith
within (count ∷ counts) (suc layout) n = let rest = within counts layout n in omega arith

-- without a cell it is a local one
pub no_cell : (s : Setup) (h : Sight) (stage : ℕ) (roots : List WordValue) (old : WordValue) (layout : ℕ) → slice_index s.pools layout ≡ 0
    → next_move s h stage roots old (Alloc layout) Ready ≡ Some Works
no_cell s h stage roots old layout z = rw z refl

-- else the try of a cell
pub first_try : (s : Setup) (h : Sight) (stage : ℕ) (roots : List WordValue) (old : WordValue) (layout : ℕ) → slice_index s.pools layout ≢ 0
    → next_move s h stage roots old (Alloc layout) Ready ≡ Some (try_of h (h.claim layout []))
first_try s h stage roots old layout n = let e = test_no (slice_index s.pools layout) 0 n in rw e refl
