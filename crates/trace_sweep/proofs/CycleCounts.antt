-- The counts of sweeps of a collector alone, before each of its steps and after the last.
use Rattle.std.proofs.Common.{◌≡◌, ℕ, List, [], ◌∷◌, refl}
use Rattle.pools.specs.declared.word_kind.WordKind.TheVariants.{Integer}
use Rattle.pools.specs.Heap.{Setup, kind_of, layout_of}
use Rattle.trace_sweep.specs.Collecting.{Collecting, plan, begun, moved}
use Rattle.trace_sweep.specs.Cycles.{swept}

-- the counts where the words of the steps hold these numbers
abbrev counts : Collecting → List ℕ → List ℕ
counts c [] = swept c.heap c.posted c.at ∷ []
counts c (found ∷ rest) = swept c.heap c.posted c.at ∷ counts (moved c found) rest

-- without cells a cycle is over with its trace: three posts, the mark of the globals, a pass that meets grey and a clean one
empty_heap : counts (begun (plan 0 [] [] [])) (0 ∷ 0 ∷ 1 ∷ 0 ∷ 2 ∷ 2 ∷ 3 ∷ 0 ∷ [])
    ≡ 0 ∷ 0 ∷ 0 ∷ 0 ∷ 0 ∷ 0 ∷ 0 ∷ 1 ∷ 1 ∷ []
unfolding kind_of layout_of
empty_heap = refl

-- one cell of one word
abbrev one_cell : Setup
one_cell = plan 0 ((Integer 64 ∷ []) ∷ []) (1 ∷ []) []

-- the sweep finds the last cell white: the look counts, before its word is cleared
white_cell : counts (begun one_cell) (0 ∷ 0 ∷ 1 ∷ 0 ∷ 2 ∷ 2 ∷ 1 ∷ 3 ∷ 1 ∷ 1 ∷ 0 ∷ 0 ∷ 3 ∷ [])
    ≡ 0 ∷ 0 ∷ 0 ∷ 0 ∷ 0 ∷ 0 ∷ 0 ∷ 0 ∷ 0 ∷ 0 ∷ 1 ∷ 1 ∷ 1 ∷ 1 ∷ []
unfolding kind_of layout_of
white_cell = refl

-- and it finds it black, or free: the look counts as well
kept_cell : counts (begun one_cell) (0 ∷ 0 ∷ 1 ∷ 0 ∷ 2 ∷ 2 ∷ 3 ∷ 3 ∷ 3 ∷ 3 ∷ 3 ∷ [])
    ≡ 0 ∷ 0 ∷ 0 ∷ 0 ∷ 0 ∷ 0 ∷ 0 ∷ 0 ∷ 0 ∷ 0 ∷ 1 ∷ 1 ∷ []
unfolding kind_of layout_of
kept_cell = refl
