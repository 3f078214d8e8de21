-- The ends of pools rise, and the pool of a cell is the first that ends after it.
use Rattle.std.proofs.Math.Seq.{take-suc}
use Rattle.std.proofs.Common.{add-one, take, slice_index, ◌≡◌, ℕ, zero, suc, ◌+◌, ◌-◌, ◌<◌, ◌≤◌, true, false, nat_lt, nat_le, List, [], ◌∷◌, ◌++◌, length, slice_index_or, sum, refl, ap, arith, ◌∙◌, subst}
use Rattle.std.proofs.lemmas.Bool.Decides.{nat_tests}
use Rattle.std.specs.List.Sorted.{IsPartitionPoint}
use Rattle.lemmas.specs.Lists.{sum_cons}
use Rattle.pools.specs.Heap.{layout_at, cells_in}
use Rattle.pools.specs.Pools.{ends_from, first_cell, ArePools}

pub ends-length : (first : ℕ) (counts : List ℕ) → length (ends_from first counts) ≡ length counts
ends-length first [] = refl
ends-length first (count ∷ counts) = omega (arith, ends-length (first + count) counts)

-- no end is before the first number
ends_above : (first : ℕ) (counts : List ℕ) (j d : ℕ) → j < length (ends_from first counts) → first ≤ slice_index_or (ends_from first counts) j d
ends_above first [] j d lt = omega arith
ends_above first (count ∷ counts) zero d lt = omega arith
ends_above first (count ∷ counts) (suc j) d lt = omega (arith, ends_above (first + count) counts j d (omega arith))

pub ends_rise : (first : ℕ) (counts : List ℕ) (i j d : ℕ) → i ≤ j → j < length (ends_from first counts)
    → slice_index_or (ends_from first counts) i d ≤ slice_index_or (ends_from first counts) j d
ends_rise first [] i j d le lt = omega arith
ends_rise first (count ∷ counts) zero zero d le lt = omega arith
ends_rise first (count ∷ counts) zero (suc j) d le lt = ends_above (first + count) counts j d (omega arith)
ends_rise first (count ∷ counts) (suc i) zero d le lt = omega arith
ends_rise first (count ∷ counts) (suc i) (suc j) d le lt = ends_rise (first + count) counts i j d (omega arith) (omega arith)

-- the ends of a row of pools with one more
pub ends_push : (first : ℕ) (counts : List ℕ) (count : ℕ) → ends_from first (counts ++ count ∷ []) ≡ ends_from first counts ++ (first + sum counts + count) ∷ []
ends_push first [] count = ap (λ n. n ∷ []) (omega arith)
ends_push first (c ∷ counts) count =
    let parts : sum (c ∷ counts) ≡ c + sum counts = sum_cons c counts in
    let e : first + c + sum counts + count ≡ first + sum (c ∷ counts) + count = omega arith in
    ap (λ l. (first + c) ∷ l) (ends_push (first + c) counts count ∙ ap (λ n. ends_from (first + c) counts ++ n ∷ []) e)

-- the place up to which the ends are at most the cell's number is its layout
pub point_is_layout : (first : ℕ) (counts : List ℕ) (cell k : ℕ) → first ≤ cell → cell < first + sum counts
    → ((i : ℕ) (d : ℕ) → 0 ≤ i → i < k → nat_le (slice_index_or (ends_from first counts) i d) cell ≡ true)
    → ((i : ℕ) (d : ℕ) → k ≤ i → i < length (ends_from first counts) → nat_le (slice_index_or (ends_from first counts) i d) cell ≡ false)
    → (k ≡ layout_at counts (cell - first)) × (layout_at counts (cell - first) < length counts)
point_is_layout first [] cell k le lt below above = omega arith
point_is_layout first (count ∷ counts) cell zero le lt below above =
    let afterwards : nat_le (first + count) cell ≡ false = above 0 0 (omega arith) (omega arith) in
    let here : nat_lt (cell - first) count ≡ true = grind (arith, nat_tests) in
    rw here (refl, omega arith)
point_is_layout first (count ∷ counts) cell (suc k) le lt below above =
    let before : nat_le (first + count) cell ≡ true = below 0 0 (omega arith) (omega arith) in
    let at_most : first + count ≤ cell = grind (arith, nat_tests) in
    let further : nat_lt (cell - first) count ≡ false = grind (arith, nat_tests) in
    let place : cell - first - count ≡ cell - (first + count) = omega arith in
    let parts : sum (count ∷ counts) ≡ count + sum counts = sum_cons count counts in
    let rest = point_is_layout (first + count) counts cell k at_most (omega arith) (λ i d z lt. below (suc i) d (omega arith) (omega arith)) (λ i d ge lt. above (suc i) d (omega arith) (omega arith)) in
    rw (further, place) (ap suc rest.0, omega (arith, rest.1))

pub pool_at : (counts ends : List ℕ) (cell k : ℕ) → ArePools counts ends → 0 < cell → cell < cells_in counts
    → IsPartitionPoint (λ end. nat_le end cell ≡ true) (λ end. nat_le end cell ≡ false) ends k
    → (k ≡ layout_at counts (cell - 1)) × (layout_at counts (cell - 1) < length counts)
pool_at counts ends cell k pools positive within point =
    let P : List ℕ → Type 0 = λ l. IsPartitionPoint (λ end. nat_le end cell ≡ true) (λ end. nat_le end cell ≡ false) l k in
    let at : P (ends_from 1 counts) = subst P pools.ends_are point in
    point_is_layout 1 counts cell k (omega arith) (omega arith) at.0 at.1

-- one pool more
pub ends_one_more : (counts : List ℕ) (i end : ℕ) → i < length counts → end ≡ cells_in (take i counts)
    → ends_from 1 (take (i + 1) counts) ≡ ends_from 1 (take i counts) ++ (end + slice_index counts i) ∷ []
ends_one_more counts i end lt is =
    let afterwards : 1 + sum (take i counts) ≡ end = omega arith in
    let more : take (suc i) counts ≡ take i counts ++ (slice_index counts i ∷ []) = take-suc counts i 0 lt in
    rw (add-one, more, ends_push, afterwards) refl

-- ---- where a pool begins and ends

pub end_at : (first : ℕ) (counts : List ℕ) (layout : ℕ) → layout < length counts
    → slice_index (ends_from first counts) layout ≡ first + sum (take layout counts) + slice_index counts layout
end_at first [] layout lt = omega arith
end_at first (count ∷ counts) zero lt = omega arith
end_at first (count ∷ counts) (suc layout) lt =
    let parts : sum (count ∷ take layout counts) ≡ count + sum (take layout counts) = sum_cons count (take layout counts) in
    let rest = end_at (first + count) counts layout (omega arith) in
    omega arith

-- the cells from a pool's first on, as many as it has, are those of its layout
pub in_pool : (counts : List ℕ) (layout place : ℕ) → layout < length counts → sum (take layout counts) ≤ place → place < sum (take layout counts) + slice_index counts layout
    → layout_at counts place ≡ layout
in_pool [] layout place lt ge before = omega arith
in_pool (count ∷ counts) zero place lt ge before = let here : nat_lt place count ≡ true = grind (arith, nat_tests) in rw here refl
in_pool (count ∷ counts) (suc layout) place lt ge before =
    let parts : sum (count ∷ take layout counts) ≡ count + sum (take layout counts) = sum_cons count (take layout counts) in
    let further : nat_lt place count ≡ false = grind (arith, nat_tests) in
    rw further (ap suc (in_pool counts layout (place - count) (omega arith) (omega arith) (omega arith)))

pub pool_ends : (counts : List ℕ) (layout : ℕ) → layout < length counts → sum (take layout counts) + slice_index counts layout ≤ sum counts
pool_ends [] layout lt = omega arith
pool_ends (count ∷ counts) zero lt = let parts = sum_cons count counts in omega arith
pool_ends (count ∷ counts) (suc layout) lt =
    let parts : sum (count ∷ take layout counts) ≡ count + sum (take layout counts) = sum_cons count (take layout counts) in
    let all : sum (count ∷ counts) ≡ count + sum counts = sum_cons count counts in
    let rest = pool_ends counts layout (omega arith) in
    omega arith

pub first_from_end : (counts ends : List ℕ) (layout : ℕ) → ends ≡ ends_from 1 counts → layout < length counts
    → (layout < length ends) × (slice_index ends layout ≡ first_cell counts layout + slice_index counts layout)
first_from_end counts ends layout are lt =
    let end = end_at 1 counts layout lt in
    let long = ends-length 1 counts in
    rw are (omega arith, omega arith)
