-- The cells of a pool from a hint up, and then from its first cell up to the hint, are each cell of the pool once.
use Rattle.std.proofs.Common.{◌≡◌, ◌≤◌, ◌<◌, inl, inr, ℕ, zero, suc, ◌+◌, ◌-◌, List, [], ◌∷◌, ◌++◌, length, slice_index, refl, ap, ◌∙◌, arith}
use Rattle.std.proofs.lemmas.List.{get_or_append_left}
use Rattle.lemmas.specs.Lists.{IsIn, in_either}
use Rattle.pools.specs.Heap.{Setup, IsOfLayout, layout_of}
use Rattle.pools.specs.Pools.{first_cell}
use Rattle.pools.specs.Ends.{in_pool, pool_ends}
use Rattle.colours.specs.Calls.{cells_up, cells_from, AreApart, IsPoolInOrder}

-- ---- stretches of cells

-- a stretch has `count` cells
up-length : (first count : ℕ) → length (cells_up first count) ≡ count
up-length first zero = refl
up-length first (suc count) = ap suc (up-length (suc first) count)

-- a cell of it lies in its bounds
up-within : (first count cell : ℕ) → IsIn cell (cells_up first count) → (first ≤ cell) × (cell < first + count)
up-within first zero cell a = absurd a
up-within first (suc count) cell (inl e) = (omega (arith, e), omega (arith, e))
up-within first (suc count) cell (inr a) = let w = up-within (suc first) count cell a in let low = w.0 in let high = w.1 in (omega (arith, low), omega (arith, high))

-- each of its cells is another
up-apart : (first count : ℕ) → AreApart (cells_up first count)
up-apart first zero = tt
up-apart first (suc count) = (λ a. let low = (up-within (suc first) count first a).0 in absurd (omega (arith, low)), up-apart (suc first) count)

-- ---- two lists

both-length : (xs ys : List ℕ) → length (xs ++ ys) ≡ length xs + length ys
both-length [] ys = omega arith
both-length (x ∷ xs) ys = let rest = both-length xs ys in omega (arith, rest)

-- lists without a cell in common are apart
both-apart : (xs ys : List ℕ) → AreApart xs → AreApart ys → ((cell : ℕ) → IsIn cell xs → IsIn cell ys → ⊥) → AreApart (xs ++ ys)
both-apart [] ys p q none = q
both-apart (x ∷ xs) ys p q none = (
  λ a. elim (in_either x xs ys a) [ inl b ↦ p.0 b | inr b ↦ none x (inl refl) b ],
  both-apart xs ys p.1 q (λ cell a b. none cell (inr a) b),
)

-- ---- a pool

-- a cell between its first and its last is of its layout
of_place : (s : Setup) (layout cell : ℕ) → layout < length s.pools → first_cell s.pools layout ≤ cell → cell < first_cell s.pools layout + slice_index s.pools layout → IsOfLayout s layout cell
unfolding layout_of
of_place s layout cell is_layout low high =
    let ends = pool_ends s.pools layout is_layout in
    (omega (arith, low), omega (arith, ends, high), in_pool s.pools layout (cell - 1) is_layout (omega (arith, low)) (omega (arith, low, high)))

-- from a hint on, each cell once
pub pool_by_hint : (s : Setup) (layout hint : ℕ) → layout < length s.pools → hint ≤ slice_index s.pools layout
    → IsPoolInOrder s layout (cells_from (first_cell s.pools layout) (slice_index s.pools layout) hint)
pool_by_hint s layout hint is_layout le = record {
  all =
      let whole = both-length (cells_up (first + hint) (count - hint)) (cells_up first hint) in
      let upper = up-length (first + hint) (count - hint) in
      let lower = up-length first hint in
      omega (arith, le, whole, upper, lower);
  of_layout = λ cell a. elim (in_either cell (cells_up (first + hint) (count - hint)) (cells_up first hint) a) [
    | inl b ↦ let w = up-within (first + hint) (count - hint) cell b in let low = w.0 in let high = w.1 in of_place s layout cell is_layout (omega (arith, low)) (omega (arith, high, le))
    | inr b ↦ let w = up-within first hint cell b in let low = w.0 in let high = w.1 in of_place s layout cell is_layout low (omega (arith, high, le))
  ];
  apart = both-apart (cells_up (first + hint) (count - hint)) (cells_up first hint) (up-apart (first + hint) (count - hint)) (up-apart first hint)
      (λ cell a b. let low = (up-within (first + hint) (count - hint) cell a).0 in let high = (up-within first hint cell b).1 in absurd (omega (arith, low, high)));
}
  where
    first : ℕ
    first = first_cell s.pools layout

    count : ℕ
    count = slice_index s.pools layout

-- ---- places in the order

-- a cell of a stretch, by its place in it
up-at : (first count k : ℕ) → k < count → slice_index (cells_up first count) k ≡ first + k
up-at first zero k lt = absurd (omega (arith, lt))
up-at first (suc count) zero lt = omega arith
up-at first (suc count) (suc k) lt = let rest = up-at (suc first) count k (omega (arith, lt)) in omega (arith, rest)

-- what comes after the first of two lists is of the second
after-first : (xs ys : List ℕ) (k j : ℕ) → j ≡ length xs + k → slice_index (xs ++ ys) j ≡ slice_index ys k
after-first [] ys k j e = ap (slice_index ys) (omega (arith, e))
after-first (x ∷ xs) ys k zero e = absurd (omega (arith, e))
after-first (x ∷ xs) ys k (suc j) e = after-first xs ys k j (omega (arith, e))

-- from a hint on, up to the pool's end
pub from-above : (first count hint k : ℕ) → hint + k < count → slice_index (cells_from first count hint) k ≡ first + (hint + k)
from-above first count hint k lt =
    let upper = up-length (first + hint) (count - hint) in
    let within : k < length (cells_up (first + hint) (count - hint)) = omega (arith, upper, lt) in
    let at = up-at (first + hint) (count - hint) k (omega (arith, lt)) in
    get_or_append_left (cells_up (first + hint) (count - hint)) (cells_up first hint) 0 k within ∙ omega (arith, at)

-- and then from the first cell on
pub from-below : (first count hint k : ℕ) → hint ≤ count → count ≤ hint + k → k < count → slice_index (cells_from first count hint) k ≡ first + (hint + k - count)
from-below first count hint k le past few =
    let upper = up-length (first + hint) (count - hint) in
    after-first (cells_up (first + hint) (count - hint)) (cells_up first hint) (hint + k - count) k (omega (arith, upper, le, past))
    ∙ up-at first hint (hint + k - count) (omega (arith, le, past, few))
