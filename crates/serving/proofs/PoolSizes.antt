-- Cells of a pool, each another, are no more than the pool has.
use Rattle.std.proofs.Common.{◌≡◌, ◌≢◌, ℕ, zero, suc, ◌+◌, ◌-◌, ◌<◌, ◌≤◌, ◌==◌, inl, inr, Bool, true, false, List, [], ◌∷◌, length, take, sum, slice_index, if◌then◌else◌, nat_lt, refl, sym, subst, arith}
use Rattle.std.proofs.lemmas.Bool.Decides.{nat_tests}
use Rattle.lemmas.specs.Lists.{IsIn, sum_cons}
use Rattle.lemmas.specs.Numbers.{test_true, test_false}
use Rattle.pools.specs.Heap.{Setup, layout_of, layout_at, IsOfLayout}
use Rattle.pools.specs.Pools.{first_cell}
use Rattle.colours.specs.Calls.{AreApart}
use Rattle.colours.specs.Collector.{without}
use Rattle.heap_table.specs.Allocs.{AreOfPool}

-- ---- a list without one of its cells

one_less : (c : ℕ) (cells : List ℕ) → length cells ≤ suc (length (without c cells))
one_less c [] = omega arith
one_less c (d ∷ cells) = go (one_less c cells) (c == d)
  where
    go : length cells ≤ suc (length (without c cells)) → (b : Bool) → suc (length cells) ≤ suc (length (if b then cells else d ∷ without c cells))
    go rest true = omega arith
    go rest false = omega (arith, rest)

-- what is left was there before
was_there : (c : ℕ) (cells : List ℕ) (x : ℕ) → IsIn x (without c cells) → IsIn x cells
was_there c [] x a = absurd a
was_there c (d ∷ cells) x a = go (was_there c cells x) (c == d) a
  where
    go : (IsIn x (without c cells) → IsIn x cells) → (b : Bool) → IsIn x (if b then cells else d ∷ without c cells) → IsIn x (d ∷ cells)
    go rest true a = inr a
    go rest false (inl e) = inl e
    go rest false (inr a) = inr (rest a)

still_apart : (c : ℕ) (cells : List ℕ) → AreApart cells → AreApart (without c cells)
still_apart c [] apart = tt
still_apart c (d ∷ cells) apart = go (still_apart c cells apart.1) (λ a. apart.0 (was_there c cells d a)) (c == d)
  where
    go : AreApart (without c cells) → ¬ IsIn d (without c cells) → (b : Bool) → AreApart (if b then cells else d ∷ without c cells)
    go rest other true = apart.1
    go rest other false = (other, rest)

-- and where the cells are apart it is another cell
is_gone : (c : ℕ) (cells : List ℕ) → AreApart cells → ¬ IsIn c (without c cells)
is_gone c [] apart a = absurd a
is_gone c (d ∷ cells) apart a = go (is_gone c cells apart.1) (c == d) refl a
  where
    go : ¬ IsIn c (without c cells) → (b : Bool) → (c == d) ≡ b → IsIn c (if b then cells else d ∷ without c cells) → ⊥
    go rest true e a = apart.0 (subst (λ x. IsIn x cells) (test_true c d e) a)
    go rest false e (inl same) = test_false c d e same
    go rest false e (inr a) = rest a

-- distinct numbers of a stretch are no more than its length
few : (first count : ℕ) (cells : List ℕ) → AreApart cells → ((c : ℕ) → IsIn c cells → (first ≤ c) × (c < first + count)) → length cells ≤ count
few first zero [] apart within = omega arith
few first zero (d ∷ cells) apart within = let low = (within d (inl refl)).0 in let high = (within d (inl refl)).1 in absurd (omega (arith, low, high))
few first (suc count) cells apart within =
    let rest = few first count (without (first + count) cells) (still_apart (first + count) cells apart) shorter in
    let less = one_less (first + count) cells in
    omega (arith, rest, less)
  where
    shorter : (c : ℕ) → IsIn c (without (first + count) cells) → (first ≤ c) × (c < first + count)
    shorter c a =
        let was = within c (was_there (first + count) cells c a) in
        let low = was.0 in
        let high = was.1 in
        let other : c ≢ first + count = λ e. is_gone (first + count) cells apart (subst (λ x. IsIn x (without (first + count) cells)) e a) in
        (omega (arith, low), omega (arith, high, other))

-- ---- cells of a pool

-- the place in the row of all pools lies in this layout's pool
abbrev IsInPool : (counts : List ℕ) → (place layout : ℕ) → Type 0
IsInPool counts place layout = (sum (take layout counts) ≤ place) × (place < sum (take layout counts) + slice_index counts layout)

in_bounds : (counts : List ℕ) (place : ℕ) → place < sum counts → IsInPool counts place (layout_at counts place)
in_bounds [] place lt = absurd (omega (arith, lt))
in_bounds (count ∷ counts) place lt = go (in_bounds counts (place - count)) (nat_lt place count) refl
  where
    go : (place - count < sum counts → IsInPool counts (place - count) (layout_at counts (place - count))) → (b : Bool) → nat_lt place count ≡ b
        → IsInPool (count ∷ counts) place (if b then 0 else suc (layout_at counts (place - count)))
    go rest true e = let low : place < count = grind (arith, nat_tests) in (omega arith, omega (arith, low))
    go rest false e =
        let high : count ≤ place = grind (arith, nat_tests) in
        let all = sum_cons count counts in
        let parts = sum_cons count (take (layout_at counts (place - count)) counts) in
        let bounds = rest (omega (arith, high, all, lt)) in
        let low = bounds.0 in
        let below = bounds.1 in
        (omega (arith, high, parts, low), omega (arith, high, parts, below))

within_pool : (s : Setup) (layout cell : ℕ) → IsOfLayout s layout cell → (first_cell s.pools layout ≤ cell) × (cell < first_cell s.pools layout + slice_index s.pools layout)
unfolding layout_of
within_pool s layout cell of =
    let some = of.0 in
    let inside = of.1 in
    let bounds = subst (IsInPool s.pools (cell - 1)) of.2 (in_bounds s.pools (cell - 1) (omega (arith, some, inside))) in
    let low = bounds.0 in
    let high = bounds.1 in
    (omega (arith, some, low), omega (arith, some, high))

are_apart : (s : Setup) (layout : ℕ) (cells : List ℕ) → AreOfPool s layout cells → AreApart cells
are_apart s layout [] are = tt
are_apart s layout (c ∷ cells) are = (are.1, are_apart s layout cells are.2)

are_within : (s : Setup) (layout : ℕ) (cells : List ℕ) → AreOfPool s layout cells → (c : ℕ) → IsIn c cells → (first_cell s.pools layout ≤ c) × (c < first_cell s.pools layout + slice_index s.pools layout)
are_within s layout [] are c a = absurd a
are_within s layout (d ∷ cells) are c (inl e) = subst (λ (x : ℕ). (first_cell s.pools layout ≤ x) × (x < first_cell s.pools layout + slice_index s.pools layout)) (sym e) (within_pool s layout d are.0)
are_within s layout (d ∷ cells) are c (inr a) = are_within s layout cells are.2 c a

pub no_more : (s : Setup) (layout : ℕ) (cells : List ℕ) → AreOfPool s layout cells → length cells ≤ slice_index s.pools layout
no_more s layout cells are = few (first_cell s.pools layout) (slice_index s.pools layout) cells (are_apart s layout cells are) (are_within s layout cells are)
