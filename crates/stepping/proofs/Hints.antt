-- Where a thread wins a cell, there is a hint for the cell's layout.
use Rattle.std.proofs.Common.{◌≡◌, ◌≤◌, ◌^◌, ◌-◌, ℕ, suc, Bool, true, false, List, [], ◌∷◌, length, sum, take, if◌then◌else◌, nat_lt, sym, refl, subst, arith}
use Rattle.lemmas.specs.Lists.{sum_cons}
use Rattle.lemmas.specs.Numbers.{lt_false}
use Rattle.pools.specs.Heap.{Setup, IsOfLayout, layout_of, layout_at, cells}
use Rattle.pools.specs.Pools.{first_cell}
use Rattle.runs.specs.Machine.{WordValue, Action}
use Rattle.runs.specs.TryLemmas.{within}
use Rattle.moves.specs.declared.moves.Move.{Move}
use Rattle.moves.specs.declared.moves.Move.TheVariants as made
use Rattle.moves.specs.declared.shared.Shared.{Shared}
use Rattle.moves.specs.declared.thread_state.CallPhase.{CallPhase}
use Rattle.moves.specs.Calls.{move_in}
use Rattle.moves.specs.Moving.{CanRecord, HasHint}
use Rattle.stepping.proofs.Chosen.{IsChosen}

-- the pools before that of a place end at the place or before it
ends-before : (counts : List ℕ) (place : ℕ) → sum (take (layout_at counts place) counts) ≤ place
ends-before [] place = omega arith
ends-before (count ∷ counts) place = go (ends-before counts (place - count)) (nat_lt place count) refl
  where
    go : sum (take (layout_at counts (place - count)) counts) ≤ place - count → (b : Bool) → nat_lt place count ≡ b
        → sum (take (if b then 0 else suc (layout_at counts (place - count))) (count ∷ counts)) ≤ place
    go rest true e = omega arith
    go rest false e =
        let low : count ≤ place = lt_false place count e in
        let parts = sum_cons count (take (layout_at counts (place - count)) counts) in
        omega (arith, low, parts, rest)

-- a cell of a layout is not before the layout's first one
not-before : (s : Setup) (layout cell : ℕ) → IsOfLayout s layout cell → first_cell s.pools layout ≤ cell
unfolding layout_of
not-before s layout cell o =
    let before : sum (take layout s.pools) ≤ cell - 1 = subst (λ (l : ℕ). sum (take l s.pools) ≤ cell - 1) o.2 (ends-before s.pools (cell - 1)) in
    omega (arith, before, o.0)

-- there is one, and the place after the cell fits
pub has-hint : (s : Setup) (h : Shared) (hints : List ℕ) (roots : List WordValue) (action : Action) (at : CallPhase) (move : Move) → cells s ≤ 2 ^ 32 → length hints ≡ length s.pools
    → IsChosen s h hints roots action at (move_in roots move) → HasHint s.pools hints move action
has-hint s h hints roots action at (made.Claims r true) few count c =
    let left = c.5.left in
    let is_layout = within s.pools c.0 (λ z. omega (arith, left, z)) in
    let noted : CanRecord s.pools hints c.0 r.cell = record {
      is_layout = is_layout;
      has_hint = omega (arith, is_layout, count);
      in_pool = not-before s c.0 r.cell c.2;
      fits = omega (arith, few, c.2.1);
    } in
    subst (λ (x : Action). HasHint s.pools hints (made.Claims r true) x) (sym c.1) noted
has-hint s h hints roots action at move few count c = tt
