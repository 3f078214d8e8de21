-- Looks of a pass. A look in turn leaves more that may follow than one out of turn at the same cell, but for the pass's last cell.
use Rattle.std.proofs.Common.{◌≡◌, ◌≢◌, ◌⊎◌, inl, inr, ℕ, zero, suc, ◌+◌, ◌<◌, ◌≤◌, ◌==◌, ◌&&◌, not, nat_lt, Bool, true, false, Option, Some, None, List, [], ◌∷◌, refl, sym, ap, ◌∙◌, subst, if◌then◌else◌, arith}
use Rattle.lemmas.specs.Numbers.{test_true, test_false, test_yes, test_no, lt_true, lt_false, lt_yes, lt_no}
use Rattle.lemmas.specs.Bools.{yes_or_no, and_parts, and_true}
use Rattle.lemmas.specs.Lists.{IsIn}
use Rattle.pools.specs.Heap.{Setup, cells}
use Rattle.colours.specs.declared.turn.Turn.{Turn}
use Rattle.colours.specs.declared.turn.Turn.TheVariants.{ReadColour}
use Rattle.colours.specs.Colours.{cycle_of, grey}
use Rattle.colours.specs.Collector as order
use Rattle.colours.specs.Collector.{Collection, posted_of, Turns}
use Rattle.collector_places.specs.declared.spot.Pass.{Pass}
use Rattle.collector_places.specs.declared.spot.Spot.{Spot}
use Rattle.collector_places.specs.declared.spot.Spot.TheVariants.{Passing}
use Rattle.collector_places.specs.Counts.{count_of, looks_at, shades_of}
use Rattle.collector_places.specs.Spots.{looks_in_turn, IsTold, IsPassAt, IsAt, IsSame, IsBehind}
use Rattle.collector_places.specs.Nexts.{only_if, after_turn, after_look, is_shaded, is_needed, in_turn, looked}
use Rattle.collector_places.proofs.CountLemmas.{count-in, in-count, in_told, out_told}
use Rattle.collector_places.proofs.PassLemmas.{looked_at, same_near, behind_near}
use Rattle.collector_places.proofs.Moves.{Follows, Reaches, passed}

module _ (s : Setup) (log : List Turn) (p : Pass) (cell colour : ℕ) where
  -- ---- from the code to the order

  in_place : (c : Collection) → IsAt IsSame s log (Passing p) c → cell ≡ p.next → Follows IsSame s log c (ReadColour cell colour) (looked s (posted_of log) (in_turn p) cell colour)
  in_place c at e = let q = at.0 in let here : cell ≡ q.next = e ∙ sym at.2.next in
      rw (at.1) (
        order.looked s (posted_of log) (order.in_turn q) cell colour,
        inl (here, refl),
        looked_at IsSame same_near s (ReadColour cell colour ∷ log) (posted_of log) (in_turn p) (order.in_turn q) cell colour
            (record { next = ap suc at.2.next; met = at.2.met; told = in_told s log p.rounds cell colour q at.2.told here (subst (λ n. n < cells s) (sym at.2.next) at.3) }),
      )

  pub looks_in : (next : Spot) (c : Collection) → after_turn s (posted_of log) (Passing p) (ReadColour cell colour) ≡ Some next → IsAt IsSame s log (Passing p) c → Follows IsSame s log c (ReadColour cell colour) next
  looks_in next c e at = let x = passed (cell == p.next) (looked s (posted_of log) (in_turn p) cell colour) next e in
      subst (λ n. Follows IsSame s log c (ReadColour cell colour) n) x.1 (in_place c at (test_true cell p.next x.0))

  -- what the balance says of a cell that may be looked at out of turn
  has : (q : order.Pass) → IsTold s log p.rounds q → q.next ≡ p.next → cell < cells s → is_shaded (looks_at log cell) (shades_of log cell) p cell ≡ true → 0 < count_of cell q.shaded
  has q t e lt is = let b = t.balance cell lt in let k = lt_true _ _ is in let m : looks_in_turn p.rounds q.next cell ≡ looks_in_turn p.rounds p.next cell = ap (λ n. looks_in_turn p.rounds n cell) e in omega (arith, b, k, m)

  out_place : (c : Collection) → IsAt IsSame s log (Passing p) c → nat_lt 0 p.next ≡ true → nat_lt cell (cells s) ≡ true → is_shaded (looks_at log cell) (shades_of log cell) p cell ≡ true
      → Follows IsSame s log c (ReadColour cell colour) (looked s (posted_of log) p cell colour)
  out_place c at first within is = let q = at.0 in let more = has q at.2.told at.2.next (lt_true _ _ within) is in
      rw (at.1) (
        order.looked s (posted_of log) (order.out_of_turn q cell) cell colour,
        inr (subst (λ n. 0 < n) (sym at.2.next) (lt_true _ _ first), in-count cell q.shaded more, refl),
        looked_at IsSame same_near s (ReadColour cell colour ∷ log) (posted_of log) p (order.out_of_turn q cell) cell colour
            (record { next = at.2.next; met = at.2.met; told = out_told s log p.rounds cell colour q at.2.told more }),
      )

  pub looks_out : (next : Spot) (c : Collection) → after_look s (posted_of log) (looks_at log cell) (shades_of log cell) (Passing p) (ReadColour cell colour) ≡ Some next → IsAt IsSame s log (Passing p) c → Follows IsSame s log c (ReadColour cell colour) next
  looks_out next c e at =
      let x = passed (nat_lt 0 p.next && ((nat_lt cell (cells s) && is_shaded (looks_at log cell) (shades_of log cell) p cell) && is_needed s p cell)) (looked s (posted_of log) p cell colour) next e in
      let a = and_parts (nat_lt 0 p.next) _ x.0 in let b = and_parts (nat_lt cell (cells s) && is_shaded (looks_at log cell) (shades_of log cell) p cell) _ a.1 in let d = and_parts (nat_lt cell (cells s)) _ b.0 in
      subst (λ n. Follows IsSame s log c (ReadColour cell colour) n) x.1 (out_place c at a.0 d.0 d.1)

  -- ---- from the order to the code

  by_turn : (d : Collection) → cell ≡ p.next → IsAt IsBehind s (ReadColour cell colour ∷ log) (looked s (posted_of log) (in_turn p) cell colour) d
      → Reaches IsBehind s log (after_turn s (posted_of log) (Passing p) (ReadColour cell colour)) (ReadColour cell colour) d
  by_turn d e at = (looked s (posted_of log) (in_turn p) cell colour, rw (test_yes cell p.next e) refl, at)

  by_look : (d : Collection) → 0 < p.next → cell < cells s → looks_at log cell < shades_of log cell + looks_in_turn p.rounds p.next cell → is_needed s p cell ≡ true
      → IsAt IsBehind s (ReadColour cell colour ∷ log) (looked s (posted_of log) p cell colour) d
      → Reaches IsBehind s log (after_look s (posted_of log) (looks_at log cell) (shades_of log cell) (Passing p) (ReadColour cell colour)) (ReadColour cell colour) d
  by_look d first within lt needed at = (looked s (posted_of log) p cell colour, rw (lt_yes 0 p.next first, lt_yes cell (cells s) within, lt_yes _ _ lt, needed) refl, at)

  abbrev Either : Collection → Type 0
  Either d = Reaches IsBehind s log (after_turn s (posted_of log) (Passing p) (ReadColour cell colour)) (ReadColour cell colour) d ⊎ Reaches IsBehind s log (after_look s (posted_of log) (looks_at log cell) (shades_of log cell) (Passing p) (ReadColour cell colour)) (ReadColour cell colour) d

  -- another cell than the next one
  other_needed : cell ≢ p.next → is_needed s p cell ≡ true
  other_needed ne = rw (test_no cell p.next ne) refl

  -- a place behind looks in turn
  turn_behind : (q : order.Pass) → IsPassAt IsBehind s log p q → p.next < cells s → cell ≡ q.next → Either (order.looked s (posted_of log) (order.in_turn q) cell colour)
  turn_behind q at lt here = elim at.next [
    | inl same ↦ inl (by_turn _ (here ∙ same) (looked_at IsBehind behind_near s (ReadColour cell colour ∷ log) (posted_of log) (in_turn p) (order.in_turn q) cell colour
        (record { next = inl (ap suc same); met = at.met; told = in_told s log p.rounds cell colour q at.told here (omega (arith, same)) })))
    | inr far ↦
        let b = at.told.balance cell (omega (arith, far.1, far.2)) in
        let none : looks_in_turn p.rounds q.next cell ≡ p.rounds + 0 = rw (lt_no cell q.next (omega arith)) refl in
        let one : looks_in_turn p.rounds p.next cell ≡ p.rounds + 1 = rw (lt_yes cell p.next (omega (arith, far.1))) refl in
        inr (by_look _ (omega (arith, far.0, far.1)) (omega (arith, far.1, far.2)) (omega (arith, b, none, one)) (other_needed (λ (x : cell ≡ p.next). omega (arith, far.1)))
        (looked_at IsBehind behind_near s (ReadColour cell colour ∷ log) (posted_of log) p (order.in_turn q) cell colour
        (record { next = nearer far; met = at.met; told = in_told s log p.rounds cell colour q at.told here (omega (arith, far.1, far.2)) })))
  ]
    where
      nearer : (0 < q.next) × (q.next < p.next) × (p.next < cells s) → IsBehind s (suc q.next) p.next
      nearer far = elim (yes_or_no (suc q.next == p.next)) [
        | inl e ↦ inl (test_true _ _ e)
        | inr e ↦ let ne = test_false (suc q.next) p.next e in let k = far.1 in inr (omega arith, omega (arith, k, ne), far.2)
      ]

  -- a place behind looks out of turn
  look_behind : (q : order.Pass) → IsPassAt IsBehind s log p q → p.next < cells s → 0 < q.next → 0 < count_of cell q.shaded → Either (order.looked s (posted_of log) (order.out_of_turn q cell) cell colour)
  look_behind q at lt first more = elim (yes_or_no (is_needed s p cell)) [
    | inl needed ↦ inr (by_look _ ahead within shaded needed (looked_at IsBehind behind_near s (ReadColour cell colour ∷ log) (posted_of log) p (order.out_of_turn q cell) cell colour
        (record { next = at.next; met = at.met; told = told })))
    | inr free ↦ let k = covered free in inl (by_turn _ k.0 (looked_at IsBehind behind_near s (ReadColour cell colour ∷ log) (posted_of log) (in_turn p) (order.out_of_turn q cell) cell colour
        (record { next = inr (first, omega (arith, most), k.1); met = at.met; told = told })))
  ]
    where
      told : IsTold s (ReadColour cell colour ∷ log) p.rounds (order.out_of_turn q cell)
      told = out_told s log p.rounds cell colour q at.told more

      most : q.next ≤ p.next
      most = elim at.next [ inl same ↦ omega (arith, same) | inr far ↦ let k = far.1 in omega (arith, k) ]

      ahead : 0 < p.next
      ahead = omega (arith, most)

      within : cell < cells s
      within = elim (yes_or_no (nat_lt cell (cells s))) [
        | inl e ↦ lt_true _ _ e
        | inr e ↦ let k = at.told.cells_alone cell (lt_false _ _ e) in absurd (omega (arith, k))
      ]

      fewer : looks_in_turn p.rounds q.next cell ≤ looks_in_turn p.rounds p.next cell
      fewer = elim (yes_or_no (nat_lt cell q.next)) [
        | inl e ↦ let k = lt_true _ _ e in rw (e, lt_yes cell p.next (omega (arith, k, most))) (omega arith)
        | inr e ↦ rw e (omega arith)
      ]

      shaded : looks_at log cell < shades_of log cell + looks_in_turn p.rounds p.next cell
      shaded = let b = at.told.balance cell within in omega (arith, b, fewer)

      covered : is_needed s p cell ≡ false → (cell ≡ p.next) × (suc p.next < cells s)
      covered e = elim (yes_or_no ((cell == p.next) && nat_lt (suc p.next) (cells s))) [
        | inl t ↦ let a = and_parts (cell == p.next) _ t in (test_true _ _ a.0, lt_true _ _ a.1)
        | inr f ↦ absurd (cc (ap not f))
      ]

  pub looks_behind : (c d : Collection) → IsAt IsBehind s log (Passing p) c → Turns s (posted_of log) c (ReadColour cell colour) d → Either d
  looks_behind c d at t = go (subst (λ x. Turns s (posted_of log) x (ReadColour cell colour) d) at.1 t)
    where
      go : Turns s (posted_of log) (order.Passing at.0) (ReadColour cell colour) d → Either d
      go (inl x) = rw (x.1) (turn_behind at.0 at.2 at.3 x.0)
      go (inr x) = rw (x.2) (look_behind at.0 at.2 at.3 x.0 (count-in cell at.0.shaded x.1))
