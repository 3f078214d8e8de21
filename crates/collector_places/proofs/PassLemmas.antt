-- The code's pass and the order's go on side by side.
use Rattle.std.proofs.Common.{◌≡◌, ◌⊎◌, inl, inr, ℕ, zero, suc, ◌+◌, ◌%◌, ◌<◌, ◌≤◌, ◌==◌, nat_lt, Bool, true, false, List, [], ◌∷◌, refl, sym, ap, ◌∙◌, subst, if◌then◌else◌, arith}
use Rattle.lemmas.specs.Numbers.{test_true, lt_true, lt_false, lt_yes, lt_no}
use Rattle.lemmas.specs.Bools.{yes_or_no}
use Rattle.pools.specs.Heap.{Setup, cells}
use Rattle.colours.specs.declared.turn.Turn.{Turn}
use Rattle.colours.specs.declared.turn.Turn.TheVariants.{MarkFound, ReadColour, ScanWord, Blacken}
use Rattle.colours.specs.Colours.{cycle_of, grey}
use Rattle.colours.specs.Collector as order
use Rattle.colours.specs.Collector.{posted_of}
use Rattle.collector_places.specs.declared.spot.Pass.{Pass}
use Rattle.collector_places.specs.Counts.{count_of, looks_at, shades_of}
use Rattle.collector_places.specs.Spots.{looks_in_turn, IsTold, IsSame, IsBehind, IsPassAt, IsAt, IsUnlooked}
use Rattle.collector_places.specs.Nexts.{pass_from, sweep_from, after_wait, wait_from, looked, with_grey, in_turn, first_pass}
use Rattle.collector_places.proofs.CountLemmas.{in_told}

-- a relation of next cells that is one of the two
pub record IsNear (near : Setup → ℕ → ℕ → Type 0) : Type 0 where
  pub same : (s : Setup) (n : ℕ) → near s n n
  pub behind : (s : Setup) (n m : ℕ) → near s n m → IsBehind s n m

pub same_near : IsNear IsSame
same_near = record { same = λ s n. refl; behind = λ s n m e. inl e }

pub behind_near : IsNear IsBehind
behind_near = record { same = λ s n. inl refl; behind = λ s n m e. e }

module _ (near : Setup → ℕ → ℕ → Type 0) (is : IsNear near) (s : Setup) (log : List Turn) where
  pub sweep_at : (cell : ℕ) → IsAt near s log (sweep_from s cell) (order.sweep_from s cell)
  sweep_at cell = elim (yes_or_no (nat_lt cell (cells s))) [ inl e ↦ rw e refl | inr e ↦ rw e refl ]

  -- a pass at its end, made again
  again : (p : Pass) (q : order.Pass) → IsTold s log p.rounds q → cells s ≤ q.next
      → IsTold s log (suc p.rounds) (record { next = 0; met_grey = false; shaded = q.shaded })
  again p q t past = record {
    balance = λ c h. let b = t.balance c h in let e = lt_yes c q.next (omega arith) in let f = lt_no c 0 (omega arith) in rw f (let g : count_of c q.shaded + looks_at log c ≡ shades_of log c + (p.rounds + 1) = rw e at b in omega (arith, g));
    cells_alone = t.cells_alone;
    within = omega arith;
  }

  ended : (p : Pass) (q : order.Pass) → IsPassAt near s log p q → cells s ≤ q.next → nat_lt q.next (cells s) ≡ false → nat_lt p.next (cells s) ≡ false → IsAt near s log (pass_from s p) (order.pass_from s q)
  ended p q at past e f = rw (e, f) (rw at.met (elim (yes_or_no p.met_grey) [
    | inl m ↦ rw m (record { next = 0; met_grey = false; shaded = q.shaded }, refl, record { next = is.same s 0; met = refl; told = again p q at.told past }, omega arith)
    | inr m ↦ rw m (sweep_at 1)
  ]))

  pub pass_at : (p : Pass) (q : order.Pass) → IsPassAt near s log p q → IsAt near s log (pass_from s p) (order.pass_from s q)
  pass_at p q at = elim (is.behind s q.next p.next at.next) [
    | inl same ↦ elim (yes_or_no (nat_lt q.next (cells s))) [
      | inl e ↦ let f : nat_lt p.next (cells s) ≡ true = subst (λ n. nat_lt n (cells s) ≡ true) same e in rw (e, f) (q, refl, at, lt_true p.next (cells s) f)
      | inr e ↦ let f : nat_lt p.next (cells s) ≡ false = subst (λ n. nat_lt n (cells s) ≡ false) same e in ended p q at (lt_false q.next (cells s) e) e f
    ]
    | inr far ↦ let e = lt_yes q.next (cells s) (omega (arith, far.1, far.2)) in let f = lt_yes p.next (cells s) far.2 in rw (e, f) (q, refl, at, far.2)
  ]

  pub looked_at : (stage : ℕ) (p : Pass) (q : order.Pass) (cell colour : ℕ) → IsPassAt near s log p q → IsAt near s log (looked s stage p cell colour) (order.looked s stage q cell colour)
  looked_at stage p q cell colour at = elim (yes_or_no (colour == grey (cycle_of stage))) [
    | inl e ↦ rw e (order.with_grey q, refl, record { next = at.next; met = refl; told = record { balance = at.told.balance; cells_alone = at.told.cells_alone; within = at.told.within } })
    | inr e ↦ rw e (pass_at p q at)
  ]

  pub wait_ended : (stage : ℕ) → IsUnlooked log → IsAt near s log (after_wait stage) (order.after_wait stage)
  wait_ended stage none = elim (yes_or_no (stage % 3 == 1)) [
    | inl e ↦ rw e refl
    | inr e ↦ rw e (elim (yes_or_no (stage % 3 == 2)) [
      | inl f ↦ rw f refl
      | inr f ↦ rw f (order.first_pass, refl, record { next = is.same s 0; met = refl; told = told }, omega arith)
    ])
  ]
    where
      told : IsTold s log 0 order.first_pass
      told = record {
        balance = λ c h. let n = none c in let f = lt_no c 0 (omega arith) in rw f (omega (arith, n.0, n.1));
        cells_alone = λ c h. refl;
        within = omega arith;
      }

  pub wait_at : (stage thread : ℕ) → IsUnlooked log → IsAt near s log (wait_from s stage thread) (order.wait_from s stage thread)
  wait_at stage thread none = elim (yes_or_no (nat_lt thread s.threads)) [
    | inl e ↦ rw e (refl, none)
    | inr e ↦ rw e (wait_ended stage none)
  ]
