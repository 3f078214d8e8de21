-- How often a cell is in a list of shaded cells, and how each step changes what the log tells of it.
use Rattle.std.proofs.Common.{◌≡◌, ◌≢◌, ◌⊎◌, inl, inr, ℕ, zero, suc, ◌+◌, ◌<◌, ◌≤◌, ◌==◌, nat_lt, Bool, true, false, List, [], ◌∷◌, refl, sym, ap, ◌∙◌, subst, if◌then◌else◌, arith}
use Rattle.lemmas.specs.Numbers.{test_true, test_false, test_yes, test_no, test_same, lt_true, lt_false, lt_yes, lt_no}
use Rattle.lemmas.specs.Bools.{yes_or_no}
use Rattle.lemmas.specs.Lists.{IsIn}
use Rattle.pools.specs.Heap.{Setup, cells}
use Rattle.colours.specs.declared.turn.Turn.{Turn}
use Rattle.colours.specs.declared.turn.Turn.TheVariants.{MarkFound, ReadColour, ScanWord, Blacken}
use Rattle.colours.specs.Collector as order
use Rattle.colours.specs.Collector.{posted_of, without}
use Rattle.collector_places.specs.Counts.{count_of, looks_at, shades_of, is_below_grey}
use Rattle.collector_places.specs.Spots.{looks_in_turn, IsTold}

-- ---- how often a cell is in a list

pub count-in : (c : ℕ) (ds : List ℕ) → IsIn c ds → 0 < count_of c ds
count-in c [] is = absurd is
count-in c (d ∷ ds) is = elim (yes_or_no (c == d)) [
  | inl e ↦ rw e (omega arith)
  | inr e ↦ rw e (elim is [
    | inl same ↦ absurd (test_false c d e same)
    | inr later ↦ count-in c ds later
  ])
]

pub in-count : (c : ℕ) (ds : List ℕ) → 0 < count_of c ds → IsIn c ds
in-count c [] lt = absurd (omega arith)
in-count c (d ∷ ds) lt = elim (yes_or_no (c == d)) [
  | inl e ↦ inl (test_true c d e)
  | inr e ↦ inr (in-count c ds (rw e at lt))
]

-- one, where two cells are one
abbrev pub one_at : (c d : ℕ) → ℕ
one_at c d = if c == d then 1 else 0

pub one_same : (c d : ℕ) → c ≡ d → one_at c d ≡ 1
one_same c d e = rw (test_yes c d e) refl

pub one_other : (c d : ℕ) → c ≢ d → one_at c d ≡ 0
one_other c d e = rw (test_no c d e) refl

pub count_cons : (c d : ℕ) (ds : List ℕ) → count_of c (d ∷ ds) ≡ count_of c ds + one_at d c
count_cons c d ds = elim (yes_or_no (c == d)) [
  | inl e ↦ let x = one_same d c (sym (test_true c d e)) in rw e (omega (arith, x))
  | inr e ↦ let x = one_other d c (λ (y : d ≡ c). test_false c d e (sym y)) in rw e (omega (arith, x))
]

-- without one entry of a cell that is there
pub count_without : (c d : ℕ) (ds : List ℕ) → 0 < count_of c ds → count_of d (without c ds) + one_at c d ≡ count_of d ds
count_without c d [] lt = absurd (omega arith)
count_without c d (x ∷ ds) lt = elim (yes_or_no (c == x)) [
  | inl e ↦ let k = count_cons d x ds in let same : one_at c d ≡ one_at x d = ap (λ n. one_at n d) (test_true c x e) in rw e (omega (arith, k, same))
  | inr e ↦ let k = count_cons d x ds in let m = count_cons d x (without c ds) in let h : 0 < count_of c ds = rw e at lt in let i = count_without c d ds h in rw e (omega (arith, k, m, i))
]

-- ---- the steps

pub looks_step : (cell colour : ℕ) (log : List Turn) (c : ℕ) → looks_at (ReadColour cell colour ∷ log) c ≡ looks_at log c + one_at cell c
looks_step cell colour log c = elim (yes_or_no (cell == c)) [ inl e ↦ rw e (omega arith) | inr e ↦ rw e (omega arith) ]

-- a cell that is passed in turn
pub turn_step : (rounds next c : ℕ) → looks_in_turn rounds (suc next) c ≡ looks_in_turn rounds next c + one_at next c
turn_step rounds next c = elim (yes_or_no (next == c)) [
  | inl e ↦ let same : next ≡ c = test_true next c e in rw (e, lt_yes c (suc next) (omega arith), lt_no c next (omega arith)) (omega arith)
  | inr e ↦ let other : next ≢ c = test_false next c e in rw e (elim (yes_or_no (nat_lt c next)) [
    | inl b ↦ let x = lt_true c next b in rw (b, lt_yes c (suc next) (omega (arith, x))) (omega arith)
    | inr b ↦ let x = lt_false c next b in rw (b, lt_no c (suc next) (omega (arith, x))) (omega arith)
  ])
]

-- a look in turn
pub in_told : (s : Setup) (log : List Turn) (rounds cell colour : ℕ) (p : order.Pass) → IsTold s log rounds p → cell ≡ p.next → p.next < cells s
    → IsTold s (ReadColour cell colour ∷ log) rounds (order.in_turn p)
in_told s log rounds cell colour p t e lt = record {
  balance = λ c h. let b = t.balance c h in let k = looks_step cell colour log c in let m = turn_step rounds p.next c in let n : one_at cell c ≡ one_at p.next c = ap (λ x. one_at x c) e in omega (arith, b, k, m, n);
  cells_alone = t.cells_alone;
  within = omega arith;
}

-- a look out of turn
pub out_told : (s : Setup) (log : List Turn) (rounds cell colour : ℕ) (p : order.Pass) → IsTold s log rounds p → 0 < count_of cell p.shaded
    → IsTold s (ReadColour cell colour ∷ log) rounds (order.out_of_turn p cell)
out_told s log rounds cell colour p t has = record {
  balance = λ c h. let b = t.balance c h in let k = looks_step cell colour log c in let m = count_without cell c p.shaded has in omega (arith, b, k, m);
  cells_alone = λ c h. let b = t.cells_alone c h in let m = count_without cell c p.shaded has in omega (arith, b, m);
  within = t.within;
}

-- a mark
pub mark_told : (s : Setup) (log : List Turn) (rounds value colour : ℕ) (p : order.Pass) → IsTold s log rounds p → value < cells s
    → IsTold s (MarkFound value colour ∷ log) rounds (order.shaded_too (posted_of log) p value colour)
mark_told s log rounds value colour p t lt = elim (yes_or_no (is_below_grey (posted_of log) colour)) [
  | inl e ↦ rw e (record {
    balance = λ c h. let b = t.balance c h in let k = count_cons c value p.shaded in elim (yes_or_no (value == c)) [
      | inl f ↦ let x = one_same value c (test_true value c f) in rw (f, e) (omega (arith, b, k, x))
      | inr f ↦ let x = one_other value c (test_false value c f) in rw f (omega (arith, b, k, x))
    ];
    cells_alone = λ c h. let b = t.cells_alone c h in let k = count_cons c value p.shaded in let x = one_other value c (λ (y : value ≡ c). omega arith) in omega (arith, b, k, x);
    within = t.within;
  })
  | inr e ↦ rw e (record {
    balance = λ c h. let b = t.balance c h in elim (yes_or_no (value == c)) [
      | inl f ↦ rw (f, e) b
      | inr f ↦ rw f b
    ];
    cells_alone = t.cells_alone;
    within = t.within;
  })
]

pub scan_told : (s : Setup) (log : List Turn) (rounds cell word value : ℕ) (p : order.Pass) → IsTold s log rounds p → IsTold s (ScanWord cell word value ∷ log) rounds p
scan_told s log rounds cell word value p t = record { balance = t.balance; cells_alone = t.cells_alone; within = t.within }

pub blacken_told : (s : Setup) (log : List Turn) (rounds cell : ℕ) (p : order.Pass) → IsTold s log rounds p → IsTold s (Blacken cell ∷ log) rounds p
blacken_told s log rounds cell p t = record { balance = t.balance; cells_alone = t.cells_alone; within = t.within }
