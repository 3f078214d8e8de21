-- Each word of the heap has a place of its own in the table.
use Rattle.std.proofs.Common.{◌≡◌, ℕ, zero, suc, ◌+◌, ◌<◌, ◌≤◌, ◌==◌, true, eq-eqb, refl, ap, length, arith, inl, inr, ◌⊎◌, ⊎_elim}
use Rattle.std.proofs.lemmas.Bool.{eqb-true}
use Rattle.lemmas.specs.Bools.{and_parts}
use Rattle.lemmas.specs.Numbers.{test_true}
use Rattle.pools.specs.Heap.{Setup, cells, words_of_cell}
use Rattle.colours.specs.declared.place.Place.{Place}
use Rattle.colours.specs.declared.place.Place.TheVariants.{Posted, Stage, Colour, Word}
use Rattle.colours.specs.Steps.{same_place}
use Rattle.heap_rule.specs.Rule.{start, size, HasPlace, index}

-- a number below the next one is below this one or is it
below_suc : (c d : ℕ) → c < suc d → (c < d) ⊎ (c ≡ d)
below_suc zero zero h = inr refl
below_suc zero (suc d) h = inl (omega arith)
below_suc (suc c) zero h = absurd (omega arith)
below_suc (suc c) (suc d) h = more (below_suc c d (omega arith))
  where
    more : (c < d) ⊎ (c ≡ d) → (suc c < suc d) ⊎ (suc c ≡ suc d)
    more (inl x) = inl (omega arith)
    more (inr x) = inr (ap suc x)

-- a cell ends before each later one
pub start_before : (s : Setup) (c d : ℕ) → c < d → start s c + suc (length (words_of_cell s c)) ≤ start s d
start_before s c zero h = absurd (omega arith)
start_before s c (suc d) h = ⊎_elim
    (λ (x : c < d). let k = start_before s c d x in omega arith)
    (λ (x : c ≡ d). rw x (omega arith))
    (below_suc c d h)

-- all of them after the stages
pub stages_before : (s : Setup) (c : ℕ) → s.threads < start s c
stages_before s zero = omega arith
stages_before s (suc c) = let k = stages_before s c in omega arith

-- a word of the heap lies in the table
pub within : (s : Setup) (p : Place) → HasPlace s p → index s p < size s
within s Posted h = let k = stages_before s (cells s) in omega arith
within s (Stage t) h = let k = stages_before s (cells s) in omega arith
within s (Colour c) h = let k = start_before s c (cells s) h in omega arith
within s (Word c i) h = let k = start_before s c (cells s) h.0 in let l = h.1 in omega arith

-- a place is the same as itself
pub same_self : (p : Place) → same_place p p ≡ true
same_self Posted = refl
same_self (Stage t) = eq-eqb t t refl
same_self (Colour c) = eq-eqb c c refl
same_self (Word c i) = rw (eq-eqb c c refl) (eq-eqb i i refl)

-- places that are tested the same are one place
pub same_true : (p q : Place) → same_place p q ≡ true → p ≡ q
same_true Posted Posted e = refl
same_true Posted (Stage u) e = cc
same_true Posted (Colour d) e = cc
same_true Posted (Word d j) e = cc
same_true (Stage t) Posted e = cc
same_true (Stage t) (Stage u) e = ap Stage (eqb-true t u e)
same_true (Stage t) (Colour d) e = cc
same_true (Stage t) (Word d j) e = cc
same_true (Colour c) Posted e = cc
same_true (Colour c) (Stage u) e = cc
same_true (Colour c) (Colour d) e = ap Colour (eqb-true c d e)
same_true (Colour c) (Word d j) e = cc
same_true (Word c i) Posted e = cc
same_true (Word c i) (Stage u) e = cc
same_true (Word c i) (Colour d) e = cc
same_true (Word c i) (Word d j) e = let k = and_parts (c == d) (i == j) e in rw (test_true c d k.0, test_true i j k.1) refl

-- of two numbers one is the lower, or they are one
three : (c d : ℕ) → (c < d) ⊎ ((c ≡ d) ⊎ (d < c))
three zero zero = inr (inl refl)
three zero (suc d) = inl (omega arith)
three (suc c) zero = inr (inr (omega arith))
three (suc c) (suc d) = more (three c d)
  where
    more : (c < d) ⊎ ((c ≡ d) ⊎ (d < c)) → (suc c < suc d) ⊎ ((suc c ≡ suc d) ⊎ (suc d < suc c))
    more (inl x) = inl (omega arith)
    more (inr (inl x)) = inr (inl (ap suc x))
    more (inr (inr x)) = inr (inr (omega arith))

-- two numbers within cells are equal only within one cell
one_cell : (s : Setup) (c d i j : ℕ) → i ≤ length (words_of_cell s c) → j ≤ length (words_of_cell s d) → start s c + i ≡ start s d + j → (c ≡ d) × (i ≡ j)
one_cell s c d i j h k e = go (three c d)
  where
    here : c ≡ d → (c ≡ d) × (i ≡ j)
    here x = (x, let y : start s c ≡ start s d = ap (start s) x in omega arith)

    go : (c < d) ⊎ ((c ≡ d) ⊎ (d < c)) → (c ≡ d) × (i ≡ j)
    go (inl x) = let b = start_before s c d x in absurd (omega arith)
    go (inr (inl x)) = here x
    go (inr (inr x)) = let b = start_before s d c x in absurd (omega arith)

-- two words in one place of the table are one word
pub one_place : (s : Setup) (p q : Place) → HasPlace s p → HasPlace s q → index s p ≡ index s q → p ≡ q
one_place s Posted Posted h k e = refl
one_place s Posted (Stage u) h k e = absurd (omega arith)
one_place s Posted (Colour d) h k e = let b = stages_before s d in absurd (omega arith)
one_place s Posted (Word d j) h k e = absurd (omega arith)
one_place s (Stage t) Posted h k e = absurd (omega arith)
one_place s (Stage t) (Stage u) h k e = ap Stage (omega arith)
one_place s (Stage t) (Colour d) h k e = let b = stages_before s d in absurd (omega arith)
one_place s (Stage t) (Word d j) h k e = let b = stages_before s d in absurd (omega arith)
one_place s (Colour c) Posted h k e = let b = stages_before s c in absurd (omega arith)
one_place s (Colour c) (Stage u) h k e = let b = stages_before s c in absurd (omega arith)
one_place s (Colour c) (Colour d) h k e = ap Colour (one_cell s c d 0 0 (omega arith) (omega arith) (omega arith)).0
one_place s (Colour c) (Word d j) h k e = let b = k.1 in let x = (one_cell s c d 0 (suc j) (omega arith) (omega arith) (omega arith)).1 in absurd (omega arith)
one_place s (Word c i) Posted h k e = absurd (omega arith)
one_place s (Word c i) (Stage u) h k e = let b = stages_before s c in absurd (omega arith)
one_place s (Word c i) (Colour d) h k e = let b = h.1 in let x = (one_cell s c d (suc i) 0 (omega arith) (omega arith) (omega arith)).1 in absurd (omega arith)
one_place s (Word c i) (Word d j) h k e = let a = h.1 in let b = k.1 in let x = one_cell s c d (suc i) (suc j) (omega arith) (omega arith) (omega arith) in let y : i ≡ j = omega arith in rw (x.0, y) refl
