-- Whether all that is of a class here is of another there, where it is listed.
use Rattle.std.proofs.Common.{◌≡◌, ◌<◌, ◌≤◌, ◌⊎◌, inl, inr, ◌+◌, zero, suc, [], ◌∷◌, length, refl, sym, ap, ◌∙◌, subst, arith}
use Rattle.std.proofs.lemmas.Bool.{cases_lt}
use Rattle.std.proofs.lemmas.List.{get_or_past}
use Rattle.std.proofs.lemmas.List.FromFn.{length-enumerate_from, get_or-enumerate_from}
use Rattle.std.proofs.lemmas.List.Sums.{AllPass-from_list_all}
use Rattle.std.specs.Prelude.{ℕ, ◌==◌, Bool, true, false, not, ◌&&◌, ◌||◌, List}
use Rattle.std.specs.List.{list_all, enumerate_from, zip}
use Rattle.lemmas.specs.Bools.{and_true, or_second}
use Rattle.fact_tables.specs.declared.known.Known.{Known}
use Rattle.fact_tables.specs.declared.known.Known.TheVariants.{Nothing, Number, Cell, Null, Address, GlobalAddress}
use Rattle.fact_tables.specs.declared.known.SlotFact.{SlotFact}
use Rattle.fact_tables.specs.Rows.{known_at, open_slot, slot_at, is_of, holds_class, holds}

-- where this is asked it holds
abbrev pub implied : (asked holds : Bool) → Bool
implied asked holds = holds || not asked

-- a value that is of the class here and is listed as a reference there is of the other class there
abbrev pub covers_value : (c d : ℕ) → Known × Known → Bool
covers_value c d (here, Cell class layout stale) = implied (is_of c here) (class == d)
covers_value c d (here, _) = true

-- a slot that holds the class here holds the other there
abbrev pub covers_slot : (c d : ℕ) → (there : List SlotFact) → ℕ × SlotFact → Bool
covers_slot c d there (s, here) = implied (holds_class c here.holds) (holds_class d (slot_at there s).holds)

-- ---- of all values

-- a value that is not of the class here
pub value_off : (c d : ℕ) (here there : Known) → is_of c here ≡ false → covers_value c d (here, there) ≡ true
value_off c d here (Cell e layout stale) off = rw off (or_second (e == d) true refl)
value_off c d here Nothing off = refl
value_off c d here (Number bits below) off = refl
value_off c d here Null off = refl
value_off c d here (Address base words) off = refl
value_off c d here (GlobalAddress g) off = refl

module _ (c d : ℕ) where
  -- each value, if all are covered
  pub values_there : (here there : List Known) → list_all (covers_value c d) (zip here there) ≡ true → (u : ℕ) → covers_value c d (known_at here u, known_at there u) ≡ true
  values_there [] there e u = value_off c d Nothing (known_at there u) refl
  values_there (x ∷ here) [] e u = refl
  values_there (x ∷ here) (y ∷ there) e u = pick (values_there here there) (covers_value c d (x, y)) refl e u where
    pick : (list_all (covers_value c d) (zip here there) ≡ true → (u : ℕ) → covers_value c d (known_at here u, known_at there u) ≡ true) → (b : Bool) → covers_value c d (x, y) ≡ b → (b && list_all (covers_value c d) (zip here there)) ≡ true → (u : ℕ) → covers_value c d (known_at (x ∷ here) u, known_at (y ∷ there) u) ≡ true
    pick more true is e zero = is
    pick more true is e (suc u) = more e u
    pick more false is e u = absurd cc

  -- all, if each is covered
  pub values_back : (here there : List Known) → ((u : ℕ) → covers_value c d (known_at here u, known_at there u) ≡ true) → list_all (covers_value c d) (zip here there) ≡ true
  values_back [] there h = refl
  values_back (x ∷ here) [] h = refl
  values_back (x ∷ here) (y ∷ there) h = rw (h zero) (values_back here there (λ u. h (suc u)))

-- ---- of all slots

-- a slot that does not hold the class here
pub slot_off : (c d : ℕ) (there : List SlotFact) (s : ℕ) (slot : SlotFact) → holds c slot ≡ false → covers_slot c d there (s, slot) ≡ true
slot_off c d there s slot off = ap (λ b. holds_class d (slot_at there s).holds || not b) off ∙ or_second (holds_class d (slot_at there s).holds) true refl

module _ (c d : ℕ) (here there : List SlotFact) where
  -- each slot, if all are covered
  pub slots_there : list_all (covers_slot c d there) (enumerate_from 0 here) ≡ true → (s : ℕ) → covers_slot c d there (s, slot_at here s) ≡ true
  slots_there e s = by (cases_lt s (length here)) where
    by : (s < length here) ⊎ (length here ≤ s) → covers_slot c d there (s, slot_at here s) ≡ true
    by (inl lt) =
        let is : 0 + s ≡ s = omega arith in
        let within : s < length (enumerate_from 0 here) = subst (λ (n : ℕ). s < n) (sym (length-enumerate_from 0 here)) lt in
        subst (λ (n : ℕ). covers_slot c d there (n, slot_at here s) ≡ true) is
        (subst (λ (x : ℕ × SlotFact). covers_slot c d there x ≡ true) (get_or-enumerate_from 0 here s (0, open_slot) lt) (AllPass-from_list_all (covers_slot c d there) (enumerate_from 0 here) e s (0, open_slot) within))
    by (inr past) = slot_off c d there s (slot_at here s) (ap (holds c) (get_or_past here s open_slot past))

  -- all, if each is covered
  pub slots_back : ((s : ℕ) → covers_slot c d there (s, slot_at here s) ≡ true) → list_all (covers_slot c d there) (enumerate_from 0 here) ≡ true
  slots_back h = each 0 here (λ i. let is : i ≡ 0 + i = omega arith in subst (λ (n : ℕ). covers_slot c d there (n, slot_at here i) ≡ true) is (h i)) where
    each : (n : ℕ) (slots : List SlotFact) → ((i : ℕ) → covers_slot c d there (n + i, slot_at slots i) ≡ true) → list_all (covers_slot c d there) (enumerate_from n slots) ≡ true
    each n [] h = refl
    each n (slot ∷ slots) h =
        let first : n + 0 ≡ n = omega arith in
        and_true (covers_slot c d there (n, slot)) (list_all (covers_slot c d there) (enumerate_from (n + 1) slots))
        (subst (λ (m : ℕ). covers_slot c d there (m, slot) ≡ true) first (h zero))
        (each (n + 1) slots (λ i. let is : n + suc i ≡ n + 1 + i = omega arith in subst (λ (m : ℕ). covers_slot c d there (m, slot_at slots i) ≡ true) is (h (suc i))))
