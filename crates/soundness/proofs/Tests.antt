-- What an edge implies by the comparison that decides it.
use Rattle.std.proofs.Common.{◌≡◌, ◌≢◌, ℕ, zero, suc, ◌<◌, ◌≤◌, List, [], ◌∷◌, length, get_or, refl, sym, ap, ◌∙◌, subst, arith, true, false, Bool, Option, Some, None, slice_set}
use Rattle.std.specs.Prelude.{◌==◌, not, if◌then◌else◌, nat_lt, nat_le}
use Rattle.lemmas.specs.Numbers.{test_true, lt_true, lt_false}
use Rattle.ir_ast.specs.declared.numbers.Comparison.{Comparison}
use Rattle.ir_ast.specs.declared.numbers.Comparison.TheVariants.{Equal, NotEqual, UnsignedGreater, UnsignedGreaterOrEqual, UnsignedLess, UnsignedLessOrEqual, SignedGreater, SignedGreaterOrEqual, SignedLess, SignedLessOrEqual}
use Rattle.ir_ast.specs.declared.operand.Constant.{Constant}
use Rattle.ir_ast.specs.declared.operand.Constant.TheVariants as constant
use Rattle.pools.specs.Heap.{Setup}
use Rattle.layout.specs.Layouts.{LaidOut}
use Rattle.shadow_stack.specs.Slots.{SlotTable}
use Rattle.fact_tables.specs.declared.known.Known.{Known}
use Rattle.fact_tables.specs.declared.known.Known.TheVariants.{Nothing, Number, Cell, Null, Address, GlobalAddress}
use Rattle.fact_tables.specs.declared.known.Test.{Test}
use Rattle.fact_tables.specs.Rows.{known_at}
use Rattle.facts.specs.Facts.{FactSet, set_known, known_below, below_both, learn_below, learn_up_to, learn_known_nonnull, learn_null_test, learn_number_test, learn_constant_test, learn_test}
use Rattle.machine.specs.declared.value.Value.{Value}
use Rattle.machine.specs.declared.value.Value.TheVariants as value
use Rattle.machine.specs.Kinds.{register_at, number_in, bits_at, wrapped, constant_value}
use Rattle.machine.specs.Integers.{compares, truth}
use Rattle.machine.specs.Machine.{compared}
use Rattle.machine.specs.Log.{Log}
use Rattle.soundness.specs.Meaning.{Cells, Guarded, IsBelow, Means, WasTested, Holds}
use Rattle.soundness.proofs.Keep.{put_keeps, plain_beside}
use Rattle.soundness.proofs.Change.{learn_keeps}
use Rattle.soundness.proofs.Edges.{wrapped_le}

-- the edge that a condition decides: whether its number is not 0
abbrev pub Decides : Value → (taken : Bool) → Type 0
Decides v true = number_in v ≢ 0
Decides v false = number_in v ≡ 0

truth_is : (b taken : Bool) → Decides (value.Number (truth b)) taken → b ≡ taken
truth_is true true d = refl
truth_is false false d = refl
truth_is true false d = absurd (omega (arith, d))
truth_is false true d = absurd (d refl)

le_is : (x y : ℕ) → nat_le x y ≡ true → x ≤ y
le_is x y e = grind (arith, e)

le_not : (x y : ℕ) → nat_le x y ≡ false → y < x
le_not x y e = grind (arith, e)

not_is : (b c : Bool) → not b ≡ c → b ≡ not c
not_is true true e = absurd cc
not_is true false e = refl
not_is false true e = refl
not_is false false e = absurd cc

-- a list is as it was where an element is put that is there
set_same : {X : Type 0} (xs : List X) (i : ℕ) (d : X) → slice_set xs i (get_or xs i d) ≡ xs
set_same [] i d = refl
set_same (x ∷ xs) zero d = refl
set_same (x ∷ xs) (suc i) d = ap (λ ys. x ∷ ys) (set_same xs i d)

below_both_is : (n m : ℕ) (below : Option ℕ) → n < m → IsBelow n below → IsBelow n (below_both below m)
below_both_is n m None lt b = lt
below_both_is n m (Some k) lt b = pick (nat_lt k m) where
  pick : (t : Bool) → IsBelow n (if t then Some k else Some m)
  pick true = b
  pick false = lt

module _ (heap : Setup) (p : LaidOut) (table : SlotTable) (guarded : Guarded) (log : Log) (cells : Cells) (facts : FactSet) (registers slots : List Value) (h : Holds heap p table guarded log cells facts registers slots) where
  abbrev After : FactSet → Type 0
  After f = Holds heap p table guarded log cells f registers slots

  -- a value that is below n, if it is an integer
  below_keeps : (v n : ℕ) (k : Known) → known_at facts.values v ≡ k → ((a : ℕ) → register_at registers v ≡ value.Number a → a < n) → After (set_known v (known_below n k) facts)
  below_keeps v n (Number bits below) is lt =
      let i = subst (λ k. Means heap p guarded log cells (length facts.classes) registers k (register_at registers v)) is (h.values v) in
      put_keeps heap p table guarded log cells facts registers slots h v (Number bits (below_both below n))
      (λ z. record { number = i.number; is = i.is; fits = i.fits; under = below_both_is i.number n below (lt i.number i.is) i.under })
      (plain_beside cells facts slots (Number bits (below_both below n)) (λ c l s z. cc))
  below_keeps v n Nothing is lt = subst (λ k. After (set_known v k facts)) is (subst (λ vs. After (record facts { values = vs })) (sym (set_same facts.values v Nothing)) h)
  below_keeps v n (Cell c l s) is lt = subst (λ k. After (set_known v k facts)) is (subst (λ vs. After (record facts { values = vs })) (sym (set_same facts.values v Nothing)) h)
  below_keeps v n Null is lt = subst (λ k. After (set_known v k facts)) is (subst (λ vs. After (record facts { values = vs })) (sym (set_same facts.values v Nothing)) h)
  below_keeps v n (Address b w) is lt = subst (λ k. After (set_known v k facts)) is (subst (λ vs. After (record facts { values = vs })) (sym (set_same facts.values v Nothing)) h)
  below_keeps v n (GlobalAddress g) is lt = subst (λ k. After (set_known v k facts)) is (subst (λ vs. After (record facts { values = vs })) (sym (set_same facts.values v Nothing)) h)

  below_learned : (v n : ℕ) → ((a : ℕ) → register_at registers v ≡ value.Number a → a < n) → After (learn_below v n facts)
  below_learned v n lt = below_keeps v n (known_at facts.values v) refl lt

  up_to_learned : (v n : ℕ) → ((a : ℕ) → register_at registers v ≡ value.Number a → a ≤ n) → After (learn_up_to v n facts)
  up_to_learned v n le = pick (nat_lt n 18446744073709551615) where
    pick : (b : Bool) → After (if b then learn_below v (suc n) facts else facts)
    pick true = below_learned v (suc n) (λ a e. let x = le a e in omega (arith, x))
    pick false = h

  -- a comparison of a number with a constant, on the edge that it decides
  number_learned : (v n bits : ℕ) (kind : Comparison) (taken : Bool) → ((a : ℕ) → register_at registers v ≡ value.Number a → compares kind bits a (wrapped bits n) ≡ taken) → After (learn_number_test v n kind taken facts)
  number_learned v n bits UnsignedLess true d = below_learned v n (λ a e. let x = lt_true a (wrapped bits n) (d a e) in let y = wrapped_le bits n in omega (arith, x, y))
  number_learned v n bits UnsignedLess false d = h
  number_learned v n bits UnsignedLessOrEqual true d = up_to_learned v n (λ a e. let x = le_is a (wrapped bits n) (d a e) in let y = wrapped_le bits n in omega (arith, x, y))
  number_learned v n bits UnsignedLessOrEqual false d = h
  number_learned v n bits Equal true d = up_to_learned v n (λ a e. let x = test_true a (wrapped bits n) (d a e) in let y = wrapped_le bits n in omega (arith, x, y))
  number_learned v n bits Equal false d = h
  number_learned v n bits NotEqual false d = up_to_learned v n (λ a e. let x = test_true a (wrapped bits n) (not_is (a == wrapped bits n) false (d a e)) in let y = wrapped_le bits n in omega (arith, x, y))
  number_learned v n bits NotEqual true d = h
  number_learned v n bits UnsignedGreaterOrEqual false d = below_learned v n (λ a e. let x = le_not (wrapped bits n) a (d a e) in let y = wrapped_le bits n in omega (arith, x, y))
  number_learned v n bits UnsignedGreaterOrEqual true d = h
  number_learned v n bits UnsignedGreater false d = up_to_learned v n (λ a e. let x = lt_false (wrapped bits n) a (d a e) in let y = wrapped_le bits n in omega (arith, x, y))
  number_learned v n bits UnsignedGreater true d = h
  number_learned v n bits SignedGreater taken d = h
  number_learned v n bits SignedGreaterOrEqual taken d = h
  number_learned v n bits SignedLess taken d = h
  number_learned v n bits SignedLessOrEqual taken d = h

  nonnull_learned : (v : ℕ) (k : Known) → known_at facts.values v ≡ k → register_at registers v ≢ value.Null → After (learn_known_nonnull k facts)
  nonnull_learned v (Cell c l s) is ne =
      let m = subst (λ k. Means heap p guarded log cells (length facts.classes) registers k (register_at registers v)) is (h.values v) in
      learn_keeps heap p table guarded log cells facts registers slots h c true (λ z w. ne (m.is ∙ w))
  nonnull_learned v Nothing is ne = h
  nonnull_learned v (Number n b) is ne = h
  nonnull_learned v Null is ne = h
  nonnull_learned v (Address b w) is ne = h
  nonnull_learned v (GlobalAddress g) is ne = h

  -- the comparison that gave a condition, on the edge that the condition decides
  pub test_learned : (v : ℕ) (t : Option Test) (taken : Bool) → WasTested p.of_module registers t (register_at registers v) → Decides (register_at registers v) taken → After (learn_test t taken facts)
  test_learned v None taken w d = h
  test_learned v (Some t) taken w d = by t.constant refl where
    by_null : (kind : Comparison) (taken : Bool) → Decides (compared kind (bits_at p.of_module w.0) (register_at registers t.tested) value.Null) taken → After (learn_null_test t.tested kind taken facts)
    by_null Equal false d = nonnull_learned t.tested (known_at facts.values t.tested) refl (λ z. let y = subst (λ x. Decides (compared Equal (bits_at p.of_module w.0) x value.Null) false) z d in omega (arith, y))
    by_null Equal true d = h
    by_null NotEqual true d = nonnull_learned t.tested (known_at facts.values t.tested) refl (λ z. let y = subst (λ x. Decides (compared NotEqual (bits_at p.of_module w.0) x value.Null) true) z d in y refl)
    by_null NotEqual false d = h
    by_null UnsignedGreater taken d = h
    by_null UnsignedGreaterOrEqual taken d = h
    by_null UnsignedLess taken d = h
    by_null UnsignedLessOrEqual taken d = h
    by_null SignedGreater taken d = h
    by_null SignedGreaterOrEqual taken d = h
    by_null SignedLess taken d = h
    by_null SignedLessOrEqual taken d = h

    by : (c : Constant) → t.constant ≡ c → After (learn_constant_test t.tested c t.kind taken facts)
    by (constant.Number n) is = number_learned t.tested n (bits_at p.of_module w.0) t.kind taken (λ a e.
        let q = subst (λ x. Decides x taken) (w.1 ∙ ap (λ y. compared t.kind (bits_at p.of_module w.0) y (constant_value p.of_module w.0 t.constant)) e ∙ ap (λ y. compared t.kind (bits_at p.of_module w.0) (value.Number a) (constant_value p.of_module w.0 y)) is) d in
        truth_is (compares t.kind (bits_at p.of_module w.0) a (wrapped (bits_at p.of_module w.0) n)) taken q)
    by constant.Null is = by_null t.kind taken (subst (λ x. Decides x taken) (w.1 ∙ ap (λ y. compared t.kind (bits_at p.of_module w.0) (register_at registers t.tested) (constant_value p.of_module w.0 y)) is) d)
    by (constant.Float n) is = h
    by (constant.Truth b) is = h
