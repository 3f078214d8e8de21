-- What definitions keep, and what the facts learn and lose.
use Rattle.std.proofs.Common.{◌≡◌, ◌≢◌, ℕ, zero, suc, ◌<◌, List, [], ◌∷◌, ◌++◌, length, get_or, refl, sym, ap, ◌∙◌, subst, arith, true, false, Bool, slice_set, inl, inr}
use Rattle.std.proofs.lemmas.List.{length-set}
use Rattle.std.specs.Prelude.{◌==◌, ◌||◌, ◌⊎◌, if◌then◌else◌}
use Rattle.lemmas.specs.Numbers.{test_true, test_yes}
use Rattle.lemmas.specs.Bools.{or_parts}
use Rattle.pools.specs.Heap.{Setup}
use Rattle.layout.specs.Layouts.{LaidOut}
use Rattle.shadow_stack.specs.Slots.{SlotTable}
use Rattle.fact_tables.specs.declared.known.Class.{Class}
use Rattle.fact_tables.specs.declared.known.Known.{Known}
use Rattle.fact_tables.specs.declared.known.Known.TheVariants.{Cell}
use Rattle.fact_tables.specs.Rows.{known_at, slot_at, class_at, lost_class, holds_class}
use Rattle.facts.specs.Facts.{FactSet, forget, define, add_class, drop_fresh, learn_nonnull}
use Rattle.machine.specs.declared.value.Value.{Value}
use Rattle.machine.specs.declared.value.Value.TheVariants as value
use Rattle.machine.specs.Machine.{slot_value}
use Rattle.machine.specs.Log.{Log}
use Rattle.soundness.specs.Meaning.{Cells, Guarded, IsReferenceTo, IsOwn, AreApart, IsMember, Means, ClassMeans, Holds}
use Rattle.soundness.proofs.Lists.{at_set, at_old, at_end, longer, got_set}
use Rattle.soundness.proofs.Keep.{forget_cell, forget_keeps, put_keeps, Beside, plain_beside, classes_keep, known_within}

-- a class more, with this value
abbrev pub extend : Cells → ℕ → Value → Cells
extend cells n v c = if c == n then v else cells c

pub extend_old : (cells : Cells) (n : ℕ) (v : Value) (c : ℕ) → c < n → extend cells n v c ≡ cells c
extend_old cells n v c lt = pick (c == n) refl where
  pick : (b : Bool) → (c == n) ≡ b → (if b then v else cells c) ≡ cells c
  pick true e = let z = test_true c n e in absurd (omega arith)
  pick false e = refl

pub extend_new : (cells : Cells) (n : ℕ) (v : Value) → extend cells n v n ≡ v
extend_new cells n v = rw (test_yes n n refl) refl

-- a property of the elements of a list with one more
pub at_more : {X : Type 0} (P : ℕ → X → Type 0) (xs : List X) (y d : X) (j : ℕ) → (j < length xs → P j (get_or xs j d)) → (j ≡ length xs → P j y) → P j d → P j (get_or (xs ++ y ∷ []) j d)
at_more P [] y d zero old new none = new refl
at_more P [] y d (suc j) old new none = none
at_more P (x ∷ xs) y d zero old new none = old (omega arith)
at_more P (x ∷ xs) y d (suc j) old new none = at_more (λ i. P (suc i)) xs y d j (λ lt. old (omega arith)) (λ e. new (ap suc e)) none

pub apart_turned : (a b : Value) → AreApart a b → AreApart b a
apart_turned (value.Cell l at) (value.Cell k there) h = λ e. h (sym e)
apart_turned value.Unset value.Unset h = tt
apart_turned value.Unset (value.Number n) h = tt
apart_turned value.Unset value.Null h = tt
apart_turned value.Unset (value.Cell k there) h = tt
apart_turned value.Unset (value.Address at) h = tt
apart_turned (value.Number m) value.Unset h = tt
apart_turned (value.Number m) (value.Number n) h = tt
apart_turned (value.Number m) value.Null h = tt
apart_turned (value.Number m) (value.Cell k there) h = tt
apart_turned (value.Number m) (value.Address at) h = tt
apart_turned value.Null value.Unset h = tt
apart_turned value.Null (value.Number n) h = tt
apart_turned value.Null value.Null h = tt
apart_turned value.Null (value.Cell k there) h = tt
apart_turned value.Null (value.Address at) h = tt
apart_turned (value.Cell l at) value.Unset h = tt
apart_turned (value.Cell l at) (value.Number n) h = tt
apart_turned (value.Cell l at) value.Null h = tt
apart_turned (value.Cell l at) (value.Address b) h = tt
apart_turned (value.Address a) value.Unset h = tt
apart_turned (value.Address a) (value.Number n) h = tt
apart_turned (value.Address a) value.Null h = tt
apart_turned (value.Address a) (value.Cell k there) h = tt
apart_turned (value.Address a) (value.Address b) h = tt

module _ (heap : Setup) (p : LaidOut) (table : SlotTable) (guarded : Guarded) (log : Log) (cells : Cells) (facts : FactSet) (registers slots : List Value) (h : Holds heap p table guarded log cells facts registers slots) where
  -- a class is fresh no more
  pub drop_keeps : (c : ℕ) → Holds heap p table guarded log cells (drop_fresh c facts) registers slots
  drop_keeps c = classes_keep heap p table guarded log cells facts registers slots h cells (slice_set facts.classes c (record (class_at facts.classes c) { fresh = false }))
      (omega (arith, length-set facts.classes c (record (class_at facts.classes c) { fresh = false }))) (λ d lt. refl)
      (λ d. at_set (λ x. ClassMeans log x (cells d)) facts.classes c d _ lost_class
      (λ e lt. record { nonnull = λ z. (h.classes d).nonnull (subst (λ y. (class_at facts.classes y).nonnull ≡ true) e z); fresh = λ z. absurd cc })
      (λ ne. h.classes d) (record { nonnull = λ z. absurd cc; fresh = λ z. absurd cc }))
      (λ d lt. at_set (λ x. x.fresh ≡ true → (class_at facts.classes d).fresh ≡ true) facts.classes c d _ lost_class (λ e lt z. absurd cc) (λ ne z. z) (λ z. absurd cc))

  -- a class is learned to be no null
  pub learn_keeps : (c : ℕ) (nonnull : Bool) → (nonnull ≡ true → cells c ≢ value.Null) → Holds heap p table guarded log cells (learn_nonnull c nonnull facts) registers slots
  learn_keeps c nonnull known = classes_keep heap p table guarded log cells facts registers slots h cells (slice_set facts.classes c class)
      (omega (arith, length-set facts.classes c class)) (λ d lt. refl)
      (λ d. at_set (λ x. ClassMeans log x (cells d)) facts.classes c d class lost_class
      (λ e lt. subst (λ y. ClassMeans log class (cells y)) e (record { nonnull = λ z. by (or_parts (class_at facts.classes c).nonnull nonnull z); fresh = (h.classes c).fresh }))
      (λ ne. h.classes d) (record { nonnull = λ z. absurd cc; fresh = λ z. absurd cc }))
      (λ d lt. at_set (λ x. x.fresh ≡ true → (class_at facts.classes d).fresh ≡ true) facts.classes c d class lost_class (λ e lt z. subst (λ y. (class_at facts.classes y).fresh ≡ true) e z) (λ ne z. z) (λ z. absurd cc)) where
        class : Class
        class = record (class_at facts.classes c) { nonnull = (class_at facts.classes c).nonnull || nonnull }

        by : ((class_at facts.classes c).nonnull ≡ true) ⊎ (nonnull ≡ true) → cells c ≢ value.Null
        by (inl z) = (h.classes c).nonnull z
        by (inr z) = known z

  -- v is given a value, of which this is known
  pub define_keeps : (v : ℕ) (k : Known) (new : Value) → Means heap p guarded log cells (length facts.classes) (slice_set registers v new) k new → Beside cells (forget v facts) slots k
      → Holds heap p table guarded log cells (define v k facts) (slice_set registers v new) slots
  define_keeps v k new means beside =
      put_keeps heap p table guarded log cells (forget v facts) (slice_set registers v new) slots (forget_keeps heap p table guarded log cells facts registers slots v new h) v k
      (λ lt. subst (Means heap p guarded log cells (length facts.classes) (slice_set registers v new) k) (sym (got_set registers v new value.Unset (omega (arith, lt, length-set registers v new)))) means)
      beside

  -- of which nothing is known but its kind
  pub define_plain : (v : ℕ) (k : Known) (new : Value) → ((c l : ℕ) (s : Bool) → k ≡ Cell c l s → ⊥) → Means heap p guarded log cells (length facts.classes) (slice_set registers v new) k new → Holds heap p table guarded log cells (define v k facts) (slice_set registers v new) slots
  define_plain v k new none means = define_keeps v k new means (plain_beside cells (forget v facts) slots k none)

  -- a class more
  pub add_keeps : (class : Class) (new : Value) → ClassMeans log class new → Holds heap p table guarded log (extend cells (length facts.classes) new) (add_class class facts) registers slots
  add_keeps class new means = classes_keep heap p table guarded log cells facts registers slots h (extend cells (length facts.classes) new) (facts.classes ++ class ∷ [])
      (omega (arith, longer facts.classes class)) (λ c lt. extend_old cells (length facts.classes) new c lt)
      (λ c. at_more (λ i x. ClassMeans log x (extend cells (length facts.classes) new i)) facts.classes class lost_class c
      (λ lt. subst (ClassMeans log (class_at facts.classes c)) (sym (extend_old cells (length facts.classes) new c lt)) (h.classes c))
      (λ e. subst (λ i. ClassMeans log class (extend cells (length facts.classes) new i)) (sym e) (subst (ClassMeans log class) (sym (extend_new cells (length facts.classes) new)) means))
      (record { nonnull = λ z. absurd cc; fresh = λ z. absurd cc }))
      (λ c lt z. sym (ap (λ x. x.fresh) (at_old facts.classes class c lost_class lt)) ∙ z)

  -- v is a reference of a new class
  pub new_keeps : (v layout : ℕ) (stale : Bool) (class : Class) (new : Value) → IsReferenceTo heap layout new → (stale ≡ false → IsOwn log guarded new) → ClassMeans log class new
      → (class.fresh ≡ true → (w d m : ℕ) → known_at facts.values w ≡ Cell d m false → AreApart new (cells d))
      → (stale ≡ false → (w c l : ℕ) (s : Bool) → known_at facts.values w ≡ Cell c l s → (class_at facts.classes c).fresh ≡ true → AreApart (cells c) new)
      → (class.fresh ≡ true → (t : ℕ) → AreApart new (slot_value slots t))
      → Holds heap p table guarded log (extend cells (length facts.classes) new) (define v (Cell (length facts.classes) layout stale) (add_class class facts)) (slice_set registers v new) slots
  new_keeps v layout stale class new refers own means apart_new apart_old apart_slots =
      put_keeps heap p table guarded log more (forget v next) (slice_set registers v new) slots (forget_keeps heap p table guarded log more next registers slots v new (add_keeps class new means)) v (Cell n layout stale)
      (λ lt. subst (IsMember heap guarded log more (length next.classes) n layout stale) (sym (got_set registers v new value.Unset (omega (arith, lt, length-set registers v new))))
      (record { is = sym (extend_new cells n new); within = omega (arith, longer facts.classes class); refers = refers; own = own }))
      (record { fresh_here = here; fresh_there = there; fresh_slots = in_slots }) where
        n : ℕ
        n = length facts.classes

        more : Cells
        more = extend cells (length facts.classes) new

        next : FactSet
        next = add_class class facts

        old_class : (c : ℕ) → c < length facts.classes → class_at next.classes c ≡ class_at facts.classes c
        old_class c lt = at_old facts.classes class c lost_class lt

        new_class : class_at next.classes (length facts.classes) ≡ class
        new_class = at_end facts.classes class lost_class

        here : (c l : ℕ) (s : Bool) → Cell n layout stale ≡ Cell c l s → (class_at next.classes c).fresh ≡ true → (w d m : ℕ) → known_at (forget v next).values w ≡ Cell d m false → c ≢ d → AreApart (more c) (more d)
        here c l s e fr w d m is ne =
            let cn : length facts.classes ≡ c = cc in
            let was = forget_cell v facts.values w d m false is in
            let dn : d < length facts.classes = (known_within heap p table guarded log cells facts registers slots h w d m false was).within in
            let fr2 : class.fresh ≡ true = sym (ap (λ x. x.fresh) new_class) ∙ subst (λ y. (class_at next.classes y).fresh ≡ true) (sym cn) fr in
            subst (λ x. AreApart x (more d)) (sym (extend_new cells (length facts.classes) new) ∙ ap more cn) (subst (AreApart new) (sym (extend_old cells (length facts.classes) new d dn)) (apart_new fr2 w d m was))

        there : (d m : ℕ) → Cell n layout stale ≡ Cell d m false → (w c l : ℕ) (s : Bool) → known_at (forget v next).values w ≡ Cell c l s → (class_at next.classes c).fresh ≡ true → c ≢ d → AreApart (more c) (more d)
        there d m e w c l s is fr ne =
            let dn : length facts.classes ≡ d = cc in
            let current : stale ≡ false = cc in
            let was = forget_cell v facts.values w c l s is in
            let cn : c < length facts.classes = (known_within heap p table guarded log cells facts registers slots h w c l s was).within in
            let fr2 : (class_at facts.classes c).fresh ≡ true = sym (ap (λ x. x.fresh) (old_class c cn)) ∙ fr in
            subst (AreApart (more c)) (sym (extend_new cells (length facts.classes) new) ∙ ap more dn) (subst (λ x. AreApart x new) (sym (extend_old cells (length facts.classes) new c cn)) (apart_old current w c l s was fr2))

        in_slots : (c l : ℕ) (s : Bool) → Cell n layout stale ≡ Cell c l s → (class_at next.classes c).fresh ≡ true → (t : ℕ) → holds_class c (slot_at (forget v next).slots t).holds ≡ false → AreApart (more c) (slot_value slots t)
        in_slots c l s e fr t out =
            let cn : length facts.classes ≡ c = cc in
            let fr2 : class.fresh ≡ true = sym (ap (λ x. x.fresh) new_class) ∙ subst (λ y. (class_at next.classes y).fresh ≡ true) (sym cn) fr in
            subst (λ x. AreApart x (slot_value slots t)) (sym (extend_new cells (length facts.classes) new) ∙ ap more cn) (apart_slots fr2 t)
