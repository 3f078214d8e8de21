-- What a change of the facts, beside the change of the thread that it goes with, keeps.
use Rattle.std.proofs.Common.{◌≡◌, ◌≢◌, ℕ, zero, suc, ◌<◌, ◌≤◌, List, [], ◌∷◌, length, map, refl, sym, ap, ◌∙◌, subst, arith, true, false, Bool, Option, Some, None, slice_set, inl, inr}
use Rattle.std.proofs.lemmas.List.{length-map, length-set}
use Rattle.std.specs.Prelude.{◌==◌, ◌||◌, ◌⊎◌, if◌then◌else◌}
use Rattle.std.specs.List.{list_any}
use Rattle.lemmas.specs.Lists.{at_map}
use Rattle.lemmas.specs.Numbers.{test_true, test_yes, test_false}
use Rattle.lemmas.specs.Bools.{or_parts, or_second}
use Rattle.pools.specs.Heap.{Setup}
use Rattle.layout.specs.Layouts.{LaidOut}
use Rattle.shadow_stack.specs.Slots.{SlotTable, held_type, slot_layout}
use Rattle.fact_tables.specs.declared.known.Class.{Class}
use Rattle.fact_tables.specs.declared.known.Known.{Known}
use Rattle.fact_tables.specs.declared.known.Known.TheVariants.{Nothing, Number, Cell, Null, Address, GlobalAddress}
use Rattle.fact_tables.specs.declared.known.SlotFact.{SlotFact}
use Rattle.fact_tables.specs.declared.known.Test.{Test}
use Rattle.fact_tables.specs.Rows.{known_at, slot_at, class_at, test_at, open_slot, is_of, holds_class, let_go, off_base, off_test, values_without}
use Rattle.facts.specs.Facts.{FactSet, slots_without, forget, set_known}
use Rattle.machine.specs.declared.value.Reference.{Reference}
use Rattle.machine.specs.declared.value.Value.{Value}
use Rattle.machine.specs.declared.value.Value.TheVariants as value
use Rattle.machine.specs.Kinds.{register_at, bits_at, constant_value}
use Rattle.machine.specs.Machine.{slot_value, compared}
use Rattle.machine.specs.Log.{Log, Held, IsFresh}
use Rattle.soundness.specs.Meaning.{Cells, Guarded, IsOwn, IsNullOrFresh, AreApart, IsAddressOf, IsMember, Means, ClassMeans, WasTested, FitsReference, FitsSlot, SlotMeans, Holds}
use Rattle.soundness.proofs.Lists.{at_set2, at_set, not_both, got}

-- another place than the one written, by `slice_get`
pub got_other : {X : Type 0} (xs : List X) (i j : ℕ) (a d : X) → i ≢ j → got d (slice_set xs i a) j ≡ got d xs j
got_other [] i j a d ne = refl
got_other (x ∷ xs) zero zero a d ne = absurd (ne refl)
got_other (x ∷ xs) zero (suc j) a d ne = refl
got_other (x ∷ xs) (suc i) zero a d ne = refl
got_other (x ∷ xs) (suc i) (suc j) a d ne = got_other xs i j a d (λ e. ne (ap suc e))

-- a value that is a reference after a write is the one written, or was one
pub set_cell : (values : List Known) (v j : ℕ) (k : Known) (c l : ℕ) (s : Bool) → known_at (slice_set values v k) j ≡ Cell c l s → ((v ≡ j) × (k ≡ Cell c l s)) ⊎ (known_at values j ≡ Cell c l s)
set_cell values v j k c l s =
    at_set (λ x. x ≡ Cell c l s → ((v ≡ j) × (k ≡ Cell c l s)) ⊎ (known_at values j ≡ Cell c l s)) values v j k Nothing (λ e lt is. inl (e, is)) (λ ne is. inr is) (λ is. absurd cc)

pub off_cell : (v : ℕ) (k : Known) (c l : ℕ) (s : Bool) → off_base v k ≡ Cell c l s → k ≡ Cell c l s
off_cell v Nothing c l s e = e
off_cell v (Number n b) c l s e = e
off_cell v (Cell d k t) c l s e = e
off_cell v Null c l s e = e
off_cell v (Address x w) c l s e = pick (x == v) e where
  pick : (b : Bool) → (if b then Nothing else Address x w) ≡ Cell c l s → Address x w ≡ Cell c l s
  pick true h = absurd cc
  pick false h = h
off_cell v (GlobalAddress g) c l s e = e

pub forget_cell : (v : ℕ) (values : List Known) (j c l : ℕ) (s : Bool) → known_at (values_without v values) j ≡ Cell c l s → known_at values j ≡ Cell c l s
forget_cell v values j c l s =
    at_set (λ x. x ≡ Cell c l s → known_at values j ≡ Cell c l s) (map (off_base v) values) v j Nothing Nothing
    (λ e lt is. absurd cc)
    (λ ne is. off_cell v (known_at values j) c l s (sym (at_map (off_base v) values j Nothing refl) ∙ is))
    (λ is. absurd cc)

-- a class with a known value is found
pub found : (values : List Known) (j c l : ℕ) (s : Bool) → known_at values j ≡ Cell c l s → list_any (is_of c) values ≡ true
found [] j c l s e = absurd cc
found (x ∷ values) zero c l s e = ap (λ b. b || list_any (is_of c) values) (ap (is_of c) e ∙ test_yes c c refl)
found (x ∷ values) (suc j) c l s e = or_second (is_of c x) _ (found values j c l s e)

without_length : (k : Known) (values : List Known) (classes : List Class) (slots : List SlotFact) → length (slots_without k values classes slots) ≡ length slots
without_length (Cell c l s) values classes slots = pick (list_any (is_of c) values) where
  pick : (b : Bool) → length (if b then slots else map (let_go c (class_at classes c).nonnull) slots) ≡ length slots
  pick true = refl
  pick false = length-map slots _
without_length Nothing values classes slots = refl
without_length (Number n b) values classes slots = refl
without_length Null values classes slots = refl
without_length (Address x w) values classes slots = refl
without_length (GlobalAddress g) values classes slots = refl

module _ (log : Log) (cells : Cells) (count : ℕ) (classes : List Class) (classes_mean : (c : ℕ) → ClassMeans log (class_at classes c) (cells c)) where
  let_go_means : (c : ℕ) (slot : SlotFact) (v : Value) → SlotMeans cells count slot v → SlotMeans cells count (let_go c (class_at classes c).nonnull slot) v
  let_go_means c slot v m = pick (holds_class c slot.holds) refl where
    of_class : (holds : Option ℕ) → slot.holds ≡ holds → holds_class c holds ≡ true → v ≡ cells c
    of_class None is e = absurd cc
    of_class (Some d) is e = (m.holds d is).0 ∙ ap cells (test_true d c e)

    lost : holds_class c slot.holds ≡ true → (slot.nonnull ≡ true) ⊎ ((class_at classes c).nonnull ≡ true) → v ≢ value.Null
    lost e (inl z) = m.nonnull z
    lost e (inr z) = λ w. (classes_mean c).nonnull z (sym (of_class slot.holds refl e) ∙ w)

    pick : (b : Bool) → holds_class c slot.holds ≡ b → SlotMeans cells count (if b then record slot { nonnull = slot.nonnull || (class_at classes c).nonnull; holds = None } else slot) v
    pick true e = record { nonnull = λ z. lost e (or_parts slot.nonnull (class_at classes c).nonnull z); holds = λ d z. absurd cc }
    pick false e = m

  pub without_means : (k : Known) (values : List Known) (slots : List SlotFact) (s : ℕ) (v : Value) → SlotMeans cells count (slot_at slots s) v → SlotMeans cells count (slot_at (slots_without k values classes slots) s) v
  without_means (Cell c l t) values slots s v m = pick (list_any (is_of c) values) where
    pick : (b : Bool) → SlotMeans cells count (slot_at (if b then slots else map (let_go c (class_at classes c).nonnull) slots) s) v
    pick true = m
    pick false = subst (λ x. SlotMeans cells count x v) (sym (at_map (let_go c (class_at classes c).nonnull) slots s open_slot refl)) (let_go_means c (slot_at slots s) v m)
  without_means Nothing values slots s v m = m
  without_means (Number n b) values slots s v m = m
  without_means Null values slots s v m = m
  without_means (Address x w) values slots s v m = m
  without_means (GlobalAddress g) values slots s v m = m

-- a slot that does not hold a class after the end of a value did not hold it before
pub without_same : (k : Known) (values : List Known) (classes : List Class) (slots : List SlotFact) (s j c l : ℕ) (st : Bool) → known_at values j ≡ Cell c l st → holds_class c (slot_at (slots_without k values classes slots) s).holds ≡ false → holds_class c (slot_at slots s).holds ≡ false
without_same (Cell d k t) values classes slots s j c l st is e = pick (list_any (is_of d) values) refl e where
  go : (b : Bool) → holds_class d (slot_at slots s).holds ≡ b → list_any (is_of d) values ≡ false → holds_class c (if b then record (slot_at slots s) { nonnull = (slot_at slots s).nonnull || (class_at classes d).nonnull; holds = None } else slot_at slots s).holds ≡ false → holds_class c (slot_at slots s).holds ≡ false
  go false z none w = w
  go true z none w = by (slot_at slots s).holds refl z where
    by : (holds : Option ℕ) → (slot_at slots s).holds ≡ holds → holds_class d holds ≡ true → holds_class c (slot_at slots s).holds ≡ false
    by None is2 y = absurd cc
    by (Some x) is2 y = other (x == c) refl where
      other : (b : Bool) → (x == c) ≡ b → holds_class c (slot_at slots s).holds ≡ false
      other false q = ap (holds_class c) is2 ∙ q
      other true q = let dc : c ≡ d = sym (test_true x c q) ∙ test_true x d y in absurd (not_both (list_any (is_of d) values) (subst (λ y. list_any (is_of y) values ≡ true) dc (found values j c l st is)) none)

  pick : (b : Bool) → list_any (is_of d) values ≡ b → holds_class c (slot_at (if b then slots else map (let_go d (class_at classes d).nonnull) slots) s).holds ≡ false → holds_class c (slot_at slots s).holds ≡ false
  pick true z w = w
  pick false z w = go (holds_class d (slot_at slots s).holds) refl z (sym (ap (λ x. holds_class c x.holds) (at_map (let_go d (class_at classes d).nonnull) slots s open_slot refl)) ∙ w)
without_same Nothing values classes slots s j c l st is e = e
without_same (Number n b) values classes slots s j c l st is e = e
without_same Null values classes slots s j c l st is e = e
without_same (Address x w) values classes slots s j c l st is e = e
without_same (GlobalAddress g) values classes slots s j c l st is e = e

module _ (heap : Setup) (p : LaidOut) (table : SlotTable) (guarded : Guarded) where
  -- what a statement says that does not name the register that is written
  pub means_without : (log : Log) (cells : Cells) (count : ℕ) (registers : List Value) (v : ℕ) (new : Value) (k : Known) (register : Value) → Means heap p guarded log cells count registers k register → Means heap p guarded log cells count (slice_set registers v new) (off_base v k) register
  means_without log cells count registers v new Nothing register h = tt
  means_without log cells count registers v new (Number n b) register h = h
  means_without log cells count registers v new (Cell c l s) register h = h
  means_without log cells count registers v new Null register h = h
  means_without log cells count registers v new (Address x w) register h = pick (x == v) refl where
    pick : (b : Bool) → (x == v) ≡ b → Means heap p guarded log cells count (slice_set registers v new) (if b then Nothing else Address x w) register
    pick true e = tt
    pick false e = subst (λ y. IsAddressOf p w y register) (sym (got_other registers v x new value.Unset (λ z. test_false x v e (sym z)))) h
  means_without log cells count registers v new (GlobalAddress g) register h = h

  tested_without : (registers : List Value) (v : ℕ) (new : Value) (t : Option Test) (register : Value) → WasTested p.of_module registers t register → WasTested p.of_module (slice_set registers v new) (off_test v t) register
  tested_without registers v new None register h = tt
  tested_without registers v new (Some t) register h = pick (t.tested == v) refl where
    pick : (b : Bool) → (t.tested == v) ≡ b → WasTested p.of_module (slice_set registers v new) (if b then None else Some t) register
    pick true e = tt
    pick false e = subst (λ y. (written : ℕ) × (register ≡ compared t.kind (bits_at p.of_module written) y (constant_value p.of_module written t.constant))) (sym (got_other registers v t.tested new value.Unset (λ z. test_false t.tested v e (sym z)))) h

  module _ (log : Log) (cells : Cells) (facts : FactSet) (registers slots : List Value) where
    -- the statements that name v end, and its register is written
    pub forget_keeps : (v : ℕ) (new : Value) → Holds heap p table guarded log cells facts registers slots → Holds heap p table guarded log cells (forget v facts) (slice_set registers v new) slots
    forget_keeps v new h = record {
      registers_size = length-set registers v new ∙ h.registers_size ∙ sym (length-set (map (off_base v) facts.values) v Nothing ∙ length-map facts.values (off_base v));
      tests_size = length-set registers v new ∙ h.tests_size ∙ sym (length-set (map (off_test v) facts.tests) v None ∙ length-map facts.tests (off_test v));
      slots_size = h.slots_size ∙ sym (without_length (known_at facts.values v) (values_without v facts.values) facts.classes facts.slots);
      held_size = h.held_size;
      values = λ j. at_set2 (Means heap p guarded log cells (length facts.classes) (slice_set registers v new)) (map (off_base v) facts.values) registers v j Nothing Nothing new value.Unset
          (length-map facts.values (off_base v) ∙ sym h.registers_size) (λ e. tt)
          (λ ne. subst (λ k. Means heap p guarded log cells (length facts.classes) (slice_set registers v new) k (register_at registers j)) (sym (at_map (off_base v) facts.values j Nothing refl)) (means_without log cells (length facts.classes) registers v new (known_at facts.values j) (register_at registers j) (h.values j)))
          tt;
      classes = h.classes;
      tests = λ j. at_set2 (WasTested p.of_module (slice_set registers v new)) (map (off_test v) facts.tests) registers v j None None new value.Unset
          (length-map facts.tests (off_test v) ∙ sym h.tests_size) (λ e. tt)
          (λ ne. subst (λ t. WasTested p.of_module (slice_set registers v new) t (register_at registers j)) (sym (at_map (off_test v) facts.tests j None refl)) (tested_without registers v new (test_at facts.tests j) (register_at registers j) (h.tests j)))
          tt;
      slot_types = h.slot_types;
      slot_facts = λ s. without_means log cells (length facts.classes) facts.classes h.classes (known_at facts.values v) (values_without v facts.values) facts.slots s (slot_value slots s) (h.slot_facts s);
      alone = λ a b c d l k st ea eb. h.alone a b c d l k st (forget_cell v facts.values a c l st ea) (forget_cell v facts.values b d k false eb);
      alone_in_slots = λ a s c l st ea fr out. h.alone_in_slots a s c l st (forget_cell v facts.values a c l st ea) fr (without_same (known_at facts.values v) (values_without v facts.values) facts.classes facts.slots s a c l st ea out);
    }

-- what a new statement must meet beside the others
pub record Beside (cells : Cells) (facts : FactSet) (slots : List Value) (k : Known) : Type 0 where
  pub fresh_here : (c l : ℕ) (s : Bool) → k ≡ Cell c l s → (class_at facts.classes c).fresh ≡ true → (w d m : ℕ) → known_at facts.values w ≡ Cell d m false → c ≢ d → AreApart (cells c) (cells d)
  pub fresh_there : (d m : ℕ) → k ≡ Cell d m false → (w c l : ℕ) (s : Bool) → known_at facts.values w ≡ Cell c l s → (class_at facts.classes c).fresh ≡ true → c ≢ d → AreApart (cells c) (cells d)
  pub fresh_slots : (c l : ℕ) (s : Bool) → k ≡ Cell c l s → (class_at facts.classes c).fresh ≡ true → (t : ℕ) → holds_class c (slot_at facts.slots t).holds ≡ false → AreApart (cells c) (slot_value slots t)

-- what is no reference meets this beside all others
pub plain_beside : (cells : Cells) (facts : FactSet) (slots : List Value) (k : Known) → ((c l : ℕ) (s : Bool) → k ≡ Cell c l s → ⊥) → Beside cells facts slots k
plain_beside cells facts slots k none = record {
  fresh_here = λ c l s e. absurd (none c l s e);
  fresh_there = λ d m e. absurd (none d m false e);
  fresh_slots = λ c l s e. absurd (none c l s e);
}

module _ (heap : Setup) (p : LaidOut) (table : SlotTable) (guarded : Guarded) (log : Log) (cells : Cells) (facts : FactSet) (registers slots : List Value) (h : Holds heap p table guarded log cells facts registers slots) where
  -- a statement of v, whose register is as it says
  pub put_keeps : (v : ℕ) (k : Known) → (v < length registers → Means heap p guarded log cells (length facts.classes) registers k (register_at registers v)) → Beside cells facts slots k → Holds heap p table guarded log cells (set_known v k facts) registers slots
  put_keeps v k means beside = record {
    registers_size = h.registers_size ∙ sym (length-set facts.values v k);
    tests_size = h.tests_size;
    slots_size = h.slots_size;
    held_size = h.held_size;
    values = λ j. at_set (λ x. Means heap p guarded log cells (length facts.classes) registers x (register_at registers j)) facts.values v j k Nothing
        (λ e lt. subst (λ y. Means heap p guarded log cells (length facts.classes) registers k (register_at registers y)) e (means (omega (arith, lt, h.registers_size))))
        (λ ne. h.values j)
        tt;
    classes = h.classes;
    tests = h.tests;
    slot_types = h.slot_types;
    slot_facts = h.slot_facts;
    alone = λ a b c d l m st ea eb. pair a b c d l m st (set_cell facts.values v a k c l st ea) (set_cell facts.values v b k d m false eb);
    alone_in_slots = λ a s c l st ea fr out. single a s c l st (set_cell facts.values v a k c l st ea) fr out;
  } where
    pair : (a b c d l m : ℕ) (st : Bool) → ((v ≡ a) × (k ≡ Cell c l st)) ⊎ (known_at facts.values a ≡ Cell c l st) → ((v ≡ b) × (k ≡ Cell d m false)) ⊎ (known_at facts.values b ≡ Cell d m false) → (class_at facts.classes c).fresh ≡ true → c ≢ d → AreApart (cells c) (cells d)
    pair a b c d l m st (inl x) (inl y) fr ne = absurd (ne (let z : Cell c l st ≡ Cell d m false = sym x.1 ∙ y.1 in cc))
    pair a b c d l m st (inl x) (inr y) fr ne = beside.fresh_here c l st x.1 fr b d m y ne
    pair a b c d l m st (inr x) (inl y) fr ne = beside.fresh_there d m y.1 a c l st x fr ne
    pair a b c d l m st (inr x) (inr y) fr ne = h.alone a b c d l m st x y fr ne

    single : (a s c l : ℕ) (st : Bool) → ((v ≡ a) × (k ≡ Cell c l st)) ⊎ (known_at facts.values a ≡ Cell c l st) → (class_at facts.classes c).fresh ≡ true → holds_class c (slot_at facts.slots s).holds ≡ false → AreApart (cells c) (slot_value slots s)
    single a s c l st (inl x) fr out = beside.fresh_slots c l st x.1 fr s out
    single a s c l st (inr x) fr out = h.alone_in_slots a s c l st x fr out

  -- the class of a known reference is one of the table
  pub known_within : (v c l : ℕ) (s : Bool) → known_at facts.values v ≡ Cell c l s → IsMember heap guarded log cells (length facts.classes) c l s (register_at registers v)
  known_within v c l s e = subst (λ k. Means heap p guarded log cells (length facts.classes) registers k (register_at registers v)) e (h.values v)

  -- other classes, of which no more are fresh, with a valuation that agrees on those in use
  module _ (more : Cells) (classes : List Class) (grown : length facts.classes ≤ length classes) (agree : (c : ℕ) → c < length facts.classes → more c ≡ cells c) where
    member_agrees : (c l : ℕ) (s : Bool) (v : Value) → IsMember heap guarded log cells (length facts.classes) c l s v → IsMember heap guarded log more (length classes) c l s v
    member_agrees c l s v m = record { is = m.is ∙ sym (agree c m.within); within = omega (arith, grown, m.within); refers = m.refers; own = m.own }

    means_agree : (k : Known) (v : Value) → Means heap p guarded log cells (length facts.classes) registers k v → Means heap p guarded log more (length classes) registers k v
    means_agree Nothing v m = m
    means_agree (Number n b) v m = m
    means_agree (Cell c l s) v m = member_agrees c l s v m
    means_agree Null v m = m
    means_agree (Address x w) v m = m
    means_agree (GlobalAddress g) v m = m

    pub classes_keep : ((c : ℕ) → ClassMeans log (class_at classes c) (more c)) → ((c : ℕ) → c < length facts.classes → (class_at classes c).fresh ≡ true → (class_at facts.classes c).fresh ≡ true) → Holds heap p table guarded log more (record facts { classes = classes }) registers slots
    classes_keep means fewer = record {
      registers_size = h.registers_size;
      tests_size = h.tests_size;
      slots_size = h.slots_size;
      held_size = h.held_size;
      values = λ v. means_agree (known_at facts.values v) (register_at registers v) (h.values v);
      classes = means;
      tests = h.tests;
      slot_types = h.slot_types;
      slot_facts = λ s. let m = h.slot_facts s in record { nonnull = m.nonnull; holds = λ c e. let x = m.holds c e in (x.0 ∙ sym (agree c x.1), omega (arith, grown, x.1)) };
      alone = λ a b c d l m st ea eb fr ne.
          let ca = (known_within a c l st ea).within in
          let cb = (known_within b d m false eb).within in
          subst (λ x. AreApart x (more d)) (sym (agree c ca)) (subst (AreApart (cells c)) (sym (agree d cb)) (h.alone a b c d l m st ea eb (fewer c ca fr) ne));
      alone_in_slots = λ a s c l st ea fr out.
          let ca = (known_within a c l st ea).within in
          subst (λ x. AreApart x (slot_value slots s)) (sym (agree c ca)) (h.alone_in_slots a s c l st ea (fewer c ca fr) out);
    }

  -- a log in which nothing held is lost
  own_grows : (later : Log) → ((r : Reference) → Held log r → Held later r) → (v : Value) → IsOwn log guarded v → IsOwn later guarded v
  own_grows later held value.Unset o = o
  own_grows later held (value.Number n) o = o
  own_grows later held value.Null o = o
  own_grows later held (value.Cell l at) o = (held at o.0, o.1)
  own_grows later held (value.Address at) o = o

  fresh_grows : (later : Log) → ((cell : ℕ) → IsFresh log cell → IsFresh later cell) → (v : Value) → IsNullOrFresh log v → IsNullOrFresh later v
  fresh_grows later fresh value.Unset o = o
  fresh_grows later fresh (value.Number n) o = o
  fresh_grows later fresh value.Null o = o
  fresh_grows later fresh (value.Cell l at) o = fresh at.cell o
  fresh_grows later fresh (value.Address at) o = o

  module _ (later : Log) (held : (r : Reference) → Held log r → Held later r) where
    means_grow : (k : Known) (v : Value) → Means heap p guarded log cells (length facts.classes) registers k v → Means heap p guarded later cells (length facts.classes) registers k v
    means_grow Nothing v m = m
    means_grow (Number n b) v m = m
    means_grow (Cell c l s) v m = record { is = m.is; within = m.within; refers = m.refers; own = λ z. own_grows later held v (m.own z) }
    means_grow Null v m = m
    means_grow (Address x w) v m = m
    means_grow (GlobalAddress g) v m = m

    reference_grows : (layout : Option ℕ) (v : Value) → FitsReference heap guarded log layout v → FitsReference heap guarded later layout v
    reference_grows None v r = r
    reference_grows (Some l) v r = (r.0, own_grows later held v r.1)

    slot_grows : (held_type layout : Option ℕ) (v : Value) → FitsSlot heap p.of_module guarded log held_type layout v → FitsSlot heap p.of_module guarded later held_type layout v
    slot_grows None layout v r = r
    slot_grows (Some t) layout v r = record { with_type = r.with_type; integer = r.integer; reference = λ z. reference_grows layout v (r.reference z) }

    -- where the values of the fresh classes stay fresh
    pub classes_log_keeps : ((c : ℕ) → (class_at facts.classes c).fresh ≡ true → IsNullOrFresh log (cells c) → IsNullOrFresh later (cells c)) → Holds heap p table guarded later cells facts registers slots
    classes_log_keeps fresh = record {
      registers_size = h.registers_size;
      tests_size = h.tests_size;
      slots_size = h.slots_size;
      held_size = h.held_size;
      values = λ v. means_grow (known_at facts.values v) (register_at registers v) (h.values v);
      classes = λ c. record { nonnull = (h.classes c).nonnull; fresh = λ z. fresh c z ((h.classes c).fresh z) };
      tests = h.tests;
      slot_types = λ s. slot_grows (held_type table s) (slot_layout table s) (slot_value slots s) (h.slot_types s);
      slot_facts = h.slot_facts;
      alone = h.alone;
      alone_in_slots = h.alone_in_slots;
    }

    -- where no fresh cell is lost
    pub log_keeps : ((cell : ℕ) → IsFresh log cell → IsFresh later cell) → Holds heap p table guarded later cells facts registers slots
    log_keeps fresh = classes_log_keeps (λ c z. fresh_grows later fresh (cells c))
