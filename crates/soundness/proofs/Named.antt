-- Fresh classes that have a value: the cells of the others may be forgotten.
use Rattle.std.proofs.Common.{◌≡◌, ℕ, List, length, refl, sym, ap, ◌∙◌, subst, true, false, Bool, Some}
use Rattle.std.specs.Prelude.{◌&&◌, not, if◌then◌else◌}
use Rattle.std.specs.List.{list_any}
use Rattle.soundness.proofs.Members.{any_found}
use Rattle.lemmas.specs.Numbers.{test_true}
use Rattle.lemmas.specs.Bools.{and_parts, not_true}
use Rattle.pools.specs.Heap.{Setup}
use Rattle.layout.specs.Layouts.{LaidOut}
use Rattle.shadow_stack.specs.Slots.{SlotTable}
use Rattle.fact_tables.specs.declared.known.Known.{Known}
use Rattle.fact_tables.specs.declared.known.Known.TheVariants.{Nothing, Number, Cell, Null, Address, GlobalAddress}
use Rattle.fact_tables.specs.Rows.{known_at, slot_at, class_at, is_of}
use Rattle.facts.specs.Facts.{FactSet}
use Rattle.machine.specs.declared.value.Reference.{Reference}
use Rattle.machine.specs.declared.value.Value.{Value}
use Rattle.machine.specs.declared.value.Value.TheVariants as value
use Rattle.machine.specs.Kinds.{register_at}
use Rattle.machine.specs.Machine.{slot_value}
use Rattle.machine.specs.Log.{Log, Held}
use Rattle.soundness.specs.Meaning.{Cells, Guarded, IsNullOrFresh, AreApart, Means, ClassMeans, Holds}
use Rattle.soundness.proofs.Keep.{found, classes_log_keeps}

-- some value is of a class
abbrev pub IsNamed : List Known → ℕ → Type 0
IsNamed values c = (w : ℕ) × (l : ℕ) × (stale : Bool) × (known_at values w ≡ Cell c l stale)

-- a value that is of the class is one that has it
named_by : (c : ℕ) (k : Known) → is_of c k ≡ true → (l : ℕ) × (stale : Bool) × (k ≡ Cell c l stale)
named_by c (Cell d l stale) e = (l, stale, ap (λ x. Cell x l stale) (test_true d c e))
named_by c Nothing e = absurd cc
named_by c (Number bits below) e = absurd cc
named_by c Null e = absurd cc
named_by c (Address base words) e = absurd cc
named_by c (GlobalAddress symbol) e = absurd cc

-- a fresh class has no value
abbrev is_unnamed : FactSet → ℕ → Bool
is_unnamed facts c = (class_at facts.classes c).fresh && not (list_any (is_of c) facts.values)

-- the values of the classes, without those of fresh classes that no value is of
abbrev pub named_cells : FactSet → Cells → Cells
named_cells facts cells c = if is_unnamed facts c then value.Unset else cells c

-- a class that has a value keeps its own
stays : (facts : FactSet) (cells : Cells) (c : ℕ) → IsNamed facts.values c → named_cells facts cells c ≡ cells c
stays facts cells c n = pick (is_unnamed facts c) refl where
  pick : (b : Bool) → is_unnamed facts c ≡ b → (if b then value.Unset else cells c) ≡ cells c
  pick false e = refl
  pick true e =
      let none = not_true (list_any (is_of c) facts.values) (and_parts (class_at facts.classes c).fresh (not (list_any (is_of c) facts.values)) e).1 in
      let some = found facts.values n.0 c n.1 n.2 n.3 in
      absurd cc

-- a property of a class's own value, which nothing has where the class is fresh and no value is of it
pub by_named : (P : Value → Type 0) (facts : FactSet) (cells : Cells) (c : ℕ) → P value.Unset → ((class_at facts.classes c).fresh ≡ true → IsNamed facts.values c → P (cells c)) → ((class_at facts.classes c).fresh ≡ false → P (cells c)) → P (named_cells facts cells c)
by_named P facts cells c none fresh other = by (class_at facts.classes c).fresh (list_any (is_of c) facts.values) refl refl where
  by : (fr some : Bool) → (class_at facts.classes c).fresh ≡ fr → list_any (is_of c) facts.values ≡ some → P (if fr && not some then value.Unset else cells c)
  by true false e z = none
  by true true e z = fresh e (any_found c facts.values z)
  by false some e z = other e

module _ (heap : Setup) (p : LaidOut) (table : SlotTable) (guarded : Guarded) (log : Log) (cells : Cells) (facts : FactSet) (registers slots : List Value) (h : Holds heap p table guarded log cells facts registers slots) where
  means_named : (v : ℕ) (k : Known) (x : Value) → known_at facts.values v ≡ k → Means heap p guarded log cells (length facts.classes) registers k x → Means heap p guarded log (named_cells facts cells) (length facts.classes) registers k x
  means_named v Nothing x is m = m
  means_named v (Number bits below) x is m = m
  means_named v (Cell c l s) x is m = record { is = m.is ∙ sym (stays facts cells c (v, l, s, is)); within = m.within; refers = m.refers; own = m.own }
  means_named v Null x is m = m
  means_named v (Address base words) x is m = m
  means_named v (GlobalAddress symbol) x is m = m

  -- the facts hold on, where the slots hold no fresh class without a value
  pub named_keeps : ((s c : ℕ) → (slot_at facts.slots s).holds ≡ Some c → (class_at facts.classes c).fresh ≡ true → IsNamed facts.values c) → Holds heap p table guarded log (named_cells facts cells) facts registers slots
  named_keeps in_slots = record {
    registers_size = h.registers_size;
    tests_size = h.tests_size;
    slots_size = h.slots_size;
    held_size = h.held_size;
    values = λ v. means_named v (known_at facts.values v) (register_at registers v) refl (h.values v);
    classes = λ c. by_named (ClassMeans log (class_at facts.classes c)) facts cells c (record { nonnull = λ z e. absurd cc; fresh = λ z. tt }) (λ e n. h.classes c) (λ e. h.classes c);
    tests = h.tests;
    slot_types = h.slot_types;
    slot_facts = λ s. let m = h.slot_facts s in record { nonnull = m.nonnull; holds = λ c e. let x = m.holds c e in (slot_stays s c e x.0, x.1) };
    alone = λ v w c d l k stale ea eb fr ne.
        subst (λ x. AreApart x (named_cells facts cells d)) (sym (stays facts cells c (v, l, stale, ea))) (subst (AreApart (cells c)) (sym (stays facts cells d (w, k, false, eb))) (h.alone v w c d l k stale ea eb fr ne));
    alone_in_slots = λ v s c l stale ea fr out. subst (λ x. AreApart x (slot_value slots s)) (sym (stays facts cells c (v, l, stale, ea))) (h.alone_in_slots v s c l stale ea fr out);
  } where
    slot_stays : (s c : ℕ) → (slot_at facts.slots s).holds ≡ Some c → slot_value slots s ≡ cells c → slot_value slots s ≡ named_cells facts cells c
    slot_stays s c e is = pick (class_at facts.classes c).fresh refl where
      pick : (fr : Bool) → (class_at facts.classes c).fresh ≡ fr → slot_value slots s ≡ named_cells facts cells c
      pick true z = is ∙ sym (stays facts cells c (in_slots s c e z))
      pick false z = is ∙ sym (ap (λ b. if b && not (list_any (is_of c) facts.values) then value.Unset else cells c) z)

-- in a log in which nothing held is lost, and the values of the fresh classes that have one stay fresh
pub log_keeps_named : (heap : Setup) (p : LaidOut) (table : SlotTable) (guarded : Guarded) (log : Log) (cells : Cells) (facts : FactSet) (registers slots : List Value) → Holds heap p table guarded log cells facts registers slots
    → (later : Log) → ((r : Reference) → Held log r → Held later r)
    → ((c w l : ℕ) (s : Bool) → known_at facts.values w ≡ Cell c l s → (class_at facts.classes c).fresh ≡ true → IsNullOrFresh log (cells c) → IsNullOrFresh later (cells c))
    → ((s c : ℕ) → (slot_at facts.slots s).holds ≡ Some c → (class_at facts.classes c).fresh ≡ true → IsNamed facts.values c) → Holds heap p table guarded later (named_cells facts cells) facts registers slots
log_keeps_named heap p table guarded log cells facts registers slots h later held fresh in_slots =
    classes_log_keeps heap p table guarded log (named_cells facts cells) facts registers slots (named_keeps heap p table guarded log cells facts registers slots h in_slots) later held
    (λ c fr. by_named (λ v. IsNullOrFresh log v → IsNullOrFresh later v) facts cells c (λ z. z) (λ e n z. fresh c n.0 n.1 n.2 n.3 e z) (λ e z. absurd cc))
