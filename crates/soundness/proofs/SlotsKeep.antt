-- What the write of a slot, or of what is known of one, keeps.
use Rattle.std.proofs.Common.{◌≡◌, ◌≢◌, ℕ, zero, suc, List, [], ◌∷◌, length, refl, sym, ap, ◌∙◌, subst, true, false, Bool, Option, Some, None, slice_set}
use Rattle.std.proofs.lemmas.List.{length-set}
use Rattle.pools.specs.Heap.{Setup}
use Rattle.layout.specs.Layouts.{LaidOut}
use Rattle.shadow_stack.specs.Slots.{SlotTable, held_type, slot_layout}
use Rattle.fact_tables.specs.declared.known.Known.TheVariants.{Cell}
use Rattle.fact_tables.specs.declared.known.SlotFact.{SlotFact}
use Rattle.fact_tables.specs.Rows.{known_at, slot_at, class_at, open_slot, lost_class, holds_class}
use Rattle.facts.specs.Facts.{FactSet, clear_slot, set_slot, drop_fresh, drop_held, end_slot}
use Rattle.machine.specs.declared.value.Value.{Value}
use Rattle.machine.specs.declared.value.Value.TheVariants as value
use Rattle.machine.specs.Machine.{slot_value}
use Rattle.machine.specs.Log.{Log}
use Rattle.soundness.specs.Meaning.{Cells, Guarded, AreApart, FitsSlot, SlotMeans, Holds}
use Rattle.std.specs.Prelude.{◌==◌}
use Rattle.lemmas.specs.Numbers.{test_true}
use Rattle.soundness.proofs.Lists.{at_set, at_set2, at_set_got, got}
use Rattle.soundness.proofs.Change.{apart_turned, drop_keeps}

-- what is at a place, written there again
pub same_written : {X : Type 0} (xs : List X) (i : ℕ) (d : X) → slice_set xs i (got d xs i) ≡ xs
same_written [] i d = refl
same_written (x ∷ xs) zero d = refl
same_written (x ∷ xs) (suc i) d = ap (λ ys. x ∷ ys) (same_written xs i d)

-- nothing is apart from what is not set
pub apart_unset : (v : Value) → AreApart v value.Unset
apart_unset v = apart_turned value.Unset v tt

-- what is known of a slot that holds this value: it is true, and no fresh class that the slot does not hold has the value
pub record Fits (cells : Cells) (facts : FactSet) (slot : SlotFact) (new : Value) : Type 0 where
  pub means : SlotMeans cells (length facts.classes) slot new
  pub apart : (v c l : ℕ) (stale : Bool) → known_at facts.values v ≡ Cell c l stale → (class_at facts.classes c).fresh ≡ true → holds_class c slot.holds ≡ false → AreApart (cells c) new

module _ (heap : Setup) (p : LaidOut) (table : SlotTable) (guarded : Guarded) (log : Log) (cells : Cells) (facts : FactSet) (registers slots : List Value) (h : Holds heap p table guarded log cells facts registers slots) where
  -- a slot takes a value, and this is known of it
  pub slot_keeps : (s : ℕ) (slot : SlotFact) (new : Value) → FitsSlot heap p.of_module guarded log (held_type table s) (slot_layout table s) new → Fits cells facts slot new
      → Holds heap p table guarded log cells (set_slot s slot facts) registers (slice_set slots s new)
  slot_keeps s slot new fits k = record {
    registers_size = h.registers_size;
    tests_size = h.tests_size;
    slots_size = length-set slots s new ∙ h.slots_size ∙ sym (length-set facts.slots s slot);
    held_size = length-set slots s new ∙ h.held_size;
    values = h.values;
    classes = h.classes;
    tests = h.tests;
    slot_types = λ t. at_set_got (FitsSlot heap p.of_module guarded log (held_type table t) (slot_layout table t)) slots s t new value.Unset (λ e. subst (λ x. FitsSlot heap p.of_module guarded log (held_type table x) (slot_layout table x) new) e fits) (h.slot_types t);
    slot_facts = λ t. at_set2 (SlotMeans cells (length facts.classes)) facts.slots slots s t slot open_slot new value.Unset (sym h.slots_size) (λ e. k.means) (λ ne. h.slot_facts t)
        (record { nonnull = λ z. absurd cc; holds = λ c z. absurd cc });
    alone = h.alone;
    alone_in_slots = λ v t c l st is fr. at_set2 (λ x y. holds_class c x.holds ≡ false → AreApart (cells c) y) facts.slots slots s t slot open_slot new value.Unset (sym h.slots_size)
        (λ e out. k.apart v c l st is fr out) (λ ne out. h.alone_in_slots v t c l st is fr out) (λ out. apart_unset (cells c));
  }

  -- this is known of a slot as it is
  pub fact_keeps : (s : ℕ) (slot : SlotFact) → Fits cells facts slot (slot_value slots s) → Holds heap p table guarded log cells (set_slot s slot facts) registers slots
  fact_keeps s slot k = subst (λ xs. Holds heap p table guarded log cells (set_slot s slot facts) registers xs) (same_written slots s value.Unset) (slot_keeps s slot (slot_value slots s) (h.slot_types s) k)

pub other_class : (d c : ℕ) → d ≢ c → (d == c) ≡ false
other_class d c ne = pick (d == c) refl where
  pick : (b : Bool) → (d == c) ≡ b → (d == c) ≡ false
  pick true e = absurd (ne (test_true d c e))
  pick false e = e

module _ (heap : Setup) (p : LaidOut) (table : SlotTable) (guarded : Guarded) (log : Log) (cells : Cells) (facts : FactSet) (registers slots : List Value) (h : Holds heap p table guarded log cells facts registers slots) where
  -- of a slot nothing is known any more
  pub end_keeps : (s : ℕ) → Holds heap p table guarded log cells (end_slot s facts) registers slots
  end_keeps s = by (slot_at facts.slots s).holds refl where
    opened : (g : FactSet) → SlotMeans cells (length g.classes) (record (slot_at g.slots s) { nonnull = false; holds = None }) (slot_value slots s)
    opened g = record { nonnull = λ z. absurd cc; holds = λ c z. absurd cc }

    by : (holds : Option ℕ) → (slot_at facts.slots s).holds ≡ holds → Holds heap p table guarded log cells (clear_slot s (drop_held holds facts)) registers slots
    by None e = fact_keeps heap p table guarded log cells facts registers slots h s _ (record {
      means = opened facts;
      apart = λ v c l st is fr out. h.alone_in_slots v s c l st is fr (ap (holds_class c) e);
    })
    by (Some d) e = fact_keeps heap p table guarded log cells (drop_fresh d facts) registers slots (drop_keeps heap p table guarded log cells facts registers slots h d) s _ (record {
      means = opened (drop_fresh d facts);
      apart = λ v c l st is. at_set (λ x. x.fresh ≡ true → holds_class c None ≡ false → AreApart (cells c) (slot_value slots s)) facts.classes d c _ lost_class
          (λ same lt z. absurd cc)
          (λ ne z out. h.alone_in_slots v s c l st is z (ap (holds_class c) e ∙ other_class d c ne))
          (λ z. absurd cc);
    })
