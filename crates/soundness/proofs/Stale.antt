-- Where references are stale: what a safepoint leaves, and what outlasts one.
use Rattle.std.proofs.Common.{◌≡◌, ◌≢◌, ℕ, zero, suc, ◌<◌, ◌≤◌, List, [], ◌∷◌, length, map, refl, sym, ap, ◌∙◌, subst, arith, true, false, Bool, Option, Some, None, inl, inr}
use Rattle.std.proofs.lemmas.List.{length-map}
use Rattle.std.proofs.lemmas.List.FromFn.{length-enumerate_from}
use Rattle.std.specs.Prelude.{◌⊎◌}
use Rattle.std.specs.List.{Contains, enumerate_from, zip}
use Rattle.lemmas.specs.Lists.{at_map}
use Rattle.lemmas.specs.Bools.{or_parts}
use Rattle.pools.specs.Heap.{Setup}
use Rattle.layout.specs.Layouts.{LaidOut}
use Rattle.shadow_stack.specs.Slots.{SlotTable, held_type, slot_layout, is_reference_held}
use Rattle.fact_tables.specs.declared.known.Class.{Class}
use Rattle.fact_tables.specs.declared.known.Known.{Known}
use Rattle.fact_tables.specs.declared.known.Known.TheVariants.{Nothing, Number, Cell, Null, Address, GlobalAddress}
use Rattle.fact_tables.specs.declared.known.SlotFact.{SlotFact}
use Rattle.fact_tables.specs.Rows.{known_at, slot_at, class_at, open_slot, lost_class, held_nonnull, slot_nonnull, stale_of, stale_class, end_hold}
use Rattle.facts.specs.Facts.{FactSet, make_stale}
use Rattle.facts.specs.Stale.{stale_at}
use Rattle.machine.specs.declared.value.Reference.{Reference}
use Rattle.machine.specs.declared.value.Value.{Value}
use Rattle.machine.specs.declared.value.Value.TheVariants as value
use Rattle.machine.specs.Kinds.{register_at}
use Rattle.machine.specs.Machine.{slot_value}
use Rattle.machine.specs.Log.{Log, Held, IsReferredTo}
use Rattle.soundness.specs.Meaning.{Cells, Guarded, IsOwn, IsNullOrFresh, Means, ClassMeans, GoesWithType, FitsReference, FitsSlot, SlotMeans, Holds}
use Rattle.soundness.proofs.Keep.{known_within}

-- ---- what a safepoint makes of the facts

-- a class is that of a value for itself, or there is none
class_from : (P : Class → Type 0) (all own : List Class) (values : List Known) (c : ℕ) → P (stale_class all (class_at own c, known_at values c)) → P lost_class → P (class_at (map (stale_class all) (zip own values)) c)
class_from P all [] values c here none = none
class_from P all (x ∷ own) [] c here none = none
class_from P all (x ∷ own) (k ∷ values) zero here none = here
class_from P all (x ∷ own) (k ∷ values) (suc c) here none = class_from P all own values c here none

-- there is one for each value
class_within : (all own : List Class) (values : List Known) (v : ℕ) → v < length values → length values ≤ length own → v < length (map (stale_class all) (zip own values))
class_within all own [] v lt le = absurd (omega (arith, lt))
class_within all [] (k ∷ values) v lt le = absurd (omega (arith, le))
class_within all (x ∷ own) (k ∷ values) zero lt le = omega arith
class_within all (x ∷ own) (k ∷ values) (suc v) lt le = let r = class_within all own values v (omega (arith, lt)) (omega (arith, le)) in omega (arith, r)

-- a reference that is stale is of the class of its value for itself
stale_was : (v : ℕ) (k : Known) (c l : ℕ) (s : Bool) → stale_of (v, k) ≡ Cell c l s → (c ≡ v) × (s ≡ true) × (d : ℕ) × (t : Bool) × (k ≡ Cell d l t)
stale_was v Nothing c l s e = absurd cc
stale_was v (Number bits below) c l s e = absurd cc
stale_was v (Cell d m t) c l s e = let x : c ≡ v = cc in let y : s ≡ true = cc in let z : Cell d m t ≡ Cell d l t = cc in (x, y, d, t, z)
stale_was v Null c l s e = absurd cc
stale_was v (Address base words) c l s e = absurd cc
stale_was v (GlobalAddress g) c l s e = absurd cc

-- no such class is fresh
class_unfresh : (all : List Class) (own : Class) (k : Known) (d l : ℕ) (t : Bool) → k ≡ Cell d l t → (stale_class all (own, k)).fresh ≡ false
class_unfresh all own (Cell c m s) d l t e = refl
class_unfresh all own Nothing d l t e = absurd cc
class_unfresh all own (Number bits below) d l t e = absurd cc
class_unfresh all own Null d l t e = absurd cc
class_unfresh all own (Address base words) d l t e = absurd cc
class_unfresh all own (GlobalAddress g) d l t e = absurd cc

-- after a safepoint no value is of a fresh class
pub stale_unfresh : (facts : FactSet) (v c l : ℕ) (s : Bool) → known_at (make_stale facts).values v ≡ Cell c l s → (class_at (make_stale facts).classes c).fresh ≡ false
stale_unfresh facts v c l s e =
    let w = stale_was v (known_at facts.values v) c l s (sym (stale_at facts.values v) ∙ e) in
    class_from (λ x. x.fresh ≡ false) facts.classes facts.classes facts.values c
    (class_unfresh facts.classes (class_at facts.classes c) (known_at facts.values c) w.2 l w.3 (ap (known_at facts.values) w.0 ∙ w.4)) refl

-- and each reference is stale
pub all_stale : (facts : FactSet) (v c l : ℕ) (s : Bool) → known_at (make_stale facts).values v ≡ Cell c l s → s ≡ true
all_stale facts v c l s e = (stale_was v (known_at facts.values v) c l s (sym (stale_at facts.values v) ∙ e)).1

-- what is own stays so while nothing held is lost
pub own_later : (log later : Log) (guarded : Guarded) → ((r : Reference) → Held log r → Held later r) → (v : Value) → IsOwn log guarded v → IsOwn later guarded v
own_later log later guarded held value.Unset o = o
own_later log later guarded held (value.Number n) o = o
own_later log later guarded held value.Null o = o
own_later log later guarded held (value.Cell own at) o = (held at o.0, o.1)
own_later log later guarded held (value.Address at) o = o

-- what is own stays so where what the roots refer to is held, if it is among them
pub root_own : (log later : Log) (guarded : Guarded) (roots : List Value) (v : Value) → ((r : Reference) → IsReferredTo roots r → Held later r) → (v ≡ value.Null) ⊎ Contains roots v → IsOwn log guarded v → IsOwn later guarded v
root_own log later guarded roots value.Unset held has o = absurd o
root_own log later guarded roots (value.Number n) held has o = absurd o
root_own log later guarded roots value.Null held has o = tt
root_own log later guarded roots (value.Cell own at) held (inl e) o = absurd cc
root_own log later guarded roots (value.Cell own at) held (inr c) o = (held at (value.Cell own at, c, refl), o.1)
root_own log later guarded roots (value.Address at) held has o = absurd o

-- ---- what holds after a safepoint

-- the value of the class that a value has for itself; no reference, where the value is none
abbrev pub own_of : Known → Value → Value
own_of (Cell c l s) v = v
own_of _ v = value.Number 0

module _ (heap : Setup) (p : LaidOut) (table : SlotTable) (guarded : Guarded) (log : Log) where
  -- what is known of slots outlasts a log where what the reference slots hold stays own
  slot_stays : (later : Log) (held layout : Option ℕ) (v : Value) → (is_reference_held p.of_module held ≡ true → IsOwn log guarded v → IsOwn later guarded v) → FitsSlot heap p.of_module guarded log held layout v → FitsSlot heap p.of_module guarded later held layout v
  slot_stays later None layout v stays fits = tt
  slot_stays later (Some held) layout v stays fits = record { with_type = fits.with_type; integer = fits.integer; reference = λ z. by layout fits.with_type (fits.reference z) } where
    by : (layout : Option ℕ) → GoesWithType p.of_module held layout → FitsReference heap guarded log layout v → FitsReference heap guarded later layout v
    by None goes r = r
    by (Some l) goes r = (r.0, stays goes r.1)

  module _ (cells : Cells) (facts : FactSet) (registers slots : List Value) (h : Holds heap p table guarded log cells facts registers slots) where
    -- the values of the classes after a safepoint
    abbrev pub stale_cells : Cells
    stale_cells c = own_of (known_at facts.values c) (register_at registers c)

    means_stale : (later : Log) → length facts.values ≤ length facts.classes → (v : ℕ) (k : Known) → known_at facts.values v ≡ k → v < length facts.values ⊎ (k ≡ Nothing) → Means heap p guarded log cells (length facts.classes) registers k (register_at registers v)
        → Means heap p guarded later stale_cells (length (make_stale facts).classes) registers (stale_of (v, k)) (register_at registers v)
    means_stale later room v Nothing is lt m = m
    means_stale later room v (Number bits below) is lt m = m
    means_stale later room v (Cell c l s) is (inl lt) m = record {
      is = sym (ap (λ k. own_of k (register_at registers v)) is);
      within = class_within facts.classes facts.classes facts.values v lt room;
      refers = m.refers;
      own = λ z. absurd cc;
    }
    means_stale later room v (Cell c l s) is (inr none) m = absurd cc
    means_stale later room v Null is lt m = m
    means_stale later room v (Address base words) is lt m = m
    means_stale later room v (GlobalAddress g) is lt m = m

    within_values : (values : List Known) (v : ℕ) → v < length values ⊎ (known_at values v ≡ Nothing)
    within_values [] v = inr refl
    within_values (k ∷ values) zero = inl (omega arith)
    within_values (k ∷ values) (suc v) = elim (within_values values v) [ inl lt ↦ inl (omega (arith, lt)) | inr e ↦ inr e ]

    -- a class that a value has for itself is as null as the value was
    class_stale : (later : Log) (c : ℕ) (k : Known) → known_at facts.values c ≡ k → ClassMeans later (stale_class facts.classes (class_at facts.classes c, k)) (own_of k (register_at registers c))
    class_stale later c Nothing is = record { nonnull = λ z w. absurd cc; fresh = λ z. tt }
    class_stale later c (Number bits below) is = record { nonnull = λ z w. absurd cc; fresh = λ z. tt }
    class_stale later c (Cell d l s) is = record {
      nonnull = λ z w. (h.classes d).nonnull z (sym (known_within heap p table guarded log cells facts registers slots h c d l s is).is ∙ w);
      fresh = λ z. absurd cc;
    }
    class_stale later c Null is = record { nonnull = λ z w. absurd cc; fresh = λ z. tt }
    class_stale later c (Address base words) is = record { nonnull = λ z w. absurd cc; fresh = λ z. tt }
    class_stale later c (GlobalAddress g) is = record { nonnull = λ z w. absurd cc; fresh = λ z. tt }

    lost_means : (later : Log) (v : Value) → ClassMeans later lost_class v
    lost_means later v = record { nonnull = λ z. absurd cc; fresh = λ z. absurd cc }

    -- what a slot holds is as null as its class was
    hold_stale : (slot : SlotFact) (v : Value) → SlotMeans cells (length facts.classes) slot v → slot_nonnull facts.classes slot ≡ true → v ≢ value.Null
    hold_stale slot v m z = elim (or_parts slot.nonnull _ z) [ inl x ↦ m.nonnull x | inr x ↦ by slot.holds refl x ] where
      by : (holds : Option ℕ) → slot.holds ≡ holds → held_nonnull facts.classes holds ≡ true → v ≢ value.Null
      by None is x = absurd cc
      by (Some c) is x = λ w. (h.classes c).nonnull x (sym (m.holds c is).0 ∙ w)

    -- after a safepoint the facts hold in each log in which what the reference slots hold stays own
    pub stale_keeps : (later : Log) → length facts.values ≤ length facts.classes → ((s : ℕ) → is_reference_held p.of_module (held_type table s) ≡ true → IsOwn log guarded (slot_value slots s) → IsOwn later guarded (slot_value slots s))
        → Holds heap p table guarded later stale_cells (make_stale facts) registers slots
    stale_keeps later room stays = record {
      registers_size = h.registers_size ∙ sym (length-map (enumerate_from 0 facts.values) stale_of ∙ length-enumerate_from 0 facts.values);
      tests_size = h.tests_size;
      slots_size = h.slots_size ∙ sym (length-map facts.slots (end_hold facts.classes));
      held_size = h.held_size;
      values = λ v. subst (λ k. Means heap p guarded later stale_cells (length (make_stale facts).classes) registers k (register_at registers v)) (sym (stale_at facts.values v))
          (means_stale later room v (known_at facts.values v) refl (within_values facts.values v) (h.values v));
      classes = λ c. class_from (λ x. ClassMeans later x (stale_cells c)) facts.classes facts.classes facts.values c (class_stale later c (known_at facts.values c) refl) (lost_means later (stale_cells c));
      tests = h.tests;
      slot_types = λ s. slot_stays later (held_type table s) (slot_layout table s) (slot_value slots s) (stays s) (h.slot_types s);
      slot_facts = λ s. subst (λ x. SlotMeans stale_cells (length (make_stale facts).classes) x (slot_value slots s)) (sym (at_map (end_hold facts.classes) facts.slots s open_slot refl))
          (record { nonnull = hold_stale (slot_at facts.slots s) (slot_value slots s) (h.slot_facts s); holds = λ c z. absurd cc });
      alone = λ v w c d l k stale ea eb fr ne. absurd (let x = stale_unfresh facts v c l stale ea in cc);
      alone_in_slots = λ v s c l stale ea fr out. absurd (let x = stale_unfresh facts v c l stale ea in cc);
    }

-- ---- what outlasts a safepoint

-- each reference is stale, and no fresh class has a cell
pub record IsStill (cells : Cells) (facts : FactSet) : Type 0 where
  pub stale : (v c l : ℕ) (s : Bool) → known_at facts.values v ≡ Cell c l s → s ≡ true
  pub unfresh : (later : Log) (c : ℕ) → (class_at facts.classes c).fresh ≡ true → IsNullOrFresh later (cells c)
  pub none_fresh : (v c l : ℕ) (s : Bool) → known_at facts.values v ≡ Cell c l s → (class_at facts.classes c).fresh ≡ false

module _ (heap : Setup) (p : LaidOut) (table : SlotTable) (guarded : Guarded) (log : Log) (cells : Cells) (facts : FactSet) (registers slots : List Value) (h : Holds heap p table guarded log cells facts registers slots) where
  -- the facts after a safepoint are such ones
  pub stale_still : IsStill (stale_cells heap p table guarded log cells facts registers slots h) (make_stale facts)
  stale_still = record {
    stale = all_stale facts;
    unfresh = λ later c. class_from (λ x. x.fresh ≡ true → IsNullOrFresh later (own_of (known_at facts.values c) (register_at registers c))) facts.classes facts.classes facts.values c
        (by later c (known_at facts.values c) refl) (λ z. absurd cc);
    none_fresh = stale_unfresh facts;
  } where
    by : (later : Log) (c : ℕ) (k : Known) → known_at facts.values c ≡ k → (stale_class facts.classes (class_at facts.classes c, k)).fresh ≡ true → IsNullOrFresh later (own_of k (register_at registers c))
    by later c Nothing is z = tt
    by later c (Number bits below) is z = tt
    by later c (Cell d l s) is z = absurd cc
    by later c Null is z = tt
    by later c (Address base words) is z = tt
    by later c (GlobalAddress g) is z = tt

  -- such facts hold in each log in which what the reference slots hold stays own
  pub still_keeps : (later : Log) → IsStill cells facts → ((s : ℕ) → is_reference_held p.of_module (held_type table s) ≡ true → IsOwn log guarded (slot_value slots s) → IsOwn later guarded (slot_value slots s))
      → Holds heap p table guarded later cells facts registers slots
  still_keeps later still stays = record {
    registers_size = h.registers_size;
    tests_size = h.tests_size;
    slots_size = h.slots_size;
    held_size = h.held_size;
    values = λ v. by v (known_at facts.values v) refl (h.values v);
    classes = λ c. record { nonnull = (h.classes c).nonnull; fresh = still.unfresh later c };
    tests = h.tests;
    slot_types = λ s. slot_stays heap p table guarded log later (held_type table s) (slot_layout table s) (slot_value slots s) (stays s) (h.slot_types s);
    slot_facts = h.slot_facts;
    alone = h.alone;
    alone_in_slots = h.alone_in_slots;
  } where
    by : (v : ℕ) (k : Known) → known_at facts.values v ≡ k → Means heap p guarded log cells (length facts.classes) registers k (register_at registers v) → Means heap p guarded later cells (length facts.classes) registers k (register_at registers v)
    by v Nothing is m = m
    by v (Number bits below) is m = m
    by v (Cell c l s) is m = record { is = m.is; within = m.within; refers = m.refers; own = λ z. absurd (let x = still.stale v c l s is in cc) }
    by v Null is m = m
    by v (Address base words) is m = m
    by v (GlobalAddress g) is m = m
