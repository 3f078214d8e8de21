-- A slot that a value is loaded from.
use Rattle.std.proofs.Common.{◌≡◌, ◌<◌, ◌≤◌, ◌⊎◌, ◌++◌, ◌∷◌, [], ℕ, length, List, map, refl, sym, ap, inl, inr, ◌∙◌, Bool, true, false, Option, Some, None, slice_set}
use Rattle.std.specs.Prelude.{◌||◌, if◌then◌else◌}
use Rattle.std.proofs.lemmas.Bool.{cases_lt}
use Rattle.std.proofs.lemmas.List.{get_or-set_same, length-map, map-set, set-set, set_past}
use Rattle.lemmas.specs.Lists.{at_map}
use Rattle.fact_tables.specs.declared.known.Class.{Class}
use Rattle.fact_tables.specs.declared.known.Known.{Known}
use Rattle.fact_tables.specs.declared.known.Known.TheVariants.{Cell}
use Rattle.fact_tables.specs.declared.known.SlotFact.{SlotFact}
use Rattle.fact_tables.specs.declared.known.Test.{Test}
use Rattle.fact_tables.specs.Rows.{open_slot, known_at, slot_at, class_at, holds_class, let_go, off_test, values_without, tests_without}
use Rattle.facts.specs.Facts.{FactSet, slots_without, forget, define, set_known, add_class, learn_nonnull, hold, load_held, load_slot}
use Rattle.fact_tables.specs.Values.{new_of, ValueFacts, defined, learned}
use Rattle.fact_tables.specs.SlotRows.{let_go_slot, let_go_last, let_go_others}

-- what is known of values and classes, and of slots
abbrev pub facts_of : ValueFacts → List SlotFact → FactSet
facts_of f slots = record { values = f.values; slots = slots; classes = f.classes; tests = f.tests }

-- what is known of values and classes
abbrev pub values_of : FactSet → ValueFacts
values_of f = record { values = f.values; classes = f.classes; tests = f.tests }

-- a value that no comparison gave
pub none_tested : (v : ℕ) (tests : List (Option Test)) → slice_set (tests_without v tests) v None ≡ tests_without v tests
none_tested v tests = set-set (map (off_test v) tests) v None None

pub slot_let_go : (last : Option ℕ) (nonnull : Bool) (slots : List SlotFact) (s : ℕ) → slot_at (let_go_last last nonnull slots) s ≡ let_go_slot last nonnull (slot_at slots s)
slot_let_go None nonnull slots s = refl
slot_let_go (Some c) nonnull slots s = at_map (let_go c nonnull) slots s open_slot refl

-- a slot is rooted as before
pub loaded_slot : (last : Option ℕ) (one : Bool) (slot : SlotFact) (nonnull : Bool) (holds : Option ℕ) → record slot { nonnull = nonnull; holds = holds } ≡ record (let_go_slot last one slot) { nonnull = nonnull; holds = holds }
loaded_slot None one slot nonnull holds = refl
loaded_slot (Some c) one slot nonnull holds = pick (holds_class c slot.holds) where
  pick : (b : Bool) → record slot { nonnull = nonnull; holds = holds } ≡ record (if b then record slot { nonnull = slot.nonnull || one; holds = None } else slot) { nonnull = nonnull; holds = holds }
  pick true = refl
  pick false = refl

module _ (s : ℕ) (slot : SlotFact) (last : Option ℕ) (nonnull : Bool) (slots : List SlotFact) where
  abbrev written : List SlotFact
  written = slice_set slots s slot

  long : (last : Option ℕ) → length (let_go_last last nonnull slots) ≡ length slots
  long None = refl
  long (Some c) = length-map slots (let_go c nonnull)

  set_let_go : (last : Option ℕ) → let_go_last last nonnull written ≡ slice_set (let_go_last last nonnull slots) s (let_go_slot last nonnull slot)
  set_let_go None = refl
  set_let_go (Some c) = map-set (let_go c nonnull) slots s slot

  -- a slot that is written before the others let a class go
  pub others_written : let_go_others s last nonnull written ≡ slice_set (let_go_last last nonnull slots) s slot
  others_written = pick (cases_lt s (length slots)) where
    pick : (s < length slots) ⊎ (length slots ≤ s) → let_go_others s last nonnull written ≡ slice_set (let_go_last last nonnull slots) s slot
    pick (inl lt) = ap (slice_set (let_go_last last nonnull written) s) (get_or-set_same slots s slot open_slot lt) ∙ ap (λ (l : List SlotFact). slice_set l s slot) (set_let_go last) ∙ set-set (let_go_last last nonnull slots) s (let_go_slot last nonnull slot) slot
    pick (inr past) =
        let same : written ≡ slots = set_past slots s slot past in
        ap (let_go_others s last nonnull) same ∙ set_past (let_go_last last nonnull slots) s (slot_at slots s) (rw (long last) past) ∙ sym (set_past (let_go_last last nonnull slots) s slot (rw (long last) past))

-- ---- what is known of a value that is defined

module _ (f : FactSet) (v : ℕ) (last : Option ℕ) (one : Bool) (gone : slots_without (known_at f.values v) (values_without v f.values) f.classes f.slots ≡ let_go_last last one f.slots) (values : ValueFacts) (slots : List SlotFact) (let_go : slots ≡ let_go_last last one f.slots) where
  pub defines : (known : Known) → values ≡ defined v known None (values_of f) → facts_of values slots ≡ define v known f
  defines known e = ap (λ (x : ValueFacts). facts_of x slots) e ∙ ap (facts_of (defined v known None (values_of f))) (let_go ∙ sym gone) ∙ ap (λ (tests : List (Option Test)). record (define v known f) { tests = tests }) (none_tested v f.tests)

-- ---- what is known of a value that is loaded

last_class : (classes : List Class) (class : Class) → class_at (classes ++ class ∷ []) (length classes) ≡ class
last_class [] class = refl
last_class (first ∷ classes) class = last_class classes class

abbrev the_slot : SlotFact → Bool → Option ℕ → SlotFact
the_slot slot nonnull holds = record slot { nonnull = nonnull; holds = holds }

abbrev new_class : Bool → Class
new_class nonnull = record { nonnull = nonnull; fresh = false }

module _ (f : FactSet) (v s layout : ℕ) (last : Option ℕ) (one : Bool) (slot : SlotFact)
    (gone : slots_without (known_at f.values v) (values_without v f.values) f.classes f.slots ≡ let_go_last last one f.slots) (is : slot ≡ let_go_slot last one (slot_at f.slots s)) where
  abbrev rest : FactSet
  rest = forget v f

  there : slot_at rest.slots s ≡ slot
  there = ap (λ (l : List SlotFact). slot_at l s) gone ∙ slot_let_go last one f.slots s ∙ sym is

  loads : (holds : Option ℕ) → slot.holds ≡ holds → load_slot v s layout f ≡ load_held v s layout slot.nonnull holds rest
  loads holds e = ap (λ (x : SlotFact). load_held v s layout x.nonnull x.holds rest) there ∙ ap (λ (h : Option ℕ). load_held v s layout slot.nonnull h rest) e

  module _ (values : ValueFacts) (slots : List SlotFact) where
    -- of the class that the slot holds
    pub load_of : (c : ℕ) → slot.holds ≡ Some c → values ≡ learned c slot.nonnull (defined v (Cell c layout false) None (values_of f)) → slots ≡ let_go_last last one f.slots → facts_of values slots ≡ load_slot v s layout f
    load_of c e g h = ap (λ (x : ValueFacts). facts_of x slots) g ∙ ap (facts_of (learned c slot.nonnull (defined v (Cell c layout false) None (values_of f)))) (h ∙ sym gone)
        ∙ ap (λ (tests : List (Option Test)). record (learn_nonnull c slot.nonnull (set_known v (Cell c layout false) rest)) { tests = tests }) (none_tested v f.tests) ∙ sym (loads (Some c) e)

    -- of a new class
    pub load_of_new : slot.holds ≡ None → (between : List SlotFact) → values ≡ new_of v layout slot.nonnull (values_of f) → between ≡ slice_set f.slots s (the_slot (slot_at f.slots s) slot.nonnull (Some (length f.classes))) → slots ≡ let_go_others s last one between
        → facts_of values slots ≡ load_slot v s layout f
    load_of_new e between g h i = ap (λ (x : ValueFacts). facts_of x slots) g ∙ ap (facts_of (new_of v layout slot.nonnull (values_of f))) all_slots
        ∙ ap (λ (tests : List (Option Test)). record (hold s n (add_class class (set_known v (Cell n layout false) rest))) { tests = tests }) (none_tested v f.tests) ∙ sym (loads None e) where
          n : ℕ
          n = length f.classes

          class : Class
          class = new_class slot.nonnull

          held : SlotFact
          held = the_slot (slot_at f.slots s) slot.nonnull (Some n)

          same : held ≡ the_slot (slot_at rest.slots s) (class_at (f.classes ++ class ∷ []) n).nonnull (Some n)
          same = loaded_slot last one (slot_at f.slots s) slot.nonnull (Some n) ∙ ap (λ (x : SlotFact). the_slot x slot.nonnull (Some n)) (sym is ∙ sym there) ∙ ap (λ (x : Class). the_slot (slot_at rest.slots s) x.nonnull (Some n)) (sym (last_class f.classes class))

          all_slots : slots ≡ slice_set rest.slots s (the_slot (slot_at rest.slots s) (class_at (f.classes ++ class ∷ []) n).nonnull (Some n))
          all_slots = i ∙ ap (let_go_others s last one) h ∙ others_written s held last one f.slots ∙ ap (λ (l : List SlotFact). slice_set l s held) (sym gone) ∙ ap (slice_set rest.slots s) same
