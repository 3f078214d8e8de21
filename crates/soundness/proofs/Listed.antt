-- What the claims of a block give holds where each of them is implied.
use Rattle.std.proofs.Common.{◌≡◌, ◌≢◌, ℕ, ◌+◌, ◌<◌, ◌≤◌, List, [], ◌∷◌, length, map, refl, sym, ap, ◌∙◌, subst, arith, true, false, Bool, Option, Some, None, slice_set, inl, inr}
use Rattle.std.proofs.lemmas.List.{length-map, length-set, length-replicate}
use Rattle.std.proofs.lemmas.List.FromFn.{length-enumerate_from, get_or-enumerate_from}
use Rattle.std.proofs.lemmas.List.Sums.{AllPass-from_list_all}
use Rattle.std.specs.Prelude.{◌==◌, ◌||◌, ◌&&◌, ◌⊎◌, not, if◌then◌else◌, replicate}
use Rattle.std.specs.List.{list_all, enumerate_from, zip}
use Rattle.lemmas.specs.Lists.{at_map}
use Rattle.lemmas.specs.Numbers.{test_true, test_yes}
use Rattle.lemmas.specs.Bools.{and_parts, not_true, or_parts}
use Rattle.pools.specs.Heap.{Setup}
use Rattle.pools.specs.WordSets.{has_word, has_all, has_too}
use Rattle.layout.specs.Layouts.{LaidOut}
use Rattle.shadow_stack.specs.Slots.{SlotTable, slot_of}
use Rattle.certs.specs.declared.section.Age.{Age}
use Rattle.certs.specs.declared.section.Fact.{Fact}
use Rattle.certs.specs.declared.section.Fact.TheVariants as fact
use Rattle.certs.specs.declared.section.Claim.{Claim}
use Rattle.certs.specs.declared.section.Claim.TheVariants as claim
use Rattle.fact_tables.specs.declared.known.Class.{Class}
use Rattle.fact_tables.specs.declared.known.Known.{Known}
use Rattle.fact_tables.specs.declared.known.Known.TheVariants.{Nothing, Number, Cell, Null, Address, GlobalAddress}
use Rattle.fact_tables.specs.declared.known.SlotFact.{SlotFact}
use Rattle.fact_tables.specs.Rows.{known_at, slot_at, class_at, test_at, open_slot, lost_class, is_of, holds_class, held_nonnull, slot_nonnull}
use Rattle.facts.specs.Facts.{FactSet, nothing_known, set_known, set_class}
use Rattle.fact_tables.specs.Ties.{moved}
use Rattle.fact_tables.specs.Covers.{implied, covers_value, covers_slot}
use Rattle.facts.specs.Claims.{is_stale, is_fresh, list_value, list_slot, list_claims, move, join, join_values, tie_value, tie_fact, tie_claims, hold_known, hold_value, hold_claims, facts_of_claims, is_below, covers, covers_known, is_fresh_in, is_same, is_alone, implies_reference, implies_number, implies_address, implies_global, implies_fact, holds_known, holds_value, implies_slot, implies_claim}
use Rattle.machine.specs.declared.value.Value.{Value}
use Rattle.machine.specs.declared.value.Value.TheVariants as value
use Rattle.machine.specs.Kinds.{register_at}
use Rattle.machine.specs.Machine.{slot_value}
use Rattle.machine.specs.Log.{Log}
use Rattle.soundness.specs.Meaning.{Cells, Guarded, IsReferenceTo, IsOwn, IsNullOrFresh, AreApart, IsBelow, IsInteger, IsAddressOf, IsGlobal, Means, ClassMeans, WasTested, SlotMeans, Holds}
use Rattle.soundness.proofs.Lists.{at_set, by_equal, at_other, at_same, replicated, all_zip, as_implied, not_both, within_list, each_below}

-- a smaller bound implies a larger one
pub below_implied : (n : ℕ) (known asked : Option ℕ) → is_below known asked ≡ true → IsBelow n known → IsBelow n asked
below_implied n known None e h = tt
below_implied n None (Some m) e h = absurd cc
below_implied n (Some k) (Some m) e h = let le : k ≤ m = grind (arith, e) in omega (arith, le, h)

-- nothing refers to the cell of null
apart_null : (a : Value) → AreApart a value.Null
apart_null value.Unset = tt
apart_null (value.Number n) = tt
apart_null value.Null = tt
apart_null (value.Cell l at) = tt
apart_null (value.Address at) = tt

module _ (heap : Setup) (p : LaidOut) (table : SlotTable) (guarded : Guarded) (log : Log) (cells : Cells) (here there : FactSet) (registers slots : List Value) (h : Holds heap p table guarded log cells here registers slots) where
  -- the class of a value is named by the value
  abbrev pub names : Cells
  names c = register_at registers c

  record FreshHere (u : ℕ) : Type 0 where
    class : ℕ
    layout : ℕ
    stale : Bool
    is : known_at here.values u ≡ Cell class layout stale
    fresh : (class_at here.classes class).fresh ≡ true
    covered : covers_known here there class (known_at there.values u) ≡ true

  record CellHere (w : ℕ) (stale : Bool) : Type 0 where
    class : ℕ
    layout : ℕ
    was : Bool
    is : known_at here.values w ≡ Cell class layout was
    current : stale ≡ false → was ≡ false

  record ListsCell (v c layout : ℕ) (stale : Bool) : Type 0 where
    is : names v ≡ names c
    within : c < length registers
    refers : IsReferenceTo heap layout (names v)
    own : stale ≡ false → IsOwn log guarded (names v)
    backed : (known_at here.values v ≡ Null) ⊎ CellHere v stale

  abbrev Lists : ℕ → Known → Type 0
  Lists v Nothing = Unit {0}
  Lists v (Number bits below) = IsInteger bits below (names v)
  Lists v (Cell c layout stale) = ListsCell v c layout stale
  Lists v Null = ⊥
  Lists v (Address base words) = IsAddressOf p words (names base) (names v)
  Lists v (GlobalAddress symbol) = IsGlobal p.of_module symbol (names v)

  -- a fresh class has a value that is fresh here
  record Origin (f : FactSet) (c : ℕ) : Type 0 where
    of : ℕ
    layout : ℕ
    stale : Bool
    is : known_at f.values of ≡ Cell c layout stale
    fresh : FreshHere of

  record Given (f : FactSet) : Type 0 where
    values_size : length f.values ≡ length registers
    classes_size : length f.classes ≡ length registers
    slots_size : length f.slots ≡ length slots
    tests_are : f.tests ≡ replicate (length registers) None
    values : (v : ℕ) → Lists v (known_at f.values v)
    classes : (c : ℕ) → ClassMeans log (class_at f.classes c) (names c)
    fresh : (v c layout : ℕ) (stale : Bool) → known_at f.values v ≡ Cell c layout stale → (class_at f.classes c).fresh ≡ true → Origin f c
    slot_facts : (s : ℕ) → SlotMeans names (length registers) (slot_at f.slots s) (slot_value slots s)

  -- each value is of its own class
  abbrev OwnClasses : FactSet → Type 0
  OwnClasses f = (v c layout : ℕ) (stale : Bool) → known_at f.values v ≡ Cell c layout stale → c ≡ v

  -- ---- lists

  -- what is no reference is listed
  plain_listed : (f : FactSet) (v : ℕ) (k : Known) → Given f → Lists v k → ((c l : ℕ) (s : Bool) → known_at here.values v ≡ Cell c l s → ⊥) → ((c l : ℕ) (s : Bool) → k ≡ Cell c l s → ⊥) → Given (set_known v k f)
  plain_listed f v k g lists none plain = record {
    values_size = length-set f.values v k ∙ g.values_size;
    classes_size = g.classes_size;
    slots_size = g.slots_size;
    tests_are = g.tests_are;
    values = λ j. at_set (Lists j) f.values v j k Nothing (λ e lt. subst (λ z. Lists z k) e lists) (λ ne. g.values j) tt;
    classes = g.classes;
    fresh = λ j c l s e fr. at_set (λ x. x ≡ Cell c l s → Origin (set_known v k f) c) f.values v j k Nothing
        (λ z lt w. absurd (plain c l s w))
        (λ ne w. kept c (g.fresh j c l s w fr))
        (λ w. absurd cc) e;
    slot_facts = g.slot_facts;
  } where
    kept : (c : ℕ) → Origin f c → Origin (set_known v k f) c
    kept c o = record {
      of = o.of;
      layout = o.layout;
      stale = o.stale;
      is = at_other f.values v o.of k Nothing (λ z. none o.fresh.class o.fresh.layout o.fresh.stale (ap (known_at here.values) z ∙ o.fresh.is)) ∙ o.is;
      fresh = o.fresh;
    }

  plain_own : (f : FactSet) (v : ℕ) (k : Known) → OwnClasses f → ((c l : ℕ) (s : Bool) → k ≡ Cell c l s → ⊥) → OwnClasses (set_known v k f)
  plain_own f v k own plain j c l s = at_set (λ x. x ≡ Cell c l s → c ≡ j) f.values v j k Nothing (λ e lt w. absurd (plain c l s w)) (λ ne. own j c l s) (λ w. absurd cc)

  -- a reference is listed
  cell_listed : (f : FactSet) (v layout : ℕ) (stale nonnull fresh : Bool) → Given f → OwnClasses f → (v < length registers → ListsCell v v layout stale) → ClassMeans log (record { nonnull = nonnull; fresh = fresh }) (names v) → (fresh ≡ true → FreshHere v)
      → Given (set_class v (record { nonnull = nonnull; fresh = fresh }) (set_known v (Cell v layout stale) f))
  cell_listed f v layout stale nonnull fresh g own lists means origin = record {
    values_size = length-set f.values v (Cell v layout stale) ∙ g.values_size;
    classes_size = length-set f.classes v class ∙ g.classes_size;
    slots_size = g.slots_size;
    tests_are = g.tests_are;
    values = λ j. at_set (Lists j) f.values v j (Cell v layout stale) Nothing (λ e lt. subst (λ z. Lists z (Cell v layout stale)) e (lists (omega (arith, lt, g.values_size)))) (λ ne. g.values j) tt;
    classes = λ c. at_set (λ x. ClassMeans log x (names c)) f.classes v c class lost_class (λ e lt. subst (λ z. ClassMeans log class (names z)) e means) (λ ne. g.classes c) (record { nonnull = λ z. absurd cc; fresh = λ z. absurd cc });
    fresh = λ j c l s e fr. by_equal v c
        (λ z. new c z fr)
        (λ ne. old j c l s ne
        (at_set (λ x. x ≡ Cell c l s → known_at f.values j ≡ Cell c l s) f.values v j (Cell v layout stale) Nothing (λ z lt w. absurd (ne cc)) (λ z w. w) (λ w. absurd cc) e)
        (at_other f.classes v c class lost_class ne) fr);
    slot_facts = g.slot_facts;
  } where
    class : Class
    class = record { nonnull = nonnull; fresh = fresh }

    next : FactSet
    next = set_class v class (set_known v (Cell v layout stale) f)

    new : (c : ℕ) → v ≡ c → (class_at (slice_set f.classes v class) c).fresh ≡ true → Origin next c
    new c z fr =
        let lt : v < length f.classes = at_set (λ x. x.fresh ≡ true → v < length f.classes) f.classes v c class lost_class (λ e lt w. lt) (λ ne w. absurd (ne z)) (λ w. absurd cc) fr in
        let is : fresh ≡ true = sym (ap (λ x. x.fresh) (at_same f.classes v class lost_class lt)) ∙ subst (λ y. (class_at (slice_set f.classes v class) y).fresh ≡ true) (sym z) fr in
        subst (Origin next) z (record { of = v; layout = layout; stale = stale; is = at_same f.values v (Cell v layout stale) Nothing (omega (arith, lt, g.values_size, g.classes_size)); fresh = origin is })

    old : (j c l : ℕ) (s : Bool) → v ≢ c → known_at f.values j ≡ Cell c l s → class_at (slice_set f.classes v class) c ≡ class_at f.classes c → (class_at (slice_set f.classes v class) c).fresh ≡ true → Origin next c
    old j c l s ne was same fr =
        let o = g.fresh j c l s was (sym (ap (λ x. x.fresh) same) ∙ fr) in
        record { of = o.of; layout = o.layout; stale = o.stale; is = at_other f.values v o.of (Cell v layout stale) Nothing (λ z. ne (z ∙ sym (own o.of c o.layout o.stale o.is))) ∙ o.is; fresh = o.fresh }

  cell_own : (f : FactSet) (v layout : ℕ) (stale : Bool) → OwnClasses f → OwnClasses (set_known v (Cell v layout stale) f)
  cell_own f v layout stale own j c l s = at_set (λ x. x ≡ Cell c l s → c ≡ j) f.values v j (Cell v layout stale) Nothing (λ e lt w. let q : v ≡ c = cc in sym q ∙ e) (λ ne. own j c l s) (λ w. absurd cc)

  -- ---- what an implied claim lists

  number_implied : (v bits : ℕ) (below : Option ℕ) (k : Known) → implies_number bits below k ≡ true → Means heap p guarded log cells (length here.classes) registers k (names v) → IsInteger bits below (names v)
  number_implied v bits below (Number n known) e m =
      let b = and_parts (n == bits) (is_below known below) e in
      let i = subst (λ x. IsInteger x known (names v)) (test_true n bits b.0) m in
      record { number = i.number; is = i.is; fits = i.fits; under = below_implied i.number known below b.1 i.under }
  number_implied v bits below Nothing e m = absurd cc
  number_implied v bits below (Cell c l s) e m = absurd cc
  number_implied v bits below Null e m = absurd cc
  number_implied v bits below (Address x w) e m = absurd cc
  number_implied v bits below (GlobalAddress g) e m = absurd cc

  number_plain : (bits : ℕ) (below : Option ℕ) (k : Known) (c l : ℕ) (s : Bool) → implies_number bits below k ≡ true → k ≡ Cell c l s → ⊥
  number_plain bits below k c l s e z = let t = subst (λ x. implies_number bits below x ≡ true) z e in absurd cc

  address_plain : (base : ℕ) (words : List Bool) (k : Known) (c l : ℕ) (s : Bool) → implies_address base words k ≡ true → k ≡ Cell c l s → ⊥
  address_plain base words k c l s e z = let t = subst (λ x. implies_address base words x ≡ true) z e in absurd cc

  global_plain : (symbol : ℕ) (k : Known) (c l : ℕ) (s : Bool) → implies_global symbol k ≡ true → k ≡ Cell c l s → ⊥
  global_plain symbol k c l s e z = let t = subst (λ x. implies_global symbol x ≡ true) z e in absurd cc

  global_implied : (v symbol : ℕ) (k : Known) → implies_global symbol k ≡ true → Means heap p guarded log cells (length here.classes) registers k (names v) → IsGlobal p.of_module symbol (names v)
  global_implied v symbol (GlobalAddress known) e m = subst (λ x. IsGlobal p.of_module x (names v)) (test_true known symbol e) m
  global_implied v symbol Nothing e m = absurd cc
  global_implied v symbol (Number n b) e m = absurd cc
  global_implied v symbol (Cell c l s) e m = absurd cc
  global_implied v symbol Null e m = absurd cc
  global_implied v symbol (Address x w) e m = absurd cc

  -- a word of a part of a set is one of the set
  word_more : (set other : List Bool) (w : ℕ) → w < 64 → has_all set other ≡ true → has_word other w ≡ true → has_word set w ≡ true
  word_more set other w lt e z =
      let t = each_below (has_too set other) 64 w lt e in
      pick (has_word set w) (has_word other w) t z where
        pick : (x y : Bool) → (x || not y) ≡ true → y ≡ true → x ≡ true
        pick true y a b = refl
        pick false true a b = absurd cc
        pick false false a b = b

  address_grows : (set other : List Bool) (base v : Value) → has_all set other ≡ true → IsAddressOf p other base v → IsAddressOf p set base v
  address_grows set other value.Unset v e a = a
  address_grows set other (value.Number n) v e a = a
  address_grows set other value.Null v e a = a
  address_grows set other (value.Cell l at) v e a = (a.0, a.1, word_more set other a.0 a.3 e a.2, a.3, a.4)
  address_grows set other (value.Address at) v e a = a

  address_implied : (v base : ℕ) (words : List Bool) (k : Known) → implies_address base words k ≡ true → Means heap p guarded log cells (length here.classes) registers k (names v) → IsAddressOf p words (names base) (names v)
  address_implied v base words (Address x known) e m =
      let b = and_parts (x == base) (has_all words known) e in
      subst (λ z. IsAddressOf p words (names z) (names v)) (test_true x base b.0) (address_grows words known (names x) (names v) b.1 m)
  address_implied v base words Nothing e m = absurd cc
  address_implied v base words (Number n b) e m = absurd cc
  address_implied v base words (Cell c l s) e m = absurd cc
  address_implied v base words Null e m = absurd cc
  address_implied v base words (GlobalAddress g) e m = absurd cc

  -- what an implied claim of a reference says
  record ImpliedCell (v layout : ℕ) (nonnull : Bool) (a : Age) (same : Option ℕ) : Type 0 where
    refers : IsReferenceTo heap layout (names v)
    own : is_stale a ≡ false → IsOwn log guarded (names v)
    backed : (known_at here.values v ≡ Null) ⊎ CellHere v (is_stale a)
    class : ClassMeans log (record { nonnull = nonnull; fresh = is_fresh a }) (names v)
    fresh : is_fresh a ≡ true → FreshHere v
    sames : (w : ℕ) → same ≡ Some w → names v ≡ names w

  alone_itself : (v : ℕ) (same : Option ℕ) (w : ℕ) → is_alone v same ≡ true → same ≡ Some w → v ≡ w
  alone_itself v None w e z = absurd cc
  alone_itself v (Some x) w e z = let q : x ≡ w = cc in sym (test_true x v e) ∙ q

  same_class : (q w : ℕ) (k : Known) → known_at here.values w ≡ k → is_of q k ≡ true → names w ≡ cells q
  same_class q w (Cell c l s) is e = let m = subst (λ k. Means heap p guarded log cells (length here.classes) registers k (names w)) is (h.values w) in m.is ∙ ap cells (test_true c q e)
  same_class q w Nothing is e = absurd cc
  same_class q w (Number n b) is e = absurd cc
  same_class q w Null is e = absurd cc
  same_class q w (Address x z) is e = absurd cc
  same_class q w (GlobalAddress g) is e = absurd cc

  cell_implied : (v layout : ℕ) (nonnull : Bool) (a : Age) (same : Option ℕ) (k : Known) → known_at here.values v ≡ k → implies_reference here there v layout nonnull a same k ≡ true → ImpliedCell v layout nonnull a same
  cell_implied v layout nonnull a same (Cell c known stale) is e =
      let m = subst (λ k. Means heap p guarded log cells (length here.classes) registers k (names v)) is (h.values v) in
      let b4 = and_parts (known == layout && implied nonnull (class_at here.classes c).nonnull && implied (not (is_stale a)) (not stale) && implied (is_fresh a) (is_fresh_in here there c v)) (is_same here.values c same) e in
      let b3 = and_parts (known == layout && implied nonnull (class_at here.classes c).nonnull && implied (not (is_stale a)) (not stale)) (implied (is_fresh a) (is_fresh_in here there c v)) b4.0 in
      let b2 = and_parts (known == layout && implied nonnull (class_at here.classes c).nonnull) (implied (not (is_stale a)) (not stale)) b3.0 in
      let b1 = and_parts (known == layout) (implied nonnull (class_at here.classes c).nonnull) b2.0 in
      let current : is_stale a ≡ false → stale ≡ false = λ z. not_true stale (as_implied (not (is_stale a)) (not stale) b2.1 (ap not z)) in
      record {
        refers = subst (λ l. IsReferenceTo heap l (names v)) (test_true known layout b1.0) m.refers;
        own = λ z. m.own (current z);
        backed = inr (record { class = c; layout = known; was = stale; is = is; current = current });
        class = record {
          nonnull = λ z w. (h.classes c).nonnull (as_implied nonnull (class_at here.classes c).nonnull b1.1 z) (sym m.is ∙ w);
          fresh = λ z. subst (IsNullOrFresh log) (sym m.is) ((h.classes c).fresh (and_parts (class_at here.classes c).fresh _ (as_implied (is_fresh a) _ b3.1 z)).0);
        };
        fresh = λ z. let f = and_parts (class_at here.classes c).fresh _ (as_implied (is_fresh a) _ b3.1 z) in record { class = c; layout = known; stale = stale; is = is; fresh = f.0; covered = f.1 };
        sames = sames m.is same b4.1;
      } where
        sames : names v ≡ cells c → (same : Option ℕ) → is_same here.values c same ≡ true → (w : ℕ) → same ≡ Some w → names v ≡ names w
        sames mine None e w z = absurd cc
        sames mine (Some x) e w z = let q : x ≡ w = cc in mine ∙ sym (same_class c x (known_at here.values x) refl e) ∙ ap names q
  cell_implied v layout nonnull a same Null is e =
      let m = subst (λ k. Means heap p guarded log cells (length here.classes) registers k (names v)) is (h.values v) in
      let b2 = and_parts (not nonnull && not (is_fresh a)) (is_alone v same) e in
      let b1 = and_parts (not nonnull) (not (is_fresh a)) b2.0 in
      record {
        refers = subst (IsReferenceTo heap layout) (sym m) tt;
        own = λ z. subst (IsOwn log guarded) (sym m) tt;
        backed = inl is;
        class = record { nonnull = λ z. absurd (not_both nonnull z (not_true nonnull b1.0)); fresh = λ z. absurd (not_both (is_fresh a) z (not_true (is_fresh a) b1.1)) };
        fresh = λ z. absurd (not_both (is_fresh a) z (not_true (is_fresh a) b1.1));
        sames = λ w z. ap names (alone_itself v same w b2.1 z);
      }
  cell_implied v layout nonnull a same Nothing is e = absurd cc
  cell_implied v layout nonnull a same (Number n b) is e = absurd cc
  cell_implied v layout nonnull a same (Address x z) is e = absurd cc
  cell_implied v layout nonnull a same (GlobalAddress g) is e = absurd cc

  -- ---- a claim is listed

  value_listed : (f : FactSet) (v : ℕ) (of : Fact) → implies_fact here there v of ≡ true → Given f → OwnClasses f → Given (list_value v of f) × OwnClasses (list_value v of f)
  value_listed f v (fact.Number bits below) e g own = (
    plain_listed f v (Number bits below) g (number_implied v bits below (known_at here.values v) e (h.values v)) (λ c l s. number_plain bits below (known_at here.values v) c l s e) (λ c l s z. absurd cc),
    plain_own f v (Number bits below) own (λ c l s z. absurd cc),
  )
  value_listed f v (fact.Reference layout nonnull a same) e g own =
      let s = cell_implied v layout nonnull a same (known_at here.values v) refl e in (
        cell_listed f v layout (is_stale a) nonnull (is_fresh a) g own (λ lt. record { is = refl; within = lt; refers = s.refers; own = s.own; backed = s.backed }) s.class s.fresh,
        cell_own f v layout (is_stale a) own,
      )
  value_listed f v (fact.Address base words) e g own = (
    plain_listed f v (Address base words) g (address_implied v base words (known_at here.values v) e (h.values v)) (λ c l s. address_plain base words (known_at here.values v) c l s e) (λ c l s z. absurd cc),
    plain_own f v (Address base words) own (λ c l s z. absurd cc),
  )
  value_listed f v (fact.GlobalAddress x) e g own = (
    plain_listed f v (GlobalAddress x) g (global_implied v x (known_at here.values v) e (h.values v)) (λ c l s. global_plain x (known_at here.values v) c l s e) (λ c l s z. absurd cc),
    plain_own f v (GlobalAddress x) own (λ c l s z. absurd cc),
  )

  -- a slot is listed
  held_not_null : (slot : SlotFact) (v : Value) → SlotMeans cells (length here.classes) slot v → slot_nonnull here.classes slot ≡ true → v ≢ value.Null
  held_not_null slot v m e = pick (or_parts slot.nonnull (held_nonnull here.classes slot.holds) e) where
    by : (holds : Option ℕ) → slot.holds ≡ holds → held_nonnull here.classes holds ≡ true → v ≢ value.Null
    by None is z = absurd cc
    by (Some c) is z = λ w. (h.classes c).nonnull z (sym (m.holds c is).0 ∙ w)

    pick : (slot.nonnull ≡ true) ⊎ (held_nonnull here.classes slot.holds ≡ true) → v ≢ value.Null
    pick (inl z) = m.nonnull z
    pick (inr z) = by slot.holds refl z

  slot_listed : (f : FactSet) (slot : Option ℕ) (nonnull : Bool) (holds : Option ℕ) → implies_slot here slot nonnull holds ≡ true → Given f → OwnClasses f → Given (list_slot slot nonnull f) × OwnClasses (list_slot slot nonnull f)
  slot_listed f None nonnull holds e g own = (g, own)
  slot_listed f (Some s) nonnull holds e g own =
      let b = and_parts (implied nonnull (slot_nonnull here.classes (slot_at here.slots s))) (holds_value here.values (slot_at here.slots s).holds holds) e in (
        record {
          values_size = g.values_size;
          classes_size = g.classes_size;
          slots_size = length-set f.slots s _ ∙ g.slots_size;
          tests_are = g.tests_are;
          values = g.values;
          classes = g.classes;
          fresh = λ v c l st z fr. same (g.fresh v c l st z fr);
          slot_facts = λ t. at_set (λ x. SlotMeans names (length registers) x (slot_value slots t)) f.slots s t (record { rooted = false; nonnull = nonnull; holds = None }) open_slot
              (λ q lt. record { nonnull = λ z. held_not_null (slot_at here.slots t) (slot_value slots t) (h.slot_facts t) (subst (λ y. slot_nonnull here.classes (slot_at here.slots y) ≡ true) q (as_implied nonnull _ b.0 z)); holds = λ c z. absurd cc })
              (λ ne. g.slot_facts t)
              (record { nonnull = λ z. absurd cc; holds = λ c z. absurd cc });
        },
        own,
      ) where
        same : {c : ℕ} → Origin f c → Origin (list_slot (Some s) nonnull f) c
        same o = record { of = o.of; layout = o.layout; stale = o.stale; is = o.is; fresh = o.fresh }

  -- each claim is implied
  abbrev pub AllImplied : List Claim → Type 0
  AllImplied [] = Unit {0}
  AllImplied (l ∷ claims) = (implies_claim table here there l ≡ true) × AllImplied claims

  all_listed : (claims : List Claim) (f : FactSet) → AllImplied claims → Given f → OwnClasses f → Given (list_claims table claims f) × OwnClasses (list_claims table claims f)
  all_listed [] f implied g own = (g, own)
  all_listed (claim.Value v of ∷ claims) f implied g own =
      let n = value_listed f v of implied.0 g own in all_listed claims (list_value v of f) implied.1 n.0 n.1
  all_listed (claim.Slot slot nonnull holds ∷ claims) f implied g own =
      let n = slot_listed f (slot_of table slot) nonnull holds implied.0 g own in all_listed claims (list_slot (slot_of table slot) nonnull f) implied.1 n.0 n.1

  nothing_given : Given (nothing_known (length registers) (length slots))
  nothing_given = record {
    values_size = length-replicate (length registers) Nothing;
    classes_size = length-replicate (length registers) lost_class;
    slots_size = length-replicate (length slots) open_slot;
    tests_are = refl;
    values = λ v. subst (Lists v) (sym (replicated (length registers) v Nothing)) tt;
    classes = λ c. subst (λ x. ClassMeans log x (names c)) (sym (replicated (length registers) c lost_class)) (record { nonnull = λ z. absurd cc; fresh = λ z. absurd cc });
    fresh = λ v c l s e fr. let z = sym (replicated (length registers) v Nothing) ∙ e in absurd cc;
    slot_facts = λ s. subst (λ x. SlotMeans names (length registers) x (slot_value slots s)) (sym (replicated (length slots) s open_slot)) (record { nonnull = λ z. absurd cc; holds = λ c z. absurd cc });
  }

  nothing_own : OwnClasses (nothing_known (length registers) (length slots))
  nothing_own v c l s e = let z = sym (replicated (length registers) v Nothing) ∙ e in absurd cc

  -- ---- equal values are of one class

  module _ (from to : ℕ) (f : FactSet) (g : Given f) (equal_names : names from ≡ names to) (within : to < length registers) (a b la lb : ℕ) (sa sb : Bool) (of_from : known_at f.values a ≡ Cell from la sa) (of_to : known_at f.values b ≡ Cell to lb sb) where
    abbrev merged : Class
    merged = record { nonnull = (class_at f.classes from).nonnull || (class_at f.classes to).nonnull; fresh = (class_at f.classes from).fresh || (class_at f.classes to).fresh }

    moved_name : (c : ℕ) → names (moved from to c) ≡ names c
    moved_name c = pick (c == from) refl where
      pick : (b : Bool) → (c == from) ≡ b → names (if b then to else c) ≡ names c
      pick true e = sym equal_names ∙ ap names (sym (test_true c from e))
      pick false e = refl

    moved_within : (c : ℕ) → c < length registers → moved from to c < length registers
    moved_within c lt = pick (c == from) where
      pick : (b : Bool) → (if b then to else c) < length registers
      pick true = within
      pick false = lt

    moved_here : moved from to from ≡ to
    moved_here = rw (test_yes from from refl) refl

    moved_to : moved from to to ≡ to
    moved_to = pick (to == from) where
      pick : (b : Bool) → (if b then to else to) ≡ to
      pick true = refl
      pick false = refl

    lists_moved : (v : ℕ) (k : Known) → Lists v k → Lists v (move from to k)
    lists_moved v Nothing l = l
    lists_moved v (Number n b) l = l
    lists_moved v (Cell c layout stale) l = record { is = l.is ∙ sym (moved_name c); within = moved_within c l.within; refers = l.refers; own = l.own; backed = l.backed }
    lists_moved v Null l = l
    lists_moved v (Address x w) l = l
    lists_moved v (GlobalAddress x) l = l

    merged_means : ClassMeans log merged (names to)
    merged_means = record {
      nonnull = λ z. nonnull (or_parts (class_at f.classes from).nonnull (class_at f.classes to).nonnull z);
      fresh = λ z. fresh (or_parts (class_at f.classes from).fresh (class_at f.classes to).fresh z);
    } where
      nonnull : ((class_at f.classes from).nonnull ≡ true) ⊎ ((class_at f.classes to).nonnull ≡ true) → names to ≢ value.Null
      nonnull (inl z) = λ w. (g.classes from).nonnull z (equal_names ∙ w)
      nonnull (inr z) = (g.classes to).nonnull z

      fresh : ((class_at f.classes from).fresh ≡ true) ⊎ ((class_at f.classes to).fresh ≡ true) → IsNullOrFresh log (names to)
      fresh (inl z) = subst (IsNullOrFresh log) equal_names ((g.classes from).fresh z)
      fresh (inr z) = (g.classes to).fresh z

    abbrev next : FactSet
    next = join from to f

    moved_at : (v : ℕ) → known_at (map (move from to) f.values) v ≡ move from to (known_at f.values v)
    moved_at v = at_map (move from to) f.values v Nothing refl

    -- a reference that is of a class after the move was of one that is moved there
    record Was (v c layout : ℕ) (stale : Bool) : Type 0 where
      class : ℕ
      is : known_at f.values v ≡ Cell class layout stale
      moves : moved from to class ≡ c

    was : (v c layout : ℕ) (stale : Bool) (k : Known) → known_at f.values v ≡ k → move from to k ≡ Cell c layout stale → Was v c layout stale
    was v c layout stale (Cell d l s) is e = record { class = d; is = is ∙ cc; moves = cc }
    was v c layout stale Nothing is e = absurd cc
    was v c layout stale (Number n b) is e = absurd cc
    was v c layout stale Null is e = absurd cc
    was v c layout stale (Address x w) is e = absurd cc
    was v c layout stale (GlobalAddress x) is e = absurd cc

    carried : (c d : ℕ) → Origin f d → moved from to d ≡ c → Origin next c
    carried c d o e = record { of = o.of; layout = o.layout; stale = o.stale; is = moved_at o.of ∙ ap (move from to) o.is ∙ ap (λ x. Cell x o.layout o.stale) e; fresh = o.fresh }

    -- a class that is fresh after the join has a fresh value
    fresh_joined : (v c layout : ℕ) (stale : Bool) → Was v c layout stale → (class_at (slice_set f.classes to merged) c).fresh ≡ true → Origin next c
    fresh_joined v c layout stale w fr = by_equal to c at_to elsewhere where
      size : to < length f.classes
      size = omega (arith, within, g.classes_size)

      at_to : to ≡ c → Origin next c
      at_to e =
          let fresh : merged.fresh ≡ true = sym (ap (λ x. x.fresh) (at_same f.classes to merged lost_class size)) ∙ subst (λ y. (class_at (slice_set f.classes to merged) y).fresh ≡ true) (sym e) fr in
          pick (or_parts (class_at f.classes from).fresh (class_at f.classes to).fresh fresh) where
            pick : ((class_at f.classes from).fresh ≡ true) ⊎ ((class_at f.classes to).fresh ≡ true) → Origin next c
            pick (inl z) = carried c from (g.fresh a from la sa of_from z) (moved_here ∙ e)
            pick (inr z) = carried c to (g.fresh b to lb sb of_to z) (moved_to ∙ e)

      elsewhere : to ≢ c → Origin next c
      elsewhere ne =
          let same : class_at (slice_set f.classes to merged) c ≡ class_at f.classes c = at_other f.classes to c merged lost_class ne in
          let d : w.class ≡ c = unmoved w.class w.moves in
          carried c w.class (g.fresh v w.class layout stale w.is (ap (λ y. (class_at f.classes y).fresh) d ∙ sym (ap (λ x. x.fresh) same) ∙ fr)) w.moves where
            unmoved : (d : ℕ) → moved from to d ≡ c → d ≡ c
            unmoved d = pick (d == from) where
              pick : (b : Bool) → (if b then to else d) ≡ c → d ≡ c
              pick true e = absurd (ne e)
              pick false e = e

    joined : Given next
    joined = record {
      values_size = length-map f.values (move from to) ∙ g.values_size;
      classes_size = length-set f.classes to merged ∙ g.classes_size;
      slots_size = g.slots_size;
      tests_are = g.tests_are;
      values = λ v. subst (Lists v) (sym (moved_at v)) (lists_moved v (known_at f.values v) (g.values v));
      classes = λ c. at_set (λ x. ClassMeans log x (names c)) f.classes to c merged lost_class (λ e lt. subst (λ z. ClassMeans log merged (names z)) e merged_means) (λ ne. g.classes c) (record { nonnull = λ z. absurd cc; fresh = λ z. absurd cc });
      fresh = λ v c l s e fr. fresh_joined v c l s (was v c l s (known_at f.values v) refl (sym (moved_at v) ∙ e)) fr;
      slot_facts = g.slot_facts;
    }

  join_given : (v w : ℕ) (k j : Known) (f : FactSet) → known_at f.values v ≡ k → known_at f.values w ≡ j → names v ≡ names w → Given f → Given (join_values k j f)
  join_given v w (Cell from la sa) (Cell to lb sb) f isv isw same g =
      let lv = subst (Lists v) isv (g.values v) in
      let lw = subst (Lists w) isw (g.values w) in
      joined from to f g (sym lv.is ∙ same ∙ lw.is) lw.within v w la lb sa sb isv isw
  join_given v w (Cell from la sa) Nothing f isv isw same g = g
  join_given v w (Cell from la sa) (Number n b) f isv isw same g = g
  join_given v w (Cell from la sa) Null f isv isw same g = g
  join_given v w (Cell from la sa) (Address x y) f isv isw same g = g
  join_given v w (Cell from la sa) (GlobalAddress x) f isv isw same g = g
  join_given v w Nothing j f isv isw same g = g
  join_given v w (Number n b) j f isv isw same g = g
  join_given v w Null j f isv isw same g = g
  join_given v w (Address x y) j f isv isw same g = g
  join_given v w (GlobalAddress x) j f isv isw same g = g

  tie_given : (v : ℕ) (same : Option ℕ) (f : FactSet) → ((w : ℕ) → same ≡ Some w → names v ≡ names w) → Given f → Given (tie_value v same f)
  tie_given v None f equals g = g
  tie_given v (Some w) f equals g = join_given v w (known_at f.values v) (known_at f.values w) f refl refl (equals w refl) g

  fact_tied : (v : ℕ) (of : Fact) (f : FactSet) → implies_fact here there v of ≡ true → Given f → Given (tie_fact v of f)
  fact_tied v (fact.Number bits below) f e g = g
  fact_tied v (fact.Reference layout nonnull a same) f e g = tie_given v same f (cell_implied v layout nonnull a same (known_at here.values v) refl e).sames g
  fact_tied v (fact.Address base words) f e g = g
  fact_tied v (fact.GlobalAddress x) f e g = g

  all_tied : (claims : List Claim) (f : FactSet) → AllImplied claims → Given f → Given (tie_claims claims f)
  all_tied [] f implied g = g
  all_tied (claim.Value v of ∷ claims) f implied g = all_tied claims (tie_fact v of f) implied.1 (fact_tied v of f implied.0 g)
  all_tied (claim.Slot slot nonnull holds ∷ claims) f implied g = all_tied claims f implied.1 g

  -- ---- slots hold

  slot_held : (s x : ℕ) (k : Known) (f : FactSet) → known_at f.values x ≡ k → slot_value slots s ≡ names x → Given f → Given (hold_known s k f)
  slot_held s x (Cell c l st) f is same g =
      let l = subst (Lists x) is (g.values x) in
      record {
        values_size = g.values_size;
        classes_size = g.classes_size;
        slots_size = length-set f.slots s _ ∙ g.slots_size;
        tests_are = g.tests_are;
        values = g.values;
        classes = g.classes;
        fresh = λ v d k t z fr. again (g.fresh v d k t z fr);
        slot_facts = λ t. at_set (λ y. SlotMeans names (length registers) y (slot_value slots t)) f.slots s t (record (slot_at f.slots s) { holds = Some c }) open_slot
            (λ e lt. record {
              nonnull = λ z. subst (λ y. slot_value slots y ≢ value.Null) e ((g.slot_facts s).nonnull z);
              holds = λ d z. let q : c ≡ d = cc in (subst (λ y. slot_value slots y ≡ names d) e (same ∙ l.is ∙ ap names q), subst (λ y. y < length registers) q l.within);
            })
            (λ ne. g.slot_facts t)
            (record { nonnull = λ z. absurd cc; holds = λ d z. absurd cc });
      } where
        again : {d : ℕ} → Origin f d → Origin (hold_known s (Cell c l st) f) d
        again o = record { of = o.of; layout = o.layout; stale = o.stale; is = o.is; fresh = o.fresh }
  slot_held s x Nothing f is same g = g
  slot_held s x (Number n b) f is same g = g
  slot_held s x Null f is same g = g
  slot_held s x (Address y w) f is same g = g
  slot_held s x (GlobalAddress y) f is same g = g

  -- a slot that holds a class here is equal to a value of it
  holds_same : (s x : ℕ) (holds : Option ℕ) (k : Known) → (slot_at here.slots s).holds ≡ holds → known_at here.values x ≡ k → holds_known holds k ≡ true → slot_value slots s ≡ names x
  holds_same s x (Some d) (Cell c l st) iss is e =
      let m = subst (λ k. Means heap p guarded log cells (length here.classes) registers k (names x)) is (h.values x) in
      ((h.slot_facts s).holds d iss).0 ∙ ap cells (test_true d c e) ∙ sym m.is
  holds_same s x None (Cell c l st) iss is e = absurd cc
  holds_same s x holds Nothing iss is e = absurd cc
  holds_same s x holds (Number n b) iss is e = absurd cc
  holds_same s x holds Null iss is e = absurd cc
  holds_same s x holds (Address y w) iss is e = absurd cc
  holds_same s x holds (GlobalAddress y) iss is e = absurd cc

  value_held : (slot holds : Option ℕ) (nonnull : Bool) (f : FactSet) → implies_slot here slot nonnull holds ≡ true → Given f → Given (hold_value slot holds f)
  value_held (Some s) (Some x) nonnull f e g =
      let b = and_parts (implied nonnull (slot_nonnull here.classes (slot_at here.slots s))) (holds_value here.values (slot_at here.slots s).holds (Some x)) e in
      slot_held s x (known_at f.values x) f refl (holds_same s x (slot_at here.slots s).holds (known_at here.values x) refl refl b.1) g
  value_held (Some s) None nonnull f e g = g
  value_held None holds nonnull f e g = g

  all_held : (claims : List Claim) (f : FactSet) → AllImplied claims → Given f → Given (hold_claims table claims f)
  all_held [] f implied g = g
  all_held (claim.Value v of ∷ claims) f implied g = all_held claims f implied.1 g
  all_held (claim.Slot slot nonnull holds ∷ claims) f implied g = all_held claims (hold_value (slot_of table slot) holds f) implied.1 (value_held (slot_of table slot) holds nonnull f implied.0 g)

  -- ---- after the edge

  module _ (claims : List Claim) (is : there ≡ facts_of_claims table (length registers) (length slots) claims) (implied : AllImplied claims) where
    given : Given there
    given =
        let l = all_listed claims (nothing_known (length registers) (length slots)) implied nothing_given nothing_own in
        subst Given (sym is) (all_held claims _ implied (all_tied claims _ implied l.0))

    meant : (v : ℕ) (k : Known) → Lists v k → Means heap p guarded log names (length there.classes) registers k (names v)
    meant v Nothing l = tt
    meant v (Number n b) l = l
    meant v (Cell c layout stale) l = record { is = l.is; within = omega (arith, l.within, given.classes_size); refers = l.refers; own = l.own }
    meant v Null l = absurd l
    meant v (Address x w) l = l
    meant v (GlobalAddress x) l = l

    -- a value that is listed as a reference of another class than a fresh one is not of the class that is fresh here
    covered_value : (q c w d k : ℕ) (st : Bool) (hc hl : ℕ) (hs : Bool) → covers here there q c ≡ true → known_at here.values w ≡ Cell hc hl hs → known_at there.values w ≡ Cell d k st → hc ≡ q → d ≡ c
    covered_value q c w d k st hc hl hs cover hw tw e =
        let b = and_parts (list_all (covers_value q c) (zip here.values there.values)) (list_all (covers_slot q c there.slots) (enumerate_from 0 here.slots)) cover in
        let lh : w < length here.values = within_list here.values w Nothing (λ z. let y = sym hw ∙ z in absurd cc) in
        let lt : w < length there.values = within_list there.values w Nothing (λ z. let y = sym tw ∙ z in absurd cc) in
        let at = all_zip (covers_value q c) here.values there.values w Nothing Nothing lh lt b.0 in
        let at2 = subst (λ x. covers_value q c (x, known_at there.values w) ≡ true) hw at in
        let at3 = subst (λ x. covers_value q c (Cell hc hl hs, x) ≡ true) tw at2 in
        test_true d c (as_implied (hc == q) (d == c) at3 (test_yes hc q e))

    covered_class : (q c : ℕ) (k : Known) (layout : ℕ) (st : Bool) → k ≡ Cell c layout st → covers_known here there q k ≡ true → covers here there q c ≡ true
    covered_class q c k layout st is e = subst (λ x. covers_known here there q x ≡ true) is e

    apart : (v w c d l k : ℕ) (stale : Bool) → known_at there.values v ≡ Cell c l stale → known_at there.values w ≡ Cell d k false → (class_at there.classes c).fresh ≡ true → c ≢ d → AreApart (names c) (names d)
    apart v w c d l k stale tv tw fr ne =
        let o = given.fresh v c l stale tv fr in
        let q = o.fresh in
        let lo = subst (Lists o.of) o.is (given.values o.of) in
        let lw = subst (Lists w) tw (given.values w) in
        let mq = subst (λ k. Means heap p guarded log cells (length here.classes) registers k (names o.of)) q.is (h.values o.of) in
        let cover = covered_class q.class c (known_at there.values o.of) o.layout o.stale o.is q.covered in
        let fresh_name : cells q.class ≡ names c = sym mq.is ∙ lo.is in
        by lo lw q cover fresh_name lw.backed where
          by : {u lu : ℕ} {su : Bool} (lo : ListsCell u c lu su) (lw : ListsCell w d k false) (q : FreshHere u) → covers here there q.class c ≡ true → cells q.class ≡ names c → (known_at here.values w ≡ Null) ⊎ CellHere w false → AreApart (names c) (names d)
          by lo lw q cover fresh_name (inl null) =
              let m = subst (λ k. Means heap p guarded log cells (length here.classes) registers k (names w)) null (h.values w) in
              subst (AreApart (names c)) (sym m ∙ lw.is) (apart_null (names c))
          by lo lw q cover fresh_name (inr x) =
              let m = subst (λ k. Means heap p guarded log cells (length here.classes) registers k (names w)) x.is (h.values w) in
              let xw : known_at here.values w ≡ Cell x.class x.layout false = x.is ∙ ap (Cell x.class x.layout) (x.current refl) in
              by_equal q.class x.class
              (λ e. absurd (ne (sym (covered_value q.class c w d k false x.class x.layout x.was cover x.is tw (sym e)))))
              (λ z. subst (λ y. AreApart y (names d)) fresh_name (subst (AreApart (cells q.class)) (sym m.is ∙ lw.is) (h.alone _ w q.class x.class q.layout x.layout q.stale q.is xw q.fresh z)))

    apart_slots : (v s c l : ℕ) (stale : Bool) → known_at there.values v ≡ Cell c l stale → (class_at there.classes c).fresh ≡ true → holds_class c (slot_at there.slots s).holds ≡ false → AreApart (names c) (slot_value slots s)
    apart_slots v s c l stale tv fr out =
        let o = given.fresh v c l stale tv fr in
        let q = o.fresh in
        let lo = subst (Lists o.of) o.is (given.values o.of) in
        let mq = subst (λ k. Means heap p guarded log cells (length here.classes) registers k (names o.of)) q.is (h.values o.of) in
        let cover = covered_class q.class c (known_at there.values o.of) o.layout o.stale o.is q.covered in
        let fresh_name : cells q.class ≡ names c = sym mq.is ∙ lo.is in
        subst (λ y. AreApart y (slot_value slots s)) fresh_name (pick q cover (holds_class q.class (slot_at here.slots s).holds) refl) where
          pick : {u : ℕ} (q : FreshHere u) → covers here there q.class c ≡ true → (b : Bool) → holds_class q.class (slot_at here.slots s).holds ≡ b → AreApart (cells q.class) (slot_value slots s)
          pick q cover false e = h.alone_in_slots _ s q.class q.layout q.stale q.is q.fresh e
          pick q cover true e =
              let b = and_parts (list_all (covers_value q.class c) (zip here.values there.values)) (list_all (covers_slot q.class c there.slots) (enumerate_from 0 here.slots)) cover in
              let lh : s < length here.slots = within_list here.slots s open_slot (λ z. let y = ap (λ x. holds_class q.class x.holds) (sym z) ∙ e in absurd cc) in
              let in_list = subst (λ (n : ℕ). s < n) (sym (length-enumerate_from 0 here.slots)) lh in
              let numbered = subst (λ x. covers_slot q.class c there.slots x ≡ true) (get_or-enumerate_from 0 here.slots s (0, open_slot) lh)
              (AllPass-from_list_all (covers_slot q.class c there.slots) (enumerate_from 0 here.slots) b.1 s (0, open_slot) in_list) in
              let is : 0 + s ≡ s = omega arith in
              let at = subst (λ (n : ℕ). covers_slot q.class c there.slots (n, slot_at here.slots s) ≡ true) is numbered in
              absurd (not_both (holds_class c (slot_at there.slots s).holds) (as_implied (holds_class q.class (slot_at here.slots s).holds) _ at e) out)

    -- what is implied on an edge holds after it
    pub implied_holds : Holds heap p table guarded log names there registers slots
    implied_holds = record {
      registers_size = sym given.values_size;
      tests_size = sym (ap length given.tests_are ∙ length-replicate (length registers) None);
      slots_size = sym given.slots_size;
      held_size = h.held_size;
      values = λ v. meant v (known_at there.values v) (given.values v);
      classes = given.classes;
      tests = λ v. subst (λ t. WasTested p.of_module registers t (register_at registers v)) (sym (ap (λ t. test_at t v) given.tests_are ∙ replicated (length registers) v None)) tt;
      slot_types = h.slot_types;
      slot_facts = λ s. subst (λ n. SlotMeans names n (slot_at there.slots s) (slot_value slots s)) (sym given.classes_size) (given.slot_facts s);
      alone = apart;
      alone_in_slots = apart_slots;
    }
