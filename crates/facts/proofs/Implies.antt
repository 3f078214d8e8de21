-- Exactly the claims are implied of which all is said.
use Rattle.std.proofs.Common.{◌≡◌, ℕ, List, refl, sym, subst, true, false, Bool, Option, Some, None, inl, inr}
use Rattle.std.proofs.lemmas.Bool.{leb-true, le-leb}
use Rattle.std.specs.Prelude.{◌==◌, ◌&&◌, not, ◌↔◌, ◌⊎◌}
use Rattle.std.specs.List.{list_all, enumerate_from, zip}
use Rattle.lemmas.specs.Numbers.{test_true, test_yes}
use Rattle.lemmas.specs.Bools.{and_parts, not_true, and_true}
use Rattle.pools.specs.WordSets.{has_all}
use Rattle.shadow_stack.specs.Slots.{slot_of}
use Rattle.certs.specs.declared.section.Age.{Age}
use Rattle.certs.specs.declared.section.Fact.{Fact}
use Rattle.certs.specs.declared.section.Fact.TheVariants as fact
use Rattle.certs.specs.declared.section.Claim.TheVariants as claim
use Rattle.fact_tables.specs.declared.known.Known.{Known}
use Rattle.fact_tables.specs.declared.known.Known.TheVariants.{Nothing, Number, Cell, Null, Address, GlobalAddress}
use Rattle.fact_tables.specs.Rows.{known_at, slot_at, class_at, is_of, holds_class, slot_nonnull}
use Rattle.facts.specs.Facts.{FactSet}
use Rattle.fact_tables.specs.Covers.{implied, covers_value, covers_slot, values_there, values_back, slots_there, slots_back}
use Rattle.facts.specs.Claims.{is_stale, is_fresh, is_below, covers, covers_known, is_fresh_in, is_same, is_alone, implies_reference, implies_number, implies_address, implies_global, implies_fact, holds_known, holds_value, implies_slot}
use Rattle.facts.specs.Statements.{NumberOf, UpTo, BelowOf, RefersOf, CurrentOf, OfClass, AddressOf, GlobalOf}
use Rattle.facts.specs.Implied.{IfAsked, IfNamed, Named, FactImplied, ImpliesWhatIsSaid}

-- ---- tests

implied_there : (asked holds : Bool) → implied asked holds ≡ true → IfAsked asked (holds ≡ true)
implied_there true true e = refl
implied_there true false e = absurd cc
implied_there false holds e = tt

implied_back : (asked holds : Bool) → IfAsked asked (holds ≡ true) → implied asked holds ≡ true
implied_back true true h = refl
implied_back true false h = absurd cc
implied_back false true h = refl
implied_back false false h = refl

asked_map : (asked : Bool) (P Q : Type 0) → (P → Q) → IfAsked asked P → IfAsked asked Q
asked_map true P Q g h = g h
asked_map false P Q g h = tt

not_false : (b : Bool) → b ≡ false → not b ≡ true
not_false true e = absurd cc
not_false false e = refl

-- ---- all that is the same

-- a reference of this class
of_there : (c : ℕ) (k : Known) → is_of c k ≡ true → OfClass (λ d. c ≡ d) k
of_there c (Cell d layout stale) e = sym (test_true d c e)
of_there c Nothing e = absurd cc
of_there c (Number bits below) e = absurd cc
of_there c Null e = absurd cc
of_there c (Address base words) e = absurd cc
of_there c (GlobalAddress g) e = absurd cc

of_back : (c : ℕ) (k : Known) → OfClass (λ d. c ≡ d) k → is_of c k ≡ true
of_back c (Cell d layout stale) e = test_yes d c (sym e)
of_back c Nothing e = absurd e
of_back c (Number bits below) e = absurd e
of_back c Null e = absurd e
of_back c (Address base words) e = absurd e
of_back c (GlobalAddress g) e = absurd e

value_there : (c d : ℕ) (h t : Known) → covers_value c d (h, t) ≡ true → OfClass (λ x. c ≡ x) h → OfClass (λ x. Unit {0}) t → OfClass (λ x. d ≡ x) t
value_there c d h (Cell x layout stale) e here there = pick (is_of c h) (of_back c h here) e where
  pick : (b : Bool) → b ≡ true → implied b (x == d) ≡ true → d ≡ x
  pick true is e = sym (test_true x d (implied_there true (x == d) e))
  pick false is e = absurd cc
value_there c d h Nothing e here there = there
value_there c d h (Number bits below) e here there = there
value_there c d h Null e here there = there
value_there c d h (Address base words) e here there = there
value_there c d h (GlobalAddress g) e here there = there

value_back : (c d : ℕ) (h t : Known) → (OfClass (λ x. c ≡ x) h → OfClass (λ x. Unit {0}) t → OfClass (λ x. d ≡ x) t) → covers_value c d (h, t) ≡ true
value_back c d h (Cell x layout stale) g = pick (is_of c h) refl where
  pick : (b : Bool) → is_of c h ≡ b → implied b (x == d) ≡ true
  pick true is = implied_back true (x == d) (test_yes x d (sym (g (of_there c h is) tt)))
  pick false is = implied_back false (x == d) tt
value_back c d h Nothing g = refl
value_back c d h (Number bits below) g = refl
value_back c d h Null g = refl
value_back c d h (Address base words) g = refl
value_back c d h (GlobalAddress x) g = refl

slot_there : (a b : Bool) → implied a b ≡ true → a ≡ true → b ≡ true
slot_there true b e h = implied_there true b e
slot_there false b e h = absurd cc

slot_back : (a b : Bool) → (a ≡ true → b ≡ true) → implied a b ≡ true
slot_back true b g = implied_back true b (g refl)
slot_back false b g = implied_back false b tt

module _ (here there : FactSet) where
  abbrev Covered : (c d : ℕ) → Type 0
  Covered c d =
      ((u : ℕ) → OfClass (λ x. c ≡ x) (known_at here.values u) → OfClass (λ x. Unit {0}) (known_at there.values u) → OfClass (λ x. d ≡ x) (known_at there.values u))
      × ((s : ℕ) → holds_class c (slot_at here.slots s).holds ≡ true → holds_class d (slot_at there.slots s).holds ≡ true)

  covers_there : (c d : ℕ) → covers here there c d ≡ true → Covered c d
  covers_there c d e =
      let parts = and_parts (list_all (covers_value c d) (zip here.values there.values)) (list_all (covers_slot c d there.slots) (enumerate_from 0 here.slots)) e in (
        λ u. value_there c d (known_at here.values u) (known_at there.values u) (values_there c d here.values there.values parts.0 u),
        λ s. slot_there (holds_class c (slot_at here.slots s).holds) (holds_class d (slot_at there.slots s).holds) (slots_there c d here.slots there.slots parts.1 s),
      )

  covers_back : (c d : ℕ) → Covered c d → covers here there c d ≡ true
  covers_back c d h =
      and_true (list_all (covers_value c d) (zip here.values there.values)) (list_all (covers_slot c d there.slots) (enumerate_from 0 here.slots))
      (values_back c d here.values there.values (λ u. value_back c d (known_at here.values u) (known_at there.values u) (h.0 u)))
      (slots_back c d here.slots there.slots (λ s. slot_back (holds_class c (slot_at here.slots s).holds) (holds_class d (slot_at there.slots s).holds) (h.1 s)))

  -- v, of class c here, and known there to be this, is listed with all that is the same
  abbrev Lists : (c : ℕ) → Known → Type 0
  Lists c k =
      OfClass (λ x. Unit {0}) k
      × (((u : ℕ) → OfClass (λ x. c ≡ x) (known_at here.values u) → OfClass (λ x. Unit {0}) (known_at there.values u) → OfClass (λ d. OfClass (λ x. d ≡ x) (known_at there.values u)) k)
      × ((s : ℕ) → holds_class c (slot_at here.slots s).holds ≡ true → OfClass (λ d. holds_class d (slot_at there.slots s).holds ≡ true) k))

  lists_there : (c : ℕ) (k : Known) → covers_known here there c k ≡ true → Lists c k
  lists_there c (Cell d layout stale) e = (tt, covers_there c d e)
  lists_there c Nothing e = absurd cc
  lists_there c (Number bits below) e = absurd cc
  lists_there c Null e = absurd cc
  lists_there c (Address base words) e = absurd cc
  lists_there c (GlobalAddress g) e = absurd cc

  lists_back : (c : ℕ) (k : Known) → Lists c k → covers_known here there c k ≡ true
  lists_back c (Cell d layout stale) h = covers_back c d h.1
  lists_back c Nothing h = absurd h.0
  lists_back c (Number bits below) h = absurd h.0
  lists_back c Null h = absurd h.0
  lists_back c (Address base words) h = absurd h.0
  lists_back c (GlobalAddress g) h = absurd h.0

  same_there : (v c : ℕ) (same : Option ℕ) → is_same here.values c same ≡ true → IfNamed same (λ w. (v ≡ w) ⊎ OfClass (λ d. c ≡ d) (known_at here.values w))
  same_there v c None e = tt
  same_there v c (Some w) e = inr (of_there c (known_at here.values w) e)

  same_back : (v c : ℕ) (same : Option ℕ) → OfClass (λ d. c ≡ d) (known_at here.values v) → IfNamed same (λ w. (v ≡ w) ⊎ OfClass (λ d. c ≡ d) (known_at here.values w)) → is_same here.values c same ≡ true
  same_back v c None own h = refl
  same_back v c (Some w) own (inl e) = of_back c (known_at here.values w) (subst (λ x. OfClass (λ d. c ≡ d) (known_at here.values x)) e own)
  same_back v c (Some w) own (inr h) = of_back c (known_at here.values w) h

  -- what is asked of a reference that is known to be this
  abbrev Asked : (v layout : ℕ) → (nonnull : Bool) → Age → (same : Option ℕ) → Known → Type 0
  Asked v layout nonnull age same k =
      RefersOf layout k
      × (IfAsked nonnull (OfClass (λ c. (class_at here.classes c).nonnull ≡ true) k)
      × (IfAsked (not (is_stale age)) (CurrentOf k)
      × (IfAsked (is_fresh age) (OfClass (λ c. (class_at here.classes c).fresh ≡ true) k
      × (OfClass (λ x. Unit {0}) (known_at there.values v)
      × (((u : ℕ) → OfClass (λ c. OfClass (λ d. c ≡ d) (known_at here.values u)) k → OfClass (λ x. Unit {0}) (known_at there.values u) → OfClass (λ d. OfClass (λ x. d ≡ x) (known_at there.values u)) (known_at there.values v))
      × ((s : ℕ) → OfClass (λ c. holds_class c (slot_at here.slots s).holds ≡ true) k → OfClass (λ d. holds_class d (slot_at there.slots s).holds ≡ true) (known_at there.values v)))))
      × IfNamed same (λ w. (v ≡ w) ⊎ OfClass (λ c. OfClass (λ d. c ≡ d) (known_at here.values w)) k))))

  reference_there : (v layout : ℕ) (nonnull : Bool) (age : Age) (same : Option ℕ) (k : Known) → implies_reference here there v layout nonnull age same k ≡ true → Asked v layout nonnull age same k
  reference_there v layout nonnull age same (Cell c known stale) e =
      let N = (class_at here.classes c).nonnull in
      let F = is_fresh_in here there c v in
      let A = known == layout in
      let B = implied nonnull N in
      let C = implied (not (is_stale age)) (not stale) in
      let D = implied (is_fresh age) F in
      let four = and_parts (A && B && C && D) (is_same here.values c same) e in
      let three = and_parts (A && B && C) D four.0 in
      let two = and_parts (A && B) C three.0 in
      let one = and_parts A B two.0 in (
        test_true known layout one.0,
        (
          implied_there nonnull N one.1,
          (
            asked_map (not (is_stale age)) (not stale ≡ true) (stale ≡ false) (not_true stale) (implied_there (not (is_stale age)) (not stale) two.1),
            (
              asked_map (is_fresh age) (F ≡ true) (((class_at here.classes c).fresh ≡ true) × Lists c (known_at there.values v))
                  (λ h. let parts = and_parts (class_at here.classes c).fresh (covers_known here there c (known_at there.values v)) h in (parts.0, lists_there c (known_at there.values v) parts.1))
                  (implied_there (is_fresh age) F three.1),
              same_there v c same four.1,
            ),
          ),
        ),
      )
  reference_there v layout nonnull age same Null e = pick nonnull (is_fresh age) same e where
    any : (b : Bool) → IfAsked b (Unit {0})
    any true = tt
    any false = tt

    pick : (n fresh : Bool) (same : Option ℕ) → (not n && not fresh && is_alone v same) ≡ true → Unit {0} × (IfAsked n ⊥ × (IfAsked (not (is_stale age)) (Unit {0}) × (IfAsked fresh (⊥ × (OfClass (λ x. Unit {0}) (known_at there.values v)
        × (((u : ℕ) → ⊥ → OfClass (λ x. Unit {0}) (known_at there.values u) → OfClass (λ d. OfClass (λ x. d ≡ x) (known_at there.values u)) (known_at there.values v))
        × ((s : ℕ) → ⊥ → OfClass (λ d. holds_class d (slot_at there.slots s).holds ≡ true) (known_at there.values v))))) × IfNamed same (λ w. (v ≡ w) ⊎ ⊥))))
    pick true fresh same e = absurd cc
    pick false true same e = absurd cc
    pick false false (Some w) e = (tt, (tt, (any (not (is_stale age)), (tt, inl (sym (test_true w v e))))))
    pick false false None e = (tt, (tt, (any (not (is_stale age)), (tt, tt))))
  reference_there v layout nonnull age same Nothing e = absurd cc
  reference_there v layout nonnull age same (Number bits below) e = absurd cc
  reference_there v layout nonnull age same (Address base words) e = absurd cc
  reference_there v layout nonnull age same (GlobalAddress g) e = absurd cc

  reference_back : (v layout : ℕ) (nonnull : Bool) (age : Age) (same : Option ℕ) (k : Known) → known_at here.values v ≡ k → Asked v layout nonnull age same k → implies_reference here there v layout nonnull age same k ≡ true
  reference_back v layout nonnull age same (Cell c known stale) is h =
      let N = (class_at here.classes c).nonnull in
      let F = is_fresh_in here there c v in
      let A = known == layout in
      let B = implied nonnull N in
      let C = implied (not (is_stale age)) (not stale) in
      let D = implied (is_fresh age) F in
      and_true (A && B && C && D) (is_same here.values c same)
      (and_true (A && B && C) D
      (and_true (A && B) C (and_true A B (test_yes known layout h.0) (implied_back nonnull N h.1.0))
      (implied_back (not (is_stale age)) (not stale) (asked_map (not (is_stale age)) (stale ≡ false) (not stale ≡ true) (not_false stale) h.1.1.0)))
      (implied_back (is_fresh age) F (asked_map (is_fresh age) (((class_at here.classes c).fresh ≡ true) × Lists c (known_at there.values v)) (F ≡ true)
      (λ x. and_true (class_at here.classes c).fresh (covers_known here there c (known_at there.values v)) x.0 (lists_back c (known_at there.values v) x.1)) h.1.1.1.0)))
      (same_back v c same (subst (OfClass (λ d. c ≡ d)) (sym is) refl) h.1.1.1.1)
  reference_back v layout nonnull age same Null is h = pick _ nonnull (is_fresh age) same h.1.0 h.1.1.1.0 h.1.1.1.1 where
    pick : (P : Type 0) (n fresh : Bool) (same : Option ℕ) → IfAsked n ⊥ → IfAsked fresh (⊥ × P) → IfNamed same (λ w. (v ≡ w) ⊎ ⊥) → (not n && not fresh && is_alone v same) ≡ true
    pick P true fresh same a b c = absurd a
    pick P false true same a b c = absurd b.0
    pick P false false (Some w) a b (inl e) = test_yes w v (sym e)
    pick P false false (Some w) a b (inr c) = absurd c
    pick P false false None a b c = refl
  reference_back v layout nonnull age same Nothing is h = absurd h.0
  reference_back v layout nonnull age same (Number bits below) is h = absurd h.0
  reference_back v layout nonnull age same (Address base words) is h = absurd h.0
  reference_back v layout nonnull age same (GlobalAddress g) is h = absurd h.0

-- ---- integers, addresses, slots

below_there : (below asked : Option ℕ) → is_below below asked ≡ true → IfNamed asked (λ n. UpTo n below)
below_there below None e = tt
below_there None (Some n) e = absurd cc
below_there (Some m) (Some n) e = leb-true m n e

below_back : (below asked : Option ℕ) → IfNamed asked (λ n. UpTo n below) → is_below below asked ≡ true
below_back None None h = refl
below_back (Some m) None h = refl
below_back None (Some n) h = absurd h
below_back (Some m) (Some n) h = le-leb m n h

number_there : (bits : ℕ) (asked : Option ℕ) (k : Known) → implies_number bits asked k ≡ true → NumberOf bits k × IfNamed asked (λ n. BelowOf n k)
number_there bits asked (Number n below) e = let parts = and_parts (n == bits) (is_below below asked) e in (test_true n bits parts.0, below_there below asked parts.1)
number_there bits asked Nothing e = absurd cc
number_there bits asked (Cell c layout stale) e = absurd cc
number_there bits asked Null e = absurd cc
number_there bits asked (Address base words) e = absurd cc
number_there bits asked (GlobalAddress g) e = absurd cc

number_back : (bits : ℕ) (asked : Option ℕ) (k : Known) → NumberOf bits k × IfNamed asked (λ n. BelowOf n k) → implies_number bits asked k ≡ true
number_back bits asked (Number n below) h = and_true (n == bits) (is_below below asked) (test_yes n bits h.0) (below_back below asked h.1)
number_back bits asked Nothing h = absurd h.0
number_back bits asked (Cell c layout stale) h = absurd h.0
number_back bits asked Null h = absurd h.0
number_back bits asked (Address base words) h = absurd h.0
number_back bits asked (GlobalAddress g) h = absurd h.0

address_there : (base : ℕ) (words : List Bool) (k : Known) → implies_address base words k ≡ true → AddressOf base words k
address_there base words (Address x known) e = let parts = and_parts (x == base) (has_all words known) e in (test_true x base parts.0, parts.1)
address_there base words Nothing e = absurd cc
address_there base words (Number bits below) e = absurd cc
address_there base words (Cell c layout stale) e = absurd cc
address_there base words Null e = absurd cc
address_there base words (GlobalAddress g) e = absurd cc

address_back : (base : ℕ) (words : List Bool) (k : Known) → AddressOf base words k → implies_address base words k ≡ true
address_back base words (Address x known) h = and_true (x == base) (has_all words known) (test_yes x base h.0) h.1
address_back base words Nothing h = absurd h
address_back base words (Number bits below) h = absurd h
address_back base words (Cell c layout stale) h = absurd h
address_back base words Null h = absurd h
address_back base words (GlobalAddress g) h = absurd h

global_there : (g : ℕ) (k : Known) → implies_global g k ≡ true → GlobalOf g k
global_there g (GlobalAddress x) e = test_true x g e
global_there g Nothing e = absurd cc
global_there g (Number bits below) e = absurd cc
global_there g (Cell c layout stale) e = absurd cc
global_there g Null e = absurd cc
global_there g (Address base words) e = absurd cc

global_back : (g : ℕ) (k : Known) → GlobalOf g k → implies_global g k ≡ true
global_back g (GlobalAddress x) h = test_yes x g h
global_back g Nothing h = absurd h
global_back g (Number bits below) h = absurd h
global_back g (Cell c layout stale) h = absurd h
global_back g Null h = absurd h
global_back g (Address base words) h = absurd h

held_there : (holds : Option ℕ) (k : Known) → holds_known holds k ≡ true → OfClass (λ c. holds_class c holds ≡ true) k
held_there holds (Cell c layout stale) e = e
held_there holds Nothing e = absurd cc
held_there holds (Number bits below) e = absurd cc
held_there holds Null e = absurd cc
held_there holds (Address base words) e = absurd cc
held_there holds (GlobalAddress g) e = absurd cc

held_back : (holds : Option ℕ) (k : Known) → OfClass (λ c. holds_class c holds ≡ true) k → holds_known holds k ≡ true
held_back holds (Cell c layout stale) h = h
held_back holds Nothing h = absurd h
held_back holds (Number bits below) h = absurd h
held_back holds Null h = absurd h
held_back holds (Address base words) h = absurd h
held_back holds (GlobalAddress g) h = absurd h

module _ (here : FactSet) where
  asked_there : (holds asked : Option ℕ) → holds_value here.values holds asked ≡ true → IfNamed asked (λ x. OfClass (λ c. holds_class c holds ≡ true) (known_at here.values x))
  asked_there holds None e = tt
  asked_there holds (Some x) e = held_there holds (known_at here.values x) e

  asked_back : (holds asked : Option ℕ) → IfNamed asked (λ x. OfClass (λ c. holds_class c holds ≡ true) (known_at here.values x)) → holds_value here.values holds asked ≡ true
  asked_back holds None h = refl
  asked_back holds (Some x) h = held_back holds (known_at here.values x) h

  abbrev SlotAsked : (nonnull : Bool) → (holds : Option ℕ) → ℕ → Type 0
  SlotAsked nonnull holds s = IfAsked nonnull (slot_nonnull here.classes (slot_at here.slots s) ≡ true) × IfNamed holds (λ x. OfClass (λ c. holds_class c (slot_at here.slots s).holds ≡ true) (known_at here.values x))

  slot_implied : (slot : Option ℕ) (nonnull : Bool) (holds : Option ℕ) → (implies_slot here slot nonnull holds ≡ true) ↔ Named slot (SlotAsked nonnull holds)
  slot_implied None nonnull holds = (λ e. absurd cc, λ h. absurd h)
  slot_implied (Some s) nonnull holds =
      let slot = slot_at here.slots s in
      let null = slot_nonnull here.classes slot in (
        λ e. let parts = and_parts (implied nonnull null) (holds_value here.values slot.holds holds) e in (implied_there nonnull null parts.0, asked_there slot.holds holds parts.1),
        λ h. and_true (implied nonnull null) (holds_value here.values slot.holds holds) (implied_back nonnull null h.0) (asked_back slot.holds holds h.1),
      )

fact_implied : (here there : FactSet) (v : ℕ) (fact : Fact) → (implies_fact here there v fact ≡ true) ↔ FactImplied here there v fact
fact_implied here there v (fact.Number bits below) = (number_there bits below (known_at here.values v), number_back bits below (known_at here.values v))
fact_implied here there v (fact.Reference layout nonnull age same) =
    (reference_there here there v layout nonnull age same (known_at here.values v), reference_back here there v layout nonnull age same (known_at here.values v) refl)
fact_implied here there v (fact.Address base words) = (address_there base words (known_at here.values v), address_back base words (known_at here.values v))
fact_implied here there v (fact.GlobalAddress g) = (global_there g (known_at here.values v), global_back g (known_at here.values v))

pub implies_what_is_said : ImpliesWhatIsSaid
implies_what_is_said table here there (claim.Value v fact) = fact_implied here there v fact
implies_what_is_said table here there (claim.Slot slot nonnull holds) = slot_implied here (slot_of table slot) nonnull holds
