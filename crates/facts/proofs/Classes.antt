-- What is known of a class changes: what is said of the values of the class changes, and nothing else.
use Rattle.std.proofs.Common.{◌≡◌, ◌<◌, ◌≤◌, ◌⊎◌, not-le_of_lt, inl, inr, ℕ, List, length, get_or, refl, sym, ap, ◌∙◌, subst, true, false, Bool, Option, Some, None, slice_set}
use Rattle.std.proofs.lemmas.Bool.{cases_lt}
use Rattle.std.proofs.lemmas.List.{set_past, get_or_past, get_or-set_same, get_or-set_other, length-set}
use Rattle.std.proofs.Math.ListN.{get_or-map}
use Rattle.std.proofs.Math.Seq.{map-set_same}
use Rattle.std.specs.Prelude.{◌==◌, ◌||◌, ◌↔◌}
use Rattle.lemmas.specs.Bools.{or_second}
use Rattle.lemmas.specs.Numbers.{test_true, test_yes}
use Rattle.fact_tables.specs.declared.known.Class.{Class}
use Rattle.fact_tables.specs.declared.known.Known.{Known}
use Rattle.fact_tables.specs.declared.known.Known.TheVariants.{Nothing, Number, Cell, Null, Address, GlobalAddress}
use Rattle.fact_tables.specs.declared.known.SlotFact.{SlotFact}
use Rattle.fact_tables.specs.Rows.{known_at, slot_at, class_at, lost_class, holds_class, held_nonnull, slot_nonnull}
use Rattle.facts.specs.Facts.{FactSet, drop_fresh, drop_fresh_of, learn_nonnull, learn_known_nonnull}
use Rattle.facts.specs.Statements.{Statement, IsNumber, IsBelow, RefersTo, IsCurrent, IsNonnull, IsFresh, IsSame, IsAddress, IsGlobal, SlotNonnull, SlotHolds, NumberOf, BelowOf, RefersOf, CurrentOf, OfClass, AddressOf, GlobalOf, Says, FreshOf, PublishEndsFresh, IsWithin, NonnullOf, LearnAddsNonnull}
use Rattle.facts.proofs.Forgets.{class_map, class_any}

-- what does not follow for the class of a value is not so of it
class_but : (P R : ℕ → Type 0) (k : Known) → OfClass P k → (OfClass R k → ⊥) → OfClass (λ d. P d × (R d → ⊥)) k
class_but P R (Cell c layout stale) h ne = (h, ne)
class_but P R Nothing h ne = h
class_but P R (Number bits below) h ne = h
class_but P R Null h ne = h
class_but P R (Address base words) h ne = h
class_but P R (GlobalAddress g) h ne = h

class_both : (P Q : ℕ → Type 0) (k : Known) → OfClass P k → OfClass Q k → OfClass (λ d. P d × Q d) k
class_both P Q (Cell c layout stale) h i = (h, i)
class_both P Q Nothing h i = h
class_both P Q (Number bits below) h i = h
class_both P Q Null h i = h
class_both P Q (Address base words) h i = h
class_both P Q (GlobalAddress g) h i = h

-- of the class of a value one of two things holds
class_either : (P Q R : ℕ → Type 0) (k : Known) → ((d : ℕ) → P d → Q d ⊎ R d) → OfClass P k → OfClass Q k ⊎ OfClass R k
class_either P Q R (Cell c layout stale) g h = g c h
class_either P Q R Nothing g h = inl h
class_either P Q R (Number bits below) g h = inl h
class_either P Q R Null g h = inl h
class_either P Q R (Address base words) g h = inl h
class_either P Q R (GlobalAddress x) g h = inl h

-- a part of a class that is written as it was is as it was in each class
part_kept : {X : Type 0} (q : Class → X) (classes : List Class) (c : ℕ) (class : Class) → q class ≡ q (class_at classes c) → (d : ℕ) → q (class_at (slice_set classes c class) d) ≡ q (class_at classes d)
part_kept q classes c class same d = sym (get_or-map q (slice_set classes c class) d lost_class) ∙ ap (λ l. get_or l d (q lost_class)) (map-set_same q classes c class lost_class same) ∙ get_or-map q classes d lost_class

-- ---- a class is fresh no more

module _ (classes : List Class) (c : ℕ) where
  abbrev published : List Class
  published = slice_set classes c (record (class_at classes c) { fresh = false })

  published_null : (d : ℕ) → (class_at published d).nonnull ≡ (class_at classes d).nonnull
  published_null = part_kept (λ x. x.nonnull) classes c (record (class_at classes c) { fresh = false }) refl

  published_slot : (slot : SlotFact) → slot_nonnull published slot ≡ slot_nonnull classes slot
  published_slot slot = ap (λ b. slot.nonnull || b) (pick slot.holds) where
    pick : (holds : Option ℕ) → held_nonnull published holds ≡ held_nonnull classes holds
    pick None = refl
    pick (Some d) = published_null d

  published_other : (d : ℕ) → (c ≡ d → ⊥) → (class_at published d).fresh ≡ (class_at classes d).fresh
  published_other d ne = ap (λ x. x.fresh) (get_or-set_other classes c d (record (class_at classes c) { fresh = false }) lost_class (λ same. ne (sym same)))

  published_here : (c < length classes) ⊎ (length classes ≤ c) → (class_at published c).fresh ≡ false
  published_here (inl lt) = ap (λ x. x.fresh) (get_or-set_same classes c (record (class_at classes c) { fresh = false }) lost_class lt)
  published_here (inr past) = ap (λ x. x.fresh) (get_or_past published c lost_class (rw length-set past))

  published_less : (d : ℕ) → (class_at published d).fresh ≡ true → ((class_at classes d).fresh ≡ true) × (c ≡ d → ⊥)
  published_less d h = (sym (published_other d ne) ∙ h, ne) where
    ne : c ≡ d → ⊥
    ne e = let gone = published_here (cases_lt c (length classes)) in let now = subst (λ x. (class_at published x).fresh ≡ true) (sym e) h in absurd cc

module _ (f : FactSet) (v : ℕ) where
  -- a value that is no reference is of no class
  fresh_unchanged : (k : Known) → known_at f.values v ≡ k → ((P : ℕ → Type 0) → OfClass P k → ⊥) → (statement : Statement) → Says f statement ↔ (Says f statement × (FreshOf f v statement → ⊥))
  fresh_unchanged k e none statement = (λ h. (h, apart statement), λ h. h.0) where
    apart : (statement : Statement) → FreshOf f v statement → ⊥
    apart (IsFresh u) h = none (λ c. OfClass (λ d. c ≡ d) (known_at f.values u)) (subst (OfClass (λ c. OfClass (λ d. c ≡ d) (known_at f.values u))) e h)
    apart (IsNumber u bits) h = h
    apart (IsBelow u n) h = h
    apart (RefersTo u layout) h = h
    apart (IsCurrent u) h = h
    apart (IsNonnull u) h = h
    apart (IsSame u w) h = h
    apart (IsAddress u base words) h = h
    apart (IsGlobal u g) h = h
    apart (SlotNonnull s) h = h
    apart (SlotHolds s u) h = h

  fresh_dropped : (c layout : ℕ) (stale : Bool) → known_at f.values v ≡ Cell c layout stale → (statement : Statement) → Says (drop_fresh c f) statement ↔ (Says f statement × (FreshOf f v statement → ⊥))
  fresh_dropped c layout stale e (IsFresh u) = (there, back) where
    Now : ℕ → Type 0
    Now d = (class_at (published f.classes c) d).fresh ≡ true

    Was : ℕ → Type 0
    Was d = (class_at f.classes d).fresh ≡ true

    same : OfClass (λ x. OfClass (λ d. x ≡ d) (known_at f.values u)) (known_at f.values v) → OfClass (λ d. c ≡ d) (known_at f.values u)
    same h = subst (OfClass (λ x. OfClass (λ d. x ≡ d) (known_at f.values u))) e h

    there : OfClass Now (known_at f.values u) → OfClass Was (known_at f.values u) × (FreshOf f v (IsFresh u) → ⊥)
    there h = (class_map Now Was (known_at f.values u) (λ d x. (published_less f.classes c d x).0) h, λ i. class_any (λ d. Now d × (c ≡ d)) ⊥ (known_at f.values u) (class_both Now (λ d. c ≡ d) (known_at f.values u) h (same i)) (λ d x. (published_less f.classes c d x.0).1 x.1))

    back : OfClass Was (known_at f.values u) × (FreshOf f v (IsFresh u) → ⊥) → OfClass Now (known_at f.values u)
    back h = class_map (λ d. Was d × (c ≡ d → ⊥)) Now (known_at f.values u) (λ d x. published_other f.classes c d x.1 ∙ x.0)
        (class_but Was (λ d. c ≡ d) (known_at f.values u) h.0 (λ i. h.1 (subst (OfClass (λ x. OfClass (λ d. x ≡ d) (known_at f.values u))) (sym e) i)))
  fresh_dropped c layout stale e (IsNonnull u) = (
    λ h. (class_map (λ d. (class_at (published f.classes c) d).nonnull ≡ true) (λ d. (class_at f.classes d).nonnull ≡ true) (known_at f.values u) (λ d x. sym (published_null f.classes c d) ∙ x) h, λ x. x),
    λ h. class_map (λ d. (class_at f.classes d).nonnull ≡ true) (λ d. (class_at (published f.classes c) d).nonnull ≡ true) (known_at f.values u) (λ d x. published_null f.classes c d ∙ x) h.0,
  )
  fresh_dropped c layout stale e (SlotNonnull s) = let same = published_slot f.classes c (slot_at f.slots s) in (λ h. (sym same ∙ h, λ x. x), λ h. same ∙ h.0)
  fresh_dropped c layout stale e (IsNumber u bits) = (λ h. (h, λ x. x), λ h. h.0)
  fresh_dropped c layout stale e (IsBelow u n) = (λ h. (h, λ x. x), λ h. h.0)
  fresh_dropped c layout stale e (RefersTo u known) = (λ h. (h, λ x. x), λ h. h.0)
  fresh_dropped c layout stale e (IsCurrent u) = (λ h. (h, λ x. x), λ h. h.0)
  fresh_dropped c layout stale e (IsSame u w) = (λ h. (h, λ x. x), λ h. h.0)
  fresh_dropped c layout stale e (IsAddress u base words) = (λ h. (h, λ x. x), λ h. h.0)
  fresh_dropped c layout stale e (IsGlobal u g) = (λ h. (h, λ x. x), λ h. h.0)
  fresh_dropped c layout stale e (SlotHolds s u) = (λ h. (h, λ x. x), λ h. h.0)

  fresh_of_known : (k : Known) → known_at f.values v ≡ k → (statement : Statement) → Says (drop_fresh_of k f) statement ↔ (Says f statement × (FreshOf f v statement → ⊥))
  fresh_of_known (Cell c layout stale) e statement = fresh_dropped c layout stale e statement
  fresh_of_known Nothing e statement = fresh_unchanged Nothing e (λ P h. h) statement
  fresh_of_known (Number bits below) e statement = fresh_unchanged (Number bits below) e (λ P h. h) statement
  fresh_of_known Null e statement = fresh_unchanged Null e (λ P h. h) statement
  fresh_of_known (Address base words) e statement = fresh_unchanged (Address base words) e (λ P h. h) statement
  fresh_of_known (GlobalAddress g) e statement = fresh_unchanged (GlobalAddress g) e (λ P h. h) statement

pub publishes : PublishEndsFresh
publishes f v statement = fresh_of_known f v (known_at f.values v) refl statement

-- ---- a class is not null

module _ (classes : List Class) (c : ℕ) where
  abbrev learned : List Class
  learned = slice_set classes c (record (class_at classes c) { nonnull = (class_at classes c).nonnull || true })

  learned_fresh : (d : ℕ) → (class_at learned d).fresh ≡ (class_at classes d).fresh
  learned_fresh = part_kept (λ x. x.fresh) classes c (record (class_at classes c) { nonnull = (class_at classes c).nonnull || true }) refl

  learned_less : (d : ℕ) → (class_at learned d).nonnull ≡ true → ((class_at classes d).nonnull ≡ true) ⊎ (c ≡ d)
  learned_less d h = pick (c == d) refl where
    pick : (b : Bool) → (c == d) ≡ b → ((class_at classes d).nonnull ≡ true) ⊎ (c ≡ d)
    pick true e = inr (test_true c d e)
    pick false e = inl (sym (ap (λ x. x.nonnull) (get_or-set_other classes c d (record (class_at classes c) { nonnull = (class_at classes c).nonnull || true }) lost_class (λ same. let test = test_yes c d (sym same) in absurd cc))) ∙ h)

  learned_here : c < length classes → (d : ℕ) → c ≡ d → (class_at learned d).nonnull ≡ true
  learned_here lt d e = subst (λ x. (class_at learned x).nonnull ≡ true) e (ap (λ x. x.nonnull) (get_or-set_same classes c (record (class_at classes c) { nonnull = (class_at classes c).nonnull || true }) lost_class lt) ∙ or_second (class_at classes c).nonnull true refl)

  learned_more : c < length classes → (d : ℕ) → ((class_at classes d).nonnull ≡ true) ⊎ (c ≡ d) → (class_at learned d).nonnull ≡ true
  learned_more lt d (inr e) = learned_here lt d e
  learned_more lt d (inl h) = pick (c == d) refl where
    pick : (b : Bool) → (c == d) ≡ b → (class_at learned d).nonnull ≡ true
    pick true e = learned_here lt d (test_true c d e)
    pick false e = ap (λ x. x.nonnull) (get_or-set_other classes c d (record (class_at classes c) { nonnull = (class_at classes c).nonnull || true }) lost_class (λ same. let test = test_yes c d (sym same) in absurd cc)) ∙ h

  slot_less : (slot : SlotFact) → slot_nonnull learned slot ≡ true → (slot_nonnull classes slot ≡ true) ⊎ (holds_class c slot.holds ≡ true)
  slot_less slot = pick slot.nonnull slot.holds where
    pick : (nonnull : Bool) (holds : Option ℕ) → (nonnull || held_nonnull learned holds) ≡ true → ((nonnull || held_nonnull classes holds) ≡ true) ⊎ (holds_class c holds ≡ true)
    pick true holds h = inl refl
    pick false None h = inl h
    pick false (Some d) h = elim (learned_less d h) [ inl x ↦ inl x | inr e ↦ inr (test_yes d c (sym e)) ]

  slot_more : c < length classes → (slot : SlotFact) → (slot_nonnull classes slot ≡ true) ⊎ (holds_class c slot.holds ≡ true) → slot_nonnull learned slot ≡ true
  slot_more lt slot = pick slot.nonnull slot.holds where
    pick : (nonnull : Bool) (holds : Option ℕ) → ((nonnull || held_nonnull classes holds) ≡ true) ⊎ (holds_class c holds ≡ true) → (nonnull || held_nonnull learned holds) ≡ true
    pick true holds h = refl
    pick false None (inl h) = h
    pick false None (inr h) = absurd cc
    pick false (Some d) (inl h) = learned_more lt d (inl h)
    pick false (Some d) (inr h) = learned_more lt d (inr (sym (test_true d c h)))

-- what is said besides, where something holds that does
besides : (P Q R W : Type 0) → W → R ↔ (P ⊎ Q) → R ↔ (P ⊎ (W × Q))
besides P Q R W w e = (λ h. there (e.0 h), λ h. e.1 (back h)) where
  there : P ⊎ Q → P ⊎ (W × Q)
  there (inl h) = inl h
  there (inr h) = inr (w, h)

  back : P ⊎ (W × Q) → P ⊎ Q
  back (inl h) = inl h
  back (inr h) = inr h.1

-- what is said as before, and not besides
plain : (P : Type 0) → P ↔ (P ⊎ ⊥)
plain P = (λ h. inl h, back) where
  back : P ⊎ ⊥ → P
  back (inl h) = h
  back (inr h) = absurd h

module _ (f : FactSet) (v : ℕ) where
  null_unchanged : (k : Known) → known_at f.values v ≡ k → ((P : ℕ → Type 0) → OfClass P k → ⊥) → (statement : Statement) → Says f statement ↔ (Says f statement ⊎ NonnullOf f v statement)
  null_unchanged k e none statement = (λ h. inl h, back statement) where
    back : (statement : Statement) → Says f statement ⊎ NonnullOf f v statement → Says f statement
    back statement (inl h) = h
    back (IsNonnull u) (inr h) = absurd (none (λ c. OfClass (λ d. c ≡ d) (known_at f.values u)) (subst (OfClass (λ c. OfClass (λ d. c ≡ d) (known_at f.values u))) e h))
    back (SlotNonnull s) (inr h) = absurd (none (λ c. holds_class c (slot_at f.slots s).holds ≡ true) (subst (OfClass (λ c. holds_class c (slot_at f.slots s).holds ≡ true)) e h))
    back (IsFresh u) (inr h) = absurd h
    back (IsNumber u bits) (inr h) = absurd h
    back (IsBelow u n) (inr h) = absurd h
    back (RefersTo u layout) (inr h) = absurd h
    back (IsCurrent u) (inr h) = absurd h
    back (IsSame u w) (inr h) = absurd h
    back (IsAddress u base words) (inr h) = absurd h
    back (IsGlobal u g) (inr h) = absurd h
    back (SlotHolds s u) (inr h) = absurd h

  null_learned : (c layout : ℕ) (stale : Bool) → known_at f.values v ≡ Cell c layout stale → c < length f.classes → (statement : Statement) → Says (learn_nonnull c true f) statement ↔ (Says f statement ⊎ NonnullOf f v statement)
  null_learned c layout stale e lt (IsNonnull u) = (there, back) where
    Now : ℕ → Type 0
    Now d = (class_at (learned f.classes c) d).nonnull ≡ true

    Was : ℕ → Type 0
    Was d = (class_at f.classes d).nonnull ≡ true

    there : OfClass Now (known_at f.values u) → OfClass Was (known_at f.values u) ⊎ NonnullOf f v (IsNonnull u)
    there h = elim (class_either Now Was (λ d. c ≡ d) (known_at f.values u) (learned_less f.classes c) h) [
      | inl x ↦ inl x
      | inr x ↦ inr (subst (OfClass (λ x. OfClass (λ d. x ≡ d) (known_at f.values u))) (sym e) x)
    ]

    back : OfClass Was (known_at f.values u) ⊎ NonnullOf f v (IsNonnull u) → OfClass Now (known_at f.values u)
    back (inl h) = class_map Was Now (known_at f.values u) (λ d x. learned_more f.classes c lt d (inl x)) h
    back (inr h) = class_map (λ d. c ≡ d) Now (known_at f.values u) (λ d x. learned_more f.classes c lt d (inr x)) (subst (OfClass (λ x. OfClass (λ d. x ≡ d) (known_at f.values u))) e h)
  null_learned c layout stale e lt (SlotNonnull s) = (there, back) where
    there : slot_nonnull (learned f.classes c) (slot_at f.slots s) ≡ true → (slot_nonnull f.classes (slot_at f.slots s) ≡ true) ⊎ NonnullOf f v (SlotNonnull s)
    there h = elim (slot_less f.classes c (slot_at f.slots s) h) [
      | inl x ↦ inl x
      | inr x ↦ inr (subst (OfClass (λ c. holds_class c (slot_at f.slots s).holds ≡ true)) (sym e) x)
    ]

    back : (slot_nonnull f.classes (slot_at f.slots s) ≡ true) ⊎ NonnullOf f v (SlotNonnull s) → slot_nonnull (learned f.classes c) (slot_at f.slots s) ≡ true
    back (inl h) = slot_more f.classes c lt (slot_at f.slots s) (inl h)
    back (inr h) = slot_more f.classes c lt (slot_at f.slots s) (inr (subst (OfClass (λ c. holds_class c (slot_at f.slots s).holds ≡ true)) e h))
  null_learned c layout stale e lt (IsFresh u) = (there, back) where
    Now : ℕ → Type 0
    Now d = (class_at (learned f.classes c) d).fresh ≡ true

    Was : ℕ → Type 0
    Was d = (class_at f.classes d).fresh ≡ true

    there : OfClass Now (known_at f.values u) → OfClass Was (known_at f.values u) ⊎ ⊥
    there h = inl (class_map Now Was (known_at f.values u) (λ d x. sym (learned_fresh f.classes c d) ∙ x) h)

    back : OfClass Was (known_at f.values u) ⊎ ⊥ → OfClass Now (known_at f.values u)
    back (inl h) = class_map Was Now (known_at f.values u) (λ d x. learned_fresh f.classes c d ∙ x) h
    back (inr h) = absurd h
  null_learned c layout stale e lt (IsNumber u bits) = plain (NumberOf bits (known_at f.values u))
  null_learned c layout stale e lt (IsBelow u n) = plain (BelowOf n (known_at f.values u))
  null_learned c layout stale e lt (RefersTo u known) = plain (RefersOf known (known_at f.values u))
  null_learned c layout stale e lt (IsCurrent u) = plain (CurrentOf (known_at f.values u))
  null_learned c layout stale e lt (IsSame u w) = plain (OfClass (λ c. OfClass (λ d. c ≡ d) (known_at f.values w)) (known_at f.values u))
  null_learned c layout stale e lt (IsAddress u base words) = plain (AddressOf base words (known_at f.values u))
  null_learned c layout stale e lt (IsGlobal u g) = plain (GlobalOf g (known_at f.values u))
  null_learned c layout stale e lt (SlotHolds s u) = plain (OfClass (λ c. holds_class c (slot_at f.slots s).holds ≡ true) (known_at f.values u))

  -- a class that is not one of those that there are
  null_outside : (c : ℕ) → length f.classes ≤ c → (statement : Statement) → Says (learn_nonnull c true f) statement ↔ (Says f statement ⊎ ((c < length f.classes) × NonnullOf f v statement))
  null_outside c past statement = (λ h. inl (subst (λ (g : FactSet). Says g statement) same h), back) where
    same : learn_nonnull c true f ≡ f
    same = ap (λ (classes : List Class). record f { classes = classes }) (set_past f.classes c (record (class_at f.classes c) { nonnull = (class_at f.classes c).nonnull || true }) past)

    back : Says f statement ⊎ ((c < length f.classes) × NonnullOf f v statement) → Says (learn_nonnull c true f) statement
    back (inl h) = subst (λ (g : FactSet). Says g statement) (sym same) h
    back (inr h) = absurd (not-le_of_lt h.0 past)

  null_of_class : (c layout : ℕ) (stale : Bool) → known_at f.values v ≡ Cell c layout stale → (c < length f.classes) ⊎ (length f.classes ≤ c) → (statement : Statement) → Says (learn_nonnull c true f) statement ↔ (Says f statement ⊎ ((c < length f.classes) × NonnullOf f v statement))
  null_of_class c layout stale e (inl lt) statement = besides (Says f statement) (NonnullOf f v statement) (Says (learn_nonnull c true f) statement) (c < length f.classes) lt (null_learned c layout stale e lt statement)
  null_of_class c layout stale e (inr past) statement = null_outside c past statement

  null_of_none : (k : Known) → known_at f.values v ≡ k → ((P : ℕ → Type 0) → OfClass P k → ⊥) → (statement : Statement) → Says f statement ↔ (Says f statement ⊎ (Unit {0} × NonnullOf f v statement))
  null_of_none k e none statement = besides (Says f statement) (NonnullOf f v statement) (Says f statement) (Unit {0}) tt (null_unchanged k e none statement)

  null_of_known : (k : Known) → known_at f.values v ≡ k → (statement : Statement) → Says (learn_known_nonnull k f) statement ↔ (Says f statement ⊎ (IsWithin (length f.classes) k × NonnullOf f v statement))
  null_of_known (Cell c layout stale) e statement = null_of_class c layout stale e (cases_lt c (length f.classes)) statement
  null_of_known Nothing e statement = null_of_none Nothing e (λ P h. h) statement
  null_of_known (Number bits below) e statement = null_of_none (Number bits below) e (λ P h. h) statement
  null_of_known Null e statement = null_of_none Null e (λ P h. h) statement
  null_of_known (Address base words) e statement = null_of_none (Address base words) e (λ P h. h) statement
  null_of_known (GlobalAddress g) e statement = null_of_none (GlobalAddress g) e (λ P h. h) statement

pub learns : LearnAddsNonnull
learns f v statement = null_of_known f v (known_at f.values v) refl statement
