-- A definition of a value ends exactly the statements that name it.
use Rattle.std.proofs.Common.{◌≡◌, ◌⊎◌, inl, inr, ℕ, List, length, map, refl, sym, ap, ◌∙◌, subst, true, false, Bool, Option, Some, None}
use Rattle.std.proofs.lemmas.Bool.{cases_lt}
use Rattle.std.proofs.lemmas.List.{get_or_past, get_or-set_same, get_or-set_other, length-set}
use Rattle.std.proofs.lemmas.List.Folds.{list_any_at}
use Rattle.std.specs.Prelude.{◌==◌, ◌||◌, if◌then◌else◌, ◌↔◌}
use Rattle.std.specs.List.{list_any}
use Rattle.lemmas.specs.Lists.{at_map}
use Rattle.lemmas.specs.Numbers.{test_true, test_yes}
use Rattle.lemmas.specs.Bools.{or_false}
use Rattle.fact_tables.specs.declared.known.Class.{Class}
use Rattle.fact_tables.specs.declared.known.Known.{Known}
use Rattle.fact_tables.specs.declared.known.Known.TheVariants.{Nothing, Number, Cell, Null, Address, GlobalAddress}
use Rattle.fact_tables.specs.declared.known.SlotFact.{SlotFact}
use Rattle.fact_tables.specs.Rows.{known_at, slot_at, class_at, open_slot, is_of, holds_class, held_nonnull, slot_nonnull, let_go, is_on, off_base, values_without}
use Rattle.facts.specs.Facts.{FactSet, slots_without, forget}
use Rattle.facts.specs.Statements.{IsNumber, IsBelow, RefersTo, IsCurrent, IsNonnull, IsFresh, IsSame, IsAddress, IsGlobal, SlotNonnull, SlotHolds, NumberOf, BelowOf, RefersOf, CurrentOf, OfClass, AddressOf, GlobalOf, ForgetEndsNames}

module _ (v : ℕ) (values : List Known) where
  gone : known_at (values_without v values) v ≡ Nothing
  gone = elim (cases_lt v (length (map (off_base v) values))) [
    | inl lt ↦ get_or-set_same (map (off_base v) values) v Nothing Nothing lt
    | inr past ↦ get_or_past (values_without v values) v Nothing (rw length-set past)
  ]

  other : (u : ℕ) → (u ≡ v → ⊥) → known_at (values_without v values) u ≡ off_base v (known_at values u)
  other u ne = get_or-set_other (map (off_base v) values) v u Nothing Nothing ne ∙ at_map (off_base v) values u Nothing refl

  -- what is known afterwards was known before, and is not of v
  pub before : (P : Known → Type 0) → (P Nothing → ⊥) → (u : ℕ) → P (known_at (values_without v values) u) → P (known_at values u) × (u ≡ v → ⊥)
  before P none u h = (pick (is_on v (known_at values u)) refl, ne) where
    ne : u ≡ v → ⊥
    ne e = none (subst P gone (subst (λ x. P (known_at (values_without v values) x)) e h))

    pick : (b : Bool) → is_on v (known_at values u) ≡ b → P (known_at values u)
    pick true e = absurd (none (subst P (ap (λ b. if b then Nothing else known_at values u) e) (subst P (other u ne) h)))
    pick false e = subst P (ap (λ b. if b then Nothing else known_at values u) e) (subst P (other u ne) h)

  -- what was known of another value, and is no address on v, is known afterwards
  pub after : (P : Known → Type 0) → ((k : Known) → is_on v k ≡ true → P k → ⊥) → (u : ℕ) → (u ≡ v → ⊥) → P (known_at values u) → P (known_at (values_without v values) u)
  after P off u ne h = subst P (sym (other u ne)) (pick (is_on v (known_at values u)) refl) where
    pick : (b : Bool) → is_on v (known_at values u) ≡ b → P (off_base v (known_at values u))
    pick true e = absurd (off (known_at values u) e h)
    pick false e = subst P (sym (ap (λ b. if b then Nothing else known_at values u) e)) h

-- a class that a reference has
pub class_map : (P Q : ℕ → Type 0) (k : Known) → ((c : ℕ) → P c → Q c) → OfClass P k → OfClass Q k
class_map P Q (Cell c layout stale) g h = g c h
class_map P Q Nothing g h = h
class_map P Q (Number bits below) g h = h
class_map P Q Null g h = h
class_map P Q (Address base words) g h = h
class_map P Q (GlobalAddress x) g h = h

off_number : (v bits : ℕ) (k : Known) → is_on v k ≡ true → NumberOf bits k → ⊥
off_number v bits (Address base words) e h = h
off_number v bits Nothing e h = h
off_number v bits (Number n below) e h = absurd cc
off_number v bits (Cell c layout stale) e h = h
off_number v bits Null e h = h
off_number v bits (GlobalAddress x) e h = h

off_below : (v n : ℕ) (k : Known) → is_on v k ≡ true → BelowOf n k → ⊥
off_below v n (Address base words) e h = h
off_below v n Nothing e h = h
off_below v n (Number bits below) e h = absurd cc
off_below v n (Cell c layout stale) e h = h
off_below v n Null e h = h
off_below v n (GlobalAddress x) e h = h

off_refers : (v layout : ℕ) (k : Known) → is_on v k ≡ true → RefersOf layout k → ⊥
off_refers v layout (Address base words) e h = h
off_refers v layout Nothing e h = h
off_refers v layout (Number bits below) e h = h
off_refers v layout (Cell c known stale) e h = absurd cc
off_refers v layout Null e h = absurd cc
off_refers v layout (GlobalAddress x) e h = h

off_current : (v : ℕ) (k : Known) → is_on v k ≡ true → CurrentOf k → ⊥
off_current v (Address base words) e h = h
off_current v Nothing e h = h
off_current v (Number bits below) e h = h
off_current v (Cell c layout stale) e h = absurd cc
off_current v Null e h = absurd cc
off_current v (GlobalAddress x) e h = h

off_class : (v : ℕ) (P : ℕ → Type 0) (k : Known) → is_on v k ≡ true → OfClass P k → ⊥
off_class v P (Address base words) e h = h
off_class v P Nothing e h = h
off_class v P (Number bits below) e h = h
off_class v P (Cell c layout stale) e h = absurd cc
off_class v P Null e h = h
off_class v P (GlobalAddress x) e h = h

off_global : (v g : ℕ) (k : Known) → is_on v k ≡ true → GlobalOf g k → ⊥
off_global v g (Address base words) e h = h
off_global v g Nothing e h = h
off_global v g (Number bits below) e h = h
off_global v g (Cell c layout stale) e h = h
off_global v g Null e h = h
off_global v g (GlobalAddress x) e h = absurd cc

off_address : (v base : ℕ) (words : List Bool) → (base ≡ v → ⊥) → (k : Known) → is_on v k ≡ true → AddressOf base words k → ⊥
off_address v base words ne (Address x known) e h = ne (sym h.0 ∙ test_true x v e)
off_address v base words ne Nothing e h = h
off_address v base words ne (Number bits below) e h = h
off_address v base words ne (Cell c layout stale) e h = h
off_address v base words ne Null e h = h
off_address v base words ne (GlobalAddress x) e h = h

-- an address that is known afterwards is on another base
on_other : (v base : ℕ) (words : List Bool) (k : Known) → AddressOf base words (off_base v k) → base ≡ v → ⊥
on_other v base words (Address x known) h e = pick (x == v) refl where
  pick : (b : Bool) → (x == v) ≡ b → ⊥
  pick true is = subst (AddressOf base words) (ap (λ b. if b then Nothing else Address x known) is) h
  pick false is = let right = subst (AddressOf base words) (ap (λ b. if b then Nothing else Address x known) is) h in let same = test_yes x v (right.0 ∙ e) in absurd cc
on_other v base words Nothing h e = h
on_other v base words (Number bits below) h e = h
on_other v base words (Cell c layout stale) h e = h
on_other v base words Null h e = h
on_other v base words (GlobalAddress x) h e = h

-- ---- slots

-- a slot that lets a class go is as null as before
let_go_nonnull : (classes : List Class) (c : ℕ) (slot : SlotFact) → slot_nonnull classes (let_go c (class_at classes c).nonnull slot) ≡ slot_nonnull classes slot
let_go_nonnull classes c slot = pick slot.holds (holds_class c slot.holds) refl refl where
  pick : (holds : Option ℕ) (b : Bool) → slot.holds ≡ holds → holds_class c slot.holds ≡ b → slot_nonnull classes (if b then record slot { nonnull = slot.nonnull || (class_at classes c).nonnull; holds = None } else slot) ≡ slot_nonnull classes slot
  pick holds false is e = refl
  pick None true is e = let bad = sym e ∙ ap (holds_class c) is in absurd cc
  pick (Some d) true is e =
      let same = test_true d c (sym (ap (holds_class c) is) ∙ e) in
      or_false (slot.nonnull || (class_at classes c).nonnull) ∙ ap (λ x. slot.nonnull || (class_at classes x).nonnull) (sym same) ∙ sym (ap (λ h. slot.nonnull || held_nonnull classes h) is)

-- a slot that lets a class go holds no other than before
let_go_less : (c d : ℕ) (nonnull : Bool) (slot : SlotFact) → holds_class d (let_go c nonnull slot).holds ≡ true → holds_class d slot.holds ≡ true
let_go_less c d nonnull slot = pick (holds_class c slot.holds) where
  pick : (b : Bool) → holds_class d (if b then record slot { nonnull = slot.nonnull || nonnull; holds = None } else slot).holds ≡ true → holds_class d slot.holds ≡ true
  pick true e = absurd cc
  pick false e = e

-- a slot holds one class
one_class : (c d : ℕ) (holds : Option ℕ) → holds_class c holds ≡ true → holds_class d holds ≡ true → c ≡ d
one_class c d None e f = absurd cc
one_class c d (Some x) e f = sym (test_true x c e) ∙ test_true x d f

-- and a class other than the one that it lets go
let_go_other : (c d : ℕ) (nonnull : Bool) (slot : SlotFact) → (c ≡ d → ⊥) → holds_class d slot.holds ≡ true → holds_class d (let_go c nonnull slot).holds ≡ true
let_go_other c d nonnull slot ne e = pick (holds_class c slot.holds) refl where
  pick : (b : Bool) → holds_class c slot.holds ≡ b → holds_class d (if b then record slot { nonnull = slot.nonnull || nonnull; holds = None } else slot).holds ≡ true
  pick true is = absurd (ne (one_class c d slot.holds is e))
  pick false is = e

module _ (values : List Known) (classes : List Class) (slots : List SlotFact) (s : ℕ) where
  same_nonnull : (known : Known) → slot_nonnull classes (slot_at (slots_without known values classes slots) s) ≡ slot_nonnull classes (slot_at slots s)
  same_nonnull (Cell c layout stale) = pick (list_any (is_of c) values) where
    pick : (b : Bool) → slot_nonnull classes (slot_at (if b then slots else map (let_go c (class_at classes c).nonnull) slots) s) ≡ slot_nonnull classes (slot_at slots s)
    pick true = refl
    pick false = ap (slot_nonnull classes) (at_map (let_go c (class_at classes c).nonnull) slots s open_slot refl) ∙ let_go_nonnull classes c (slot_at slots s)
  same_nonnull Nothing = refl
  same_nonnull (Number bits below) = refl
  same_nonnull Null = refl
  same_nonnull (Address base words) = refl
  same_nonnull (GlobalAddress g) = refl

  held_before : (d : ℕ) (known : Known) → holds_class d (slot_at (slots_without known values classes slots) s).holds ≡ true → holds_class d (slot_at slots s).holds ≡ true
  held_before d (Cell c layout stale) e = pick (list_any (is_of c) values) e where
    pick : (b : Bool) → holds_class d (slot_at (if b then slots else map (let_go c (class_at classes c).nonnull) slots) s).holds ≡ true → holds_class d (slot_at slots s).holds ≡ true
    pick true e = e
    pick false e = let_go_less c d (class_at classes c).nonnull (slot_at slots s) (sym (ap (λ x. holds_class d x.holds) (at_map (let_go c (class_at classes c).nonnull) slots s open_slot refl)) ∙ e)
  held_before d Nothing e = e
  held_before d (Number bits below) e = e
  held_before d Null e = e
  held_before d (Address base words) e = e
  held_before d (GlobalAddress g) e = e

  -- a class of which a value is left is held on
  held_after : (d : ℕ) (known : Known) → list_any (is_of d) values ≡ true → holds_class d (slot_at slots s).holds ≡ true → holds_class d (slot_at (slots_without known values classes slots) s).holds ≡ true
  held_after d (Cell c layout stale) left e = pick (list_any (is_of c) values) refl where
    pick : (b : Bool) → list_any (is_of c) values ≡ b → holds_class d (slot_at (if b then slots else map (let_go c (class_at classes c).nonnull) slots) s).holds ≡ true
    pick true is = e
    pick false is =
        ap (λ x. holds_class d x.holds) (at_map (let_go c (class_at classes c).nonnull) slots s open_slot refl)
        ∙ let_go_other c d (class_at classes c).nonnull (slot_at slots s) (λ same. let bad = sym is ∙ ap (λ x. list_any (is_of x) values) same ∙ left in absurd cc) e
  held_after d Nothing left e = e
  held_after d (Number bits below) left e = e
  held_after d Null left e = e
  held_after d (Address base words) left e = e
  held_after d (GlobalAddress g) left e = e

-- a value is of its class
class_found : (values : List Known) (u : ℕ) (P : ℕ → Type 0) (k : Known) → known_at values u ≡ k → OfClass P k → OfClass (λ c. P c × (list_any (is_of c) values ≡ true)) k
class_found values u P (Cell c layout stale) e h = (
  h,
  elim (cases_lt u (length values)) [
    | inl lt ↦ list_any_at (is_of c) values u Nothing lt (ap (is_of c) e ∙ test_yes c c refl)
    | inr past ↦ let none = sym (get_or_past values u Nothing past) ∙ e in absurd cc
  ],
)
class_found values u P Nothing e h = h
class_found values u P (Number bits below) e h = h
class_found values u P Null e h = h
class_found values u P (Address base words) e h = h
class_found values u P (GlobalAddress g) e h = h

-- what follows from any class follows
pub class_any : (P : ℕ → Type 0) (Q : Type 0) (k : Known) → OfClass P k → ((c : ℕ) → P c → Q) → Q
class_any P Q (Cell c layout stale) h g = g c h
class_any P Q Nothing h g = absurd h
class_any P Q (Number bits below) h g = absurd h
class_any P Q Null h g = absurd h
class_any P Q (Address base words) h g = absurd h
class_any P Q (GlobalAddress x) h g = absurd h

-- ---- the law

module _ (f : FactSet) (v : ℕ) where
  abbrev next : List Known
  next = values_without v f.values

  -- a statement of one value
  of_one : (P : Known → Type 0) → (P Nothing → ⊥) → ((k : Known) → is_on v k ≡ true → P k → ⊥) → (u : ℕ) → P (known_at next u) ↔ (P (known_at f.values u) × (u ≡ v → ⊥))
  of_one P none off u = (λ h. before v f.values P none u h, λ h. after v f.values P off u h.1 h.0)

  of_two : (u w : ℕ) → OfClass (λ c. OfClass (λ d. c ≡ d) (known_at next w)) (known_at next u) ↔ (OfClass (λ c. OfClass (λ d. c ≡ d) (known_at f.values w)) (known_at f.values u) × ((u ≡ v) ⊎ (w ≡ v) → ⊥))
  of_two u w = (there, back) where
    Here : ℕ → Type 0
    Here c = OfClass (λ d. c ≡ d) (known_at f.values w)

    Next : ℕ → Type 0
    Next c = OfClass (λ d. c ≡ d) (known_at next w)

    neither : (u ≡ v → ⊥) → (w ≡ v → ⊥) → (u ≡ v) ⊎ (w ≡ v) → ⊥
    neither a b (inl e) = a e
    neither a b (inr e) = b e

    there : OfClass Next (known_at next u) → OfClass Here (known_at f.values u) × ((u ≡ v) ⊎ (w ≡ v) → ⊥)
    there h =
        let first = before v f.values (OfClass Next) (λ x. x) u h in
        let second : (c : ℕ) → Next c → Here c × (w ≡ v → ⊥) = λ c x. before v f.values (OfClass (λ d. c ≡ d)) (λ y. y) w x in
        (class_map Next Here (known_at f.values u) (λ c x. (second c x).0) first.0, neither first.1 (class_any Next (w ≡ v → ⊥) (known_at f.values u) first.0 (λ c x. (second c x).1)))

    back : OfClass Here (known_at f.values u) × ((u ≡ v) ⊎ (w ≡ v) → ⊥) → OfClass Next (known_at next u)
    back h = after v f.values (OfClass Next) (off_class v Next) u (λ e. h.1 (inl e)) (class_map Here Next (known_at f.values u) (λ c x. after v f.values (OfClass (λ d. c ≡ d)) (off_class v (λ d. c ≡ d)) w (λ e. h.1 (inr e)) x) h.0)

  of_address : (u base : ℕ) (words : List Bool) → AddressOf base words (known_at next u) ↔ (AddressOf base words (known_at f.values u) × ((u ≡ v) ⊎ (base ≡ v) → ⊥))
  of_address u base words = (there, λ h. after v f.values (AddressOf base words) (off_address v base words (λ e. h.1 (inr e))) u (λ e. h.1 (inl e)) h.0) where
    there : AddressOf base words (known_at next u) → AddressOf base words (known_at f.values u) × ((u ≡ v) ⊎ (base ≡ v) → ⊥)
    there h = let first = before v f.values (AddressOf base words) (λ x. x) u h in (first.0, neither first.1) where
      neither : (u ≡ v → ⊥) → (u ≡ v) ⊎ (base ≡ v) → ⊥
      neither ne (inl e) = ne e
      neither ne (inr e) = let first = before v f.values (AddressOf base words) (λ x. x) u h in on_other v base words (known_at f.values u) (subst (AddressOf base words) (other v f.values u first.1) h) e

  of_slot : (s u : ℕ) → OfClass (λ c. holds_class c (slot_at (forget v f).slots s).holds ≡ true) (known_at next u) ↔ (OfClass (λ c. holds_class c (slot_at f.slots s).holds ≡ true) (known_at f.values u) × (u ≡ v → ⊥))
  of_slot s u = (there, back) where
    Here : ℕ → Type 0
    Here c = holds_class c (slot_at f.slots s).holds ≡ true

    Next : ℕ → Type 0
    Next c = holds_class c (slot_at (forget v f).slots s).holds ≡ true

    there : OfClass Next (known_at next u) → OfClass Here (known_at f.values u) × (u ≡ v → ⊥)
    there h = let first = before v f.values (OfClass Next) (λ x. x) u h in (class_map Next Here (known_at f.values u) (λ c x. held_before next f.classes f.slots s c (known_at f.values v) x) first.0, first.1)

    back : OfClass Here (known_at f.values u) × (u ≡ v → ⊥) → OfClass Next (known_at next u)
    back h =
        let kept = after v f.values (OfClass Here) (off_class v Here) u h.1 h.0 in
        class_map (λ c. Here c × (list_any (is_of c) next ≡ true)) Next (known_at next u) (λ c x. held_after next f.classes f.slots s c (known_at f.values v) x.1 x.0) (class_found next u Here (known_at next u) refl kept)

pub forgets : ForgetEndsNames
forgets f v (IsNumber u bits) = of_one f v (NumberOf bits) (λ x. x) (off_number v bits) u
forgets f v (IsBelow u n) = of_one f v (BelowOf n) (λ x. x) (off_below v n) u
forgets f v (RefersTo u layout) = of_one f v (RefersOf layout) (λ x. x) (off_refers v layout) u
forgets f v (IsCurrent u) = of_one f v CurrentOf (λ x. x) (off_current v) u
forgets f v (IsNonnull u) = of_one f v (OfClass (λ c. (class_at f.classes c).nonnull ≡ true)) (λ x. x) (off_class v (λ c. (class_at f.classes c).nonnull ≡ true)) u
forgets f v (IsFresh u) = of_one f v (OfClass (λ c. (class_at f.classes c).fresh ≡ true)) (λ x. x) (off_class v (λ c. (class_at f.classes c).fresh ≡ true)) u
forgets f v (IsSame u w) = of_two f v u w
forgets f v (IsAddress u base words) = of_address f v u base words
forgets f v (IsGlobal u g) = of_one f v (GlobalOf g) (λ x. x) (off_global v g) u
forgets f v (SlotNonnull s) =
    let same = same_nonnull (values_without v f.values) f.classes f.slots s (known_at f.values v) in
    (λ h. (sym same ∙ h, λ x. x), λ h. same ∙ h.0)
forgets f v (SlotHolds s u) = of_slot f v s u
