-- What the claims of a certificate give and ask.
use Rattle.std.specs.Prelude.{ℕ, ◌==◌, Bool, true, false, not, ◌&&◌, ◌||◌, if◌then◌else◌, List, [], ◌∷◌, map, nat_le, Option, Some, None}
use Rattle.std.specs.List.{list_all, enumerate_from, zip}
use Rattle.pools.specs.WordSets.{has_all}
use Rattle.shadow_stack.specs.Slots.{SlotTable, slot_of}
use Rattle.certs.specs.declared.section.Age.{Age}
use Rattle.certs.specs.declared.section.Age.TheVariants as age
use Rattle.certs.specs.declared.section.Fact.{Fact}
use Rattle.certs.specs.declared.section.Fact.TheVariants as fact
use Rattle.certs.specs.declared.section.Claim.{Claim}
use Rattle.certs.specs.declared.section.Claim.TheVariants as claim
use Rattle.certs.specs.declared.section.Promise.{Promise}
use Rattle.facts.specs.declared.given.Given.{Given}
use Rattle.facts.specs.declared.given.Given.TheVariants as given
use Rattle.fact_tables.specs.declared.known.Known.{Known}
use Rattle.fact_tables.specs.declared.known.Known.TheVariants.{Nothing, Number, Cell, Null, Address, GlobalAddress}
use Rattle.fact_tables.specs.Rows.{known_at, slot_at, class_at, is_of, holds_class, slot_nonnull}
use Rattle.fact_tables.specs.Covers.{implied, covers_value, covers_slot}
use Rattle.fact_tables.specs.Ties.{moved}
use Rattle.facts.specs.Facts.{FactSet, nothing_known, set_known, define, define_new, set_class, set_slot}

-- ---- what a block begins with

-- a reference is listed as stale
abbrev pub is_stale : Age → Bool
is_stale age.Stale = true
is_stale _ = false

-- a reference is listed as fresh
abbrev pub is_fresh : Age → Bool
is_fresh age.Fresh = true
is_fresh _ = false

-- a value is listed with this fact: a reference is of the class that it has for itself
abbrev pub list_value : ℕ → Fact → FactSet → FactSet
list_value v (fact.Number bits below) f = set_known v (Number bits below) f
list_value v (fact.Reference layout nonnull age same) f = set_class v (record { nonnull = nonnull; fresh = is_fresh age }) (set_known v (Cell v layout (is_stale age)) f)
list_value v (fact.Address base words) f = set_known v (Address base words) f
list_value v (fact.GlobalAddress g) f = set_known v (GlobalAddress g) f

-- a slot is listed, if the name is one of a slot
abbrev pub list_slot : (slot : Option ℕ) → (nonnull : Bool) → FactSet → FactSet
list_slot None nonnull f = f
list_slot (Some s) nonnull f = set_slot s (record { rooted = false; nonnull = nonnull; holds = None }) f

-- what a claim lists, without what it says of another value
abbrev pub list_claim : SlotTable → Claim → FactSet → FactSet
list_claim slots (claim.Value v fact) f = list_value v fact f
list_claim slots (claim.Slot slot nonnull holds) f = list_slot (slot_of slots slot) nonnull f

-- what the claims list, without what they say of other values
abbrev pub list_claims : SlotTable → List Claim → FactSet → FactSet
list_claims slots [] f = f
list_claims slots (claim ∷ claims) f = list_claims slots claims (list_claim slots claim f)

-- a reference of one class is of another now
abbrev pub move : (from to : ℕ) → Known → Known
move from to (Cell c layout stale) = Cell (moved from to c) layout stale
move from to known = known

-- two classes are one, of which is known what was of either
abbrev pub join : (from to : ℕ) → FactSet → FactSet
join from to f =
    let a = class_at f.classes from in
    let b = class_at f.classes to in
    set_class to (record { nonnull = a.nonnull || b.nonnull; fresh = a.fresh || b.fresh }) (record f { values = map (move from to) f.values })

-- a class and that of a value are one, if it is a reference
abbrev pub join_known : ℕ → Known → FactSet → FactSet
join_known from (Cell to layout stale) f = join from to f
join_known from _ f = f

-- two values are equal, if they are references
abbrev pub join_values : Known → Known → FactSet → FactSet
join_values (Cell from layout stale) other f = join_known from other f
join_values _ other f = f

-- a value is listed as the same as another
abbrev pub tie_value : ℕ → (same : Option ℕ) → FactSet → FactSet
tie_value v None f = f
tie_value v (Some w) f = join_values (known_at f.values v) (known_at f.values w) f

-- by what is listed of it
abbrev pub tie_fact : ℕ → Fact → FactSet → FactSet
tie_fact v (fact.Number bits below) f = f
tie_fact v (fact.Reference layout nonnull age same) f = tie_value v same f
tie_fact v (fact.Address base words) f = f
tie_fact v (fact.GlobalAddress g) f = f

-- what a claim says of equal values
abbrev pub tie_claim : Claim → FactSet → FactSet
tie_claim (claim.Value v fact) f = tie_fact v fact f
tie_claim (claim.Slot slot nonnull holds) f = f

-- what the claims say of equal values
abbrev pub tie_claims : List Claim → FactSet → FactSet
tie_claims [] f = f
tie_claims (claim ∷ claims) f = tie_claims claims (tie_claim claim f)

-- a slot holds the class of a value, if that is a reference
abbrev pub hold_known : (s : ℕ) → Known → FactSet → FactSet
hold_known s (Cell c layout stale) f = set_slot s (record (slot_at f.slots s) { holds = Some c }) f
hold_known s _ f = f

-- a slot is listed as holding a value
abbrev pub hold_value : (slot holds : Option ℕ) → FactSet → FactSet
hold_value (Some s) (Some x) f = hold_known s (known_at f.values x) f
hold_value _ _ f = f

-- what a claim says a slot holds
abbrev pub hold_claim : SlotTable → Claim → FactSet → FactSet
hold_claim slots (claim.Value v fact) f = f
hold_claim slots (claim.Slot slot nonnull holds) f = hold_value (slot_of slots slot) holds f

-- what the claims say slots hold
abbrev pub hold_claims : SlotTable → List Claim → FactSet → FactSet
hold_claims slots [] f = f
hold_claims slots (claim ∷ claims) f = hold_claims slots claims (hold_claim slots claim f)

-- what a block with these claims begins with: each is listed, then what is the same is joined, then the slots hold
abbrev pub facts_of_claims : SlotTable → (values slots : ℕ) → List Claim → FactSet
facts_of_claims table values slots claims = hold_claims table claims (tie_claims claims (list_claims table claims (nothing_known values slots)))

-- ---- what a function begins with

-- what is promised of an integer
abbrev pub promised_below : Option Promise → Option ℕ
promised_below None = None
promised_below (Some promise) = promise.below

-- what is promised of a reference
abbrev pub promised_nonnull : Option Promise → Bool
promised_nonnull None = false
promised_nonnull (Some promise) = promise.nonnull

-- a pointer is promised to be an address outside, a number of 64 bits
abbrev pub promised_number : Option Promise → Bool
promised_number None = false
promised_number (Some promise) = promise.number

-- the layout that a promise says
abbrev pub promised_layout : Option Promise → Option ℕ
promised_layout None = None
promised_layout (Some promise) = promise.layout

-- a parameter is a reference to a layout, if one is given
abbrev pub receive_reference : ℕ → (layout : Option ℕ) → (nonnull : Bool) → FactSet → FactSet
receive_reference v None nonnull f = define v Nothing f
receive_reference v (Some layout) nonnull f = define_new v layout (record { nonnull = nonnull; fresh = false }) f

-- a parameter, or the result of a call, of a type that gives this, with what is promised of it besides
abbrev pub receive_given : ℕ → Given → Option Promise → FactSet → FactSet
receive_given v given.Nothing promise f = define v Nothing f
receive_given v (given.Number bits) promise f = define v (Number bits (promised_below promise)) f
receive_given v (given.Reference layout) promise f = receive_reference v (Some layout) (promised_nonnull promise) f
receive_given v given.AnyReference promise f = receive_reference v (promised_layout promise) (promised_nonnull promise) f

-- the same; a number is promised of an address outside
abbrev pub receive : ℕ → Given → Option Promise → FactSet → FactSet
receive v given promise f = if promised_number promise then define v (Number 64 None) f else receive_given v given promise f

-- the parameters in order, each with what its type gives and what is promised
abbrev pub receive_all : List (ℕ × Given × Option Promise) → FactSet → FactSet
receive_all [] f = f
receive_all ((v, given, promise) ∷ parameters) f = receive_all parameters (receive v given promise f)

-- what the entry block begins with: what is known of the parameters
abbrev pub facts_of_parameters : (values slots : ℕ) → List (ℕ × Given × Option Promise) → FactSet
facts_of_parameters values slots parameters = receive_all parameters (nothing_known values slots)

-- ---- what is implied

-- a number is below what is asked
abbrev pub is_below : (below asked : Option ℕ) → Bool
is_below below None = true
is_below None (Some n) = false
is_below (Some m) (Some n) = nat_le m n

-- all that is listed there and is of the class here, and each slot that holds it, is listed there as of one class
abbrev pub covers : FactSet → FactSet → (c d : ℕ) → Bool
covers here there c d = list_all (covers_value c d) (zip here.values there.values) && list_all (covers_slot c d there.slots) (enumerate_from 0 here.slots)

-- and this is the class of a value there
abbrev pub covers_known : FactSet → FactSet → (c : ℕ) → Known → Bool
covers_known here there c (Cell d layout stale) = covers here there c d
covers_known here there c _ = false

-- a class is fresh, and the target may list this value so
abbrev pub is_fresh_in : FactSet → FactSet → (c v : ℕ) → Bool
is_fresh_in here there c v = (class_at here.classes c).fresh && covers_known here there c (known_at there.values v)

-- a value is of the class of another, if one is asked for
abbrev pub is_same : List Known → (c : ℕ) → (same : Option ℕ) → Bool
is_same values c None = true
is_same values c (Some w) = is_of c (known_at values w)

-- no other value than v is asked for
abbrev pub is_alone : (v : ℕ) → (same : Option ℕ) → Bool
is_alone v None = true
is_alone v (Some w) = w == v

-- a value is known to be such a reference; `there` is what the target begins with. Null has no class, and is known to be the same as itself alone
abbrev pub implies_reference : FactSet → FactSet → (v layout : ℕ) → (nonnull : Bool) → Age → (same : Option ℕ) → Known → Bool
implies_reference here there v layout nonnull age same (Cell c known stale) =
    (known == layout)
    && implied nonnull (class_at here.classes c).nonnull
    && implied (not (is_stale age)) (not stale)
    && implied (is_fresh age) (is_fresh_in here there c v)
    && is_same here.values c same
implies_reference here there v layout nonnull age same Null = not nonnull && not (is_fresh age) && is_alone v same
implies_reference here there v layout nonnull age same _ = false

-- a value is known to be such an integer
abbrev pub implies_number : (bits : ℕ) → (below : Option ℕ) → Known → Bool
implies_number bits below (Number n known) = (n == bits) && is_below known below
implies_number bits below _ = false

-- a value is known to be such an address
abbrev pub implies_address : (base : ℕ) → (words : List Bool) → Known → Bool
implies_address base words (Address x known) = (x == base) && has_all words known
implies_address base words _ = false

-- a value is known to be the address of a global
abbrev pub implies_global : (g : ℕ) → Known → Bool
implies_global g (GlobalAddress h) = h == g
implies_global g _ = false

-- what a claim asks of a value is known
abbrev pub implies_fact : FactSet → FactSet → ℕ → Fact → Bool
implies_fact here there v (fact.Number bits below) = implies_number bits below (known_at here.values v)
implies_fact here there v (fact.Reference layout nonnull age same) = implies_reference here there v layout nonnull age same (known_at here.values v)
implies_fact here there v (fact.Address base words) = implies_address base words (known_at here.values v)
implies_fact here there v (fact.GlobalAddress g) = implies_global g (known_at here.values v)

-- a slot holds the class of a value that is known to be this
abbrev pub holds_known : (holds : Option ℕ) → Known → Bool
holds_known holds (Cell c layout stale) = holds_class c holds
holds_known holds _ = false

-- a slot holds a value, if one is asked for
abbrev pub holds_value : List Known → (holds : Option ℕ) → (asked : Option ℕ) → Bool
holds_value values holds None = true
holds_value values holds (Some x) = holds_known holds (known_at values x)

-- what a claim asks of a slot is known
abbrev pub implies_slot : FactSet → (slot : Option ℕ) → (nonnull : Bool) → (holds : Option ℕ) → Bool
implies_slot here None nonnull holds = false
implies_slot here (Some s) nonnull holds = let slot = slot_at here.slots s in implied nonnull (slot_nonnull here.classes slot) && holds_value here.values slot.holds holds

-- a claim of a target is implied by what is known here; `there` is what the target begins with
abbrev pub implies_claim : SlotTable → FactSet → (there : FactSet) → Claim → Bool
implies_claim table here there (claim.Value v fact) = implies_fact here there v fact
implies_claim table here there (claim.Slot slot nonnull holds) = implies_slot here (slot_of table slot) nonnull holds
