-- What is known of a value, of a slot and of a class, and how it changes.
use Rattle.std.specs.Prelude.{ℕ, ◌==◌, Bool, true, false, ◌||◌, if◌then◌else◌, List, map, slice_index_or, slice_set, Option, Some, None}
use Rattle.fact_tables.specs.declared.known.Class.{Class}
use Rattle.fact_tables.specs.declared.known.Known.{Known}
use Rattle.fact_tables.specs.declared.known.Known.TheVariants.{Nothing, Cell, Address}
use Rattle.fact_tables.specs.declared.known.SlotFact.{SlotFact}
use Rattle.fact_tables.specs.declared.known.Test.{Test}

-- what is known of a value
abbrev pub known_at : List Known → ℕ → Known
known_at values v = slice_index_or values v Nothing

-- a slot of which nothing is known
abbrev pub open_slot : SlotFact
open_slot = record { rooted = false; nonnull = false; holds = None }

-- what is known of a slot
abbrev pub slot_at : List SlotFact → ℕ → SlotFact
slot_at slots s = slice_index_or slots s open_slot

-- a class of which nothing is known
abbrev pub lost_class : Class
lost_class = record { nonnull = false; fresh = false }

-- what is known of a class
abbrev pub class_at : List Class → ℕ → Class
class_at classes c = slice_index_or classes c lost_class

-- the comparison that gave a value
abbrev pub test_at : List (Option Test) → ℕ → Option Test
test_at tests v = slice_index_or tests v None

-- the value is a reference of this class
abbrev pub is_of : ℕ → Known → Bool
is_of c (Cell class layout stale) = class == c
is_of c _ = false

-- the slot holds this class
abbrev pub holds_class : ℕ → Option ℕ → Bool
holds_class c None = false
holds_class c (Some d) = d == c

-- a reference of the class that a slot holds is not null
abbrev pub held_nonnull : List Class → (holds : Option ℕ) → Bool
held_nonnull classes None = false
held_nonnull classes (Some c) = (class_at classes c).nonnull

-- what a slot holds is not null
abbrev pub slot_nonnull : List Class → SlotFact → Bool
slot_nonnull classes slot = slot.nonnull || held_nonnull classes slot.holds

-- this slot holds this class
abbrev pub holds : ℕ → SlotFact → Bool
holds c slot = holds_class c slot.holds

-- a slot that holds this class holds it no more; it stays nonnull where the class is
abbrev pub let_go : (c : ℕ) → (nonnull : Bool) → SlotFact → SlotFact
let_go c nonnull slot = if holds_class c slot.holds then record slot { nonnull = slot.nonnull || nonnull; holds = None } else slot

-- the value is an address of which v is the base
abbrev pub is_on : (v : ℕ) → Known → Bool
is_on v (Address base words) = base == v
is_on v _ = false

-- what is known of a value, if that is no address of which v is the base
abbrev pub off_base : (v : ℕ) → Known → Known
off_base v known = if is_on v known then Nothing else known

-- a comparison, but not one of v
abbrev pub off_test : (v : ℕ) → Option Test → Option Test
off_test v None = None
off_test v (Some test) = if test.tested == v then None else Some test

-- the values where each statement that names v ends
abbrev pub values_without : (v : ℕ) → List Known → List Known
values_without v values = slice_set (map (off_base v) values) v Nothing

-- the comparisons where each statement that names v ends
abbrev pub tests_without : (v : ℕ) → List (Option Test) → List (Option Test)
tests_without v tests = slice_set (map (off_test v) tests) v None

-- a stale reference, of the class that its value has for itself
abbrev pub stale_of : ℕ × Known → Known
stale_of (v, Cell c layout stale) = Cell v layout true
stale_of (v, known) = known

-- what is known of the class that a value has for itself, once its value is stale: it is as null as it was
abbrev pub stale_class : List Class → Class × Known → Class
stale_class classes (own, Cell c layout stale) = record { nonnull = (class_at classes c).nonnull; fresh = false }
stale_class classes (own, known) = own

-- a slot holds no class; it stays nonnull where the class is
abbrev pub end_hold : List Class → SlotFact → SlotFact
end_hold classes slot = record slot { nonnull = slot_nonnull classes slot; holds = None }
