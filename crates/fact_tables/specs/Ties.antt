-- Values that are listed as the same, one after the other, in groups that have one class each.
use Rattle.std.specs.Prelude.{◌≡◌, ◌<◌, ◌⊎◌, ℕ, ◌==◌, Bool, false, List, length, nat_eq, slice_index_or, Option, Some, None, if◌then◌else◌}
use Rattle.lemmas.specs.Lists.{IsIn}
use Rattle.indexmap.specs.IndexMap.{get}
use Rattle.fact_tables.specs.declared.known.Known.{Known}
use Rattle.fact_tables.specs.declared.known.Known.TheVariants.{Cell}
use Rattle.fact_tables.specs.declared.ties.Group.{Group}
use Rattle.fact_tables.specs.declared.ties.Ties.{Ties}
use Rattle.fact_tables.specs.Chains.{listed}

-- one class is another now
abbrev pub moved : (from to c : ℕ) → ℕ
moved from to c = if c == from then to else c

-- ---- groups

-- no group
abbrev pub no_group : Group
no_group = record { class = 0; size = 0 }

-- the group at a place
abbrev pub group_at : List Group → (place : ℕ) → Group
group_at groups place = slice_index_or groups place no_group

-- its class
abbrev pub class_in : List Group → (place : ℕ) → ℕ
class_in groups place = (group_at groups place).class

-- the place of the group of a value, if it was tied
abbrev pub group_of : Ties → (v : ℕ) → Option ℕ
group_of ties v = get nat_eq ties.places v

-- the class of a value in the group at a place; one that was not tied has its own
abbrev pub class_of_place : List Group → (v : ℕ) → (place : Option ℕ) → ℕ
class_of_place groups v None = v
class_of_place groups v (Some place) = class_in groups place

-- what the class that a value had for itself is now
abbrev pub class_now : Ties → (v : ℕ) → ℕ
class_now ties v = class_of_place ties.groups.items v (group_of ties v)

-- what is known now of a value of which this was known
abbrev pub known_now : Ties → Known → Known
known_now ties (Cell c layout stale) = Cell (class_now ties c) layout stale
known_now ties known = known

-- the place of a group once one group is another
abbrev pub in_group : (from to : ℕ) → (place : Option ℕ) → Option ℕ
in_group from to None = None
in_group from to (Some place) = Some (moved from to place)

-- this is the place
abbrev pub is_place : ℕ → (place : Option ℕ) → Bool
is_place at None = false
is_place at (Some place) = place == at

-- each value is listed in its group
abbrev pub AreListed : (places : ℕ → Option ℕ) → (members : ℕ → List ℕ) → Type 0
AreListed places members = (v place : ℕ) → places v ≡ Some place → IsIn v (members place)

-- each group has the class that one of its values had
abbrev pub AreClasses : (places : ℕ → Option ℕ) → List Group → Type 0
AreClasses places groups = (v place : ℕ) → places v ≡ Some place → (place < length groups) × (places (class_in groups place) ≡ Some place)

-- each value that has a group was tied
abbrev pub AreTied : (places : ℕ → Option ℕ) → (tied : List ℕ) → Type 0
AreTied places tied = (v : ℕ) → IsIn v tied ⊎ (places v ≡ None)

-- groups of values that were tied
abbrev pub AreTies : Ties → Type 0
AreTies ties = AreListed (group_of ties) (listed ties.members) × AreClasses (group_of ties) ties.groups.items × AreTied (group_of ties) ties.tied.items
