-- The slots of a function, of which few are filled, and of which few hold a class.
use Rattle.std.specs.Prelude.{◌≡◌, ◌<◌, ◌⊎◌, ℕ, Bool, true, false, not, ◌&&◌, List, [], ◌∷◌, ◌++◌, map, slice_set, Option, Some, None, if◌then◌else◌}
use Rattle.lemmas.specs.Lists.{IsIn}
use Rattle.fact_tables.specs.declared.chains.Chains.{Chains}
use Rattle.fact_tables.specs.declared.known.SlotFact.{SlotFact}
use Rattle.fact_tables.specs.Chains.{listed}
use Rattle.fact_tables.specs.EachListed.{OnlyListed, each_listed}
use Rattle.fact_tables.specs.Rows.{open_slot, slot_at, holds, let_go}
use Rattle.fact_tables.specs.Covers.{covers_slot}

-- a slot holds no class
abbrev pub is_free : (holds : Option ℕ) → Bool
is_free None = true
is_free (Some c) = false

-- nothing is known of a slot
abbrev pub is_open : SlotFact → Bool
is_open slot = not slot.rooted && not slot.nonnull && is_free slot.holds

-- each slot that is not listed is open
abbrev pub OnlyFilled : (filled : List ℕ) → List SlotFact → Type 0
OnlyFilled filled slots = OnlyListed open_slot filled slots

-- each slot that is not listed holds no class
abbrev pub OnlyHolding : (holding : List ℕ) → List SlotFact → Type 0
OnlyHolding holding slots = (s : ℕ) → IsIn s holding ⊎ ((slot_at slots s).holds ≡ None)

-- each slot that holds a class is listed as one of its keepers
abbrev pub OnlyKeepers : (keepers : Chains) → List SlotFact → Type 0
OnlyKeepers keepers slots = (s c : ℕ) → holds c (slot_at slots s) ≡ true → IsIn s (listed keepers c)

-- the slots that are not open, those that hold a class, and those that hold each class are recorded
abbrev pub AreRecorded : (filled holding : List ℕ) → (keepers : Chains) → List SlotFact → Type 0
AreRecorded filled holding keepers slots = OnlyFilled filled slots × OnlyHolding holding slots × OnlyKeepers keepers slots

-- each number below `count` that is listed is among the names
abbrev pub NamesAll : (count : ℕ) → (listed names : List ℕ) → Type 0
NamesAll count listed names = (s : ℕ) → s < count → IsIn s listed → IsIn s names

-- the filled slots once one more is, of which this was known
abbrev pub with_filled : (s : ℕ) → SlotFact → (filled : List ℕ) → List ℕ
with_filled s before filled = if is_open before then filled ++ s ∷ [] else filled

-- the slots that may hold a class once one holds this
abbrev pub with_holding : (s : ℕ) → (holds : Option ℕ) → (holding : List ℕ) → List ℕ
with_holding s None holding = holding
with_holding s (Some c) holding = holding ++ s ∷ []

-- a slot of whose reference nothing is known
abbrev pub empty_slot : SlotFact → SlotFact
empty_slot slot = record slot { nonnull = false; holds = None }

-- a slot that holds a class which has no value any more, if there is such a class
abbrev pub let_go_slot : (last : Option ℕ) → (nonnull : Bool) → SlotFact → SlotFact
let_go_slot None nonnull slot = slot
let_go_slot (Some c) nonnull slot = let_go c nonnull slot

-- the slots, once such a class is let go
abbrev pub let_go_last : (last : Option ℕ) → (nonnull : Bool) → List SlotFact → List SlotFact
let_go_last None nonnull slots = slots
let_go_last (Some c) nonnull slots = map (let_go c nonnull) slots

-- the slots, once the keepers of such a class let it go
abbrev pub each_let_go : (last : Option ℕ) → (nonnull : Bool) → (keepers : Chains) → List SlotFact → List SlotFact
each_let_go None nonnull keepers slots = slots
each_let_go (Some c) nonnull keepers slots = each_listed open_slot (λ s. let_go c nonnull) (listed keepers c) slots

-- the slots but one, once such a class is let go
abbrev pub let_go_others : (s : ℕ) → (last : Option ℕ) → (nonnull : Bool) → List SlotFact → List SlotFact
let_go_others s last nonnull slots = slice_set (let_go_last last nonnull slots) s (slot_at slots s)

-- the slot s, if it holds the class here, holds the other there
abbrev pub covers_at : (c d : ℕ) → (here there : List SlotFact) → (s : ℕ) → Bool
covers_at c d here there s = covers_slot c d there (s, slot_at here s)
