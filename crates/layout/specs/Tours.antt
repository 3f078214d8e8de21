-- A tour through the types of a module, for the first struct in a ring: a type that holds itself. A type stays open until all of its parts were met and
-- left. The types that hold a type and that it holds are its group, which is left as a whole.
use Rattle.std.specs.Prelude.{◌≡◌, ◌*◌, ◌+◌, ◌<◌, ◌≤◌, ℕ, suc, Bool, true, false, if◌then◌else◌, ◌==◌, min, List, [], ◌∷◌, ◌++◌, length, replicate, take, Option, Some, None, slice_get, slice_set}
use Rattle.ir_ast.specs.declared.module.Module.{Module}
use Rattle.ir_ast.specs.declared.ir_type.IrType.{IrType}
use Rattle.ir_ast.specs.declared.ir_type.IrType.TheVariants.{Array, Struct, Named}
use Rattle.layout.specs.declared.ring.Tour.{Tour}
use Rattle.layout.specs.declared.ring.Parts.{Parts}
use Rattle.layout.specs.Layouts.{IsPart, Holds, StructHoldsItself}
use Rattle.types.specs.Elements.{body_named}
use Rattle.types.specs.References.{layout_of_struct}

-- ---- what a tour knows

-- The place of each type that was met, the types whose groups are not left, the places of the open types, the places where groups begin as far as is
-- known, and the first struct in a ring
pub record State : Type 0 where
  pub places : List (Option ℕ)
  pub met : List ℕ
  pub path : List ℕ
  pub bounds : List ℕ
  pub first : Option ℕ

-- what a tour knows, as lists
abbrev pub seen : Tour → State
seen tour = record { places = tour.places; met = tour.met.items; path = tour.path.items; bounds = tour.bounds.items; first = tour.first }

-- nothing was met so far
abbrev pub at_start : (count : ℕ) → State
at_start count = record { places = replicate count None; met = []; path = []; bounds = []; first = None }

-- one place more on the path
abbrev pub with_top : (place : ℕ) → State → State
with_top place s = record s { path = s.path ++ place ∷ [] }

-- what is known after a type was met
abbrev pub opened : (written : ℕ) → State → State
opened written s = record {
  places = slice_set s.places written (Some (length s.met));
  met = s.met ++ written ∷ [];
  path = s.path ++ length s.met ∷ [];
  bounds = s.bounds ++ length s.met ∷ [];
  first = s.first;
}

-- the lesser of two numbers, as far as they are there
abbrev pub least : (one other : Option ℕ) → Option ℕ
least (Some one) (Some other) = Some (min one other)
least (Some one) None = Some one
least None other = other

-- what is known after a struct was found in a ring, if it is one
abbrev pub recorded : (struct : Option ℕ) → State → State
recorded struct s = record s { first = least s.first struct }

-- what is known after the bounds from a number on were dropped
abbrev pub cut : (count : ℕ) → State → State
cut count s = record s { bounds = take count s.bounds }

-- what is known after a group was left: its types, which are those from a place on, and its bound
abbrev pub left : (place count : ℕ) → State → State
left place count s = record s { met = take place s.met; bounds = take count s.bounds }

-- ---- the parts of a type

-- the parts of a type, by what it is
abbrev pub parts_of : Module → Option IrType → Parts
parts_of m (Some (Array length part)) = record { first = Some part; other = None }
parts_of m (Some (Struct first rest)) = record { first = Some first; other = Some rest }
parts_of m (Some (Named name)) = record { first = body_named m name; other = None }
parts_of m _ = record { first = None; other = None }

-- no place was given
abbrev pub is_placeless : Option (Option ℕ) → Bool
is_placeless (Some None) = true
is_placeless _ = false

-- a type of the table was not met so far
abbrev pub is_new : List (Option ℕ) → (written : ℕ) → Bool
is_new places written = is_placeless (slice_get places written)

-- a type, if it was not met so far
abbrev pub if_new : List (Option ℕ) → Option ℕ → Option ℕ
if_new places None = None
if_new places (Some written) = if is_new places written then Some written else None

-- the first of two that is there
abbrev pub either : (one other : Option ℕ) → Option ℕ
either (Some one) other = Some one
either None other = other

-- a part that was not met so far
abbrev pub new_among : List (Option ℕ) → Parts → Option ℕ
new_among places parts = either (if_new places parts.first) (if_new places parts.other)

-- this is the type
abbrev pub is_type : (written : ℕ) → Option ℕ → Bool
is_type written None = false
is_type written (Some there) = there == written

-- a place, if a type is there
abbrev pub place_with : List ℕ → (written : ℕ) → Option (Option ℕ) → Option ℕ
place_with met written (Some (Some place)) = if is_type written (slice_get met place) then Some place else None
place_with met written _ = None

-- the place of a type, if its group is not left
abbrev pub place_of : List (Option ℕ) → (met : List ℕ) → Option ℕ → Option ℕ
place_of places met None = None
place_of places met (Some written) = place_with met written (slice_get places written)

-- the lowest place of a part whose group is not left
abbrev pub lowest : List (Option ℕ) → (met : List ℕ) → Parts → Option ℕ
lowest places met parts = least (place_of places met parts.first) (place_of places met parts.other)

-- ---- what holds on the way

-- a number is in a list
abbrev pub Has : List ℕ → (number : ℕ) → Type 0
Has list number = (i : ℕ) × (slice_get list i ≡ Some number)

-- each number is greater than those before it
abbrev pub AreIncreasing : List ℕ → Type 0
AreIncreasing list = (k l one other : ℕ) → k < l → slice_get list k ≡ Some one → slice_get list l ≡ Some other → one < other

-- the numbers of a list before a limit are its first `count`
pub record IsCount (list : List ℕ) (limit count : ℕ) : Type 0 where
  pub before : (k number : ℕ) → k < count → slice_get list k ≡ Some number → number < limit
  pub others : (k number : ℕ) → count ≤ k → slice_get list k ≡ Some number → limit ≤ number

-- a type has a part that holds it
pub record IsInRing (m : Module) (written : ℕ) : Type 0 where
  pub part : ℕ
  pub is_part : IsPart m written part
  pub back : Holds m part written

-- a type is open
pub record IsOpen (met path : List ℕ) (written : ℕ) : Type 0 where
  pub place : ℕ
  pub on_path : Has path place
  pub there : slice_get met place ≡ Some written

-- a type was met, and its group is left
pub record IsLeft (places : List (Option ℕ)) (met : List ℕ) (written : ℕ) : Type 0 where
  pub known : is_new places written ≡ false
  pub gone : Has met written → ⊥

-- a type holds one that is at a bound, no later than this place
pub record HoldsBound (m : Module) (met bounds : List ℕ) (place written : ℕ) : Type 0 where
  pub bound : ℕ
  pub at : ℕ
  pub is_bound : Has bounds bound
  pub no_later : bound ≤ place
  pub there : slice_get met bound ≡ Some at
  pub held : Holds m written at

-- a type was met, and where its group is not left it is not before a bound up to this place
pub record IsWithin (places : List (Option ℕ)) (met bounds : List ℕ) (place part : ℕ) : Type 0 where
  pub known : is_new places part ≡ false
  pub above : (at bound : ℕ) → slice_get met at ≡ Some part → Has bounds bound → bound ≤ place → bound ≤ at

-- a number is there, and no greater than this one
pub record IsUpTo (first : Option ℕ) (number : ℕ) : Type 0 where
  pub least : ℕ
  pub is : first ≡ Some least
  pub up_to : least ≤ number

-- What is known on the way is so. An open type holds those after it on the path. Each type whose group is not left holds one at a bound, and none that is
-- not open has a part before its bound. So each group is left as a whole: a type whose group is left has no part whose group is not.
pub record IsTour (m : Module) (s : State) : Type 0 where
  pub one_each : length s.places ≡ length m.types
  pub places_are : (place written : ℕ) → slice_get s.met place ≡ Some written → slice_get s.places written ≡ Some (Some place)
  pub path_met : (place : ℕ) → Has s.path place → (written : ℕ) × (slice_get s.met place ≡ Some written)
  pub path_increasing : AreIncreasing s.path
  pub path_holds : (k l lower upper one other : ℕ) → k < l → slice_get s.path k ≡ Some lower → slice_get s.path l ≡ Some upper
      → slice_get s.met lower ≡ Some one → slice_get s.met upper ≡ Some other → Holds m one other
  pub bounds_open : (bound : ℕ) → Has s.bounds bound → Has s.path bound
  pub bounds_increasing : AreIncreasing s.bounds
  pub holds_bound : (place written : ℕ) → slice_get s.met place ≡ Some written → HoldsBound m s.met s.bounds place written
  pub within : (place written part : ℕ) → slice_get s.met place ≡ Some written → (Has s.path place → ⊥) → IsPart m written part → IsWithin s.places s.met s.bounds place part
  pub closed : (written part : ℕ) → IsLeft s.places s.met written → IsPart m written part → IsLeft s.places s.met part
  pub first_is : (struct : ℕ) → s.first ≡ Some struct → StructHoldsItself m struct
  pub no_less : (written struct : ℕ) → is_new s.places written ≡ false → (IsOpen s.met s.path written → ⊥) → IsInRing m written
      → layout_of_struct m (slice_get m.types written) ≡ Some struct → IsUpTo s.first struct

-- What is known after looking back at the parts of a type. Where the group of one is not left, the bounds up to the lowest place of such a part are kept,
-- and the type is recorded if it is a struct.
pub data LooksBack (m : Module) (type : Option IrType) (s later : State) : Type 0 where
  Nothing : lowest s.places s.met (parts_of m type) ≡ None → later ≡ s → LooksBack m type s later
  Ring : (place count : ℕ) → lowest s.places s.met (parts_of m type) ≡ Some place → IsCount s.bounds (place + 1) count
      → later ≡ recorded (layout_of_struct m type) (cut count s) → LooksBack m type s later

-- how many types were not met
abbrev pub new_count : List (Option ℕ) → ℕ
new_count [] = 0
new_count (None ∷ places) = suc (new_count places)
new_count (Some place ∷ places) = new_count places

-- how many steps are left at most
abbrev pub steps_left : State → ℕ
steps_left s = 2 * new_count s.places + length s.path

-- a step preserves what is known, and fewer are left
pub record IsAdvance (m : Module) (s later : State) : Type 0 where
  pub tour : IsTour m later
  pub fewer : steps_left later < steps_left s
  pub kept : (written : ℕ) → is_new s.places written ≡ false → is_new later.places written ≡ false

-- a type was met, and none is open
pub record IsSettling (m : Module) (written : ℕ) (s later : State) : Type 0 where
  pub tour : IsTour m later
  pub none_open : later.path ≡ []
  pub met : is_new later.places written ≡ false
  pub kept : (other : ℕ) → is_new s.places other ≡ false → is_new later.places other ≡ false
