-- The layouts of a module, or the first fault in them.
use Rattle.std.specs.Prelude.{◌≡◌, ◌<◌, ◌≤◌, ◌⊎◌, ◌&&◌, ℕ, Bool, true, false, List, [], ◌∷◌, length, Option, Some, None, is_none, is_some, slice_get}
use Rattle.std.specs.List.{list_any}
use Rattle.ir_ast.specs.declared.module.Module.{Module}
use Rattle.ir_ast.specs.declared.items_of_module.StructType.{StructType}
use Rattle.ir_ast.specs.declared.ir_type.IrType.{IrType}
use Rattle.ir_ast.specs.declared.ir_type.IrType.TheVariants.{Opaque, Array, Struct, Named}
use Rattle.ir_ast.specs.Types.{place_of_type}
use Rattle.pools.specs.declared.word_kind.WordKind.{WordKind}
use Rattle.layout.specs.declared.fault.LayoutFault.{LayoutFault}
use Rattle.layout.specs.declared.fault.LayoutFault.TheVariants.{ShapesWanted, HoldsItself, TooManyWords, NoSuchLayout, Memory}
use Rattle.layout.specs.Words.{Scalars, shapes_of, AreWords, some_nowhere}
use Rattle.types.specs.Elements.{body_of_layout, body_named}
use Rattle.types.specs.References.{layout_of_struct}

-- a type has another one in it, by value: as the elements of an array, as the first field or the struct of the others, as the body of a name
abbrev pub IsPartOf : Module → Option IrType → (part : ℕ) → Type 0
IsPartOf m (Some (Array length elements)) part = elements ≡ part
IsPartOf m (Some (Struct first rest)) part = (first ≡ part) ⊎ (rest ≡ part)
IsPartOf m (Some (Named name)) part = body_named m name ≡ Some part
IsPartOf m _ part = ⊥

-- a type has another one in it, by value
abbrev pub IsPart : Module → (whole part : ℕ) → Type 0
IsPart m whole part = IsPartOf m (slice_get m.types whole) part

-- a type is another one, or holds it: it has it in a part, however deep
pub data Holds (m : Module) : (whole part : ℕ) → Type 0 where
  Itself : (written : ℕ) → Holds m written written
  Deeper : (whole part inner : ℕ) → IsPart m whole part → Holds m part inner → Holds m whole inner

-- the layout of a struct: its words, at most 64
pub record IsLayout (m : Module) (struct : StructType) (words : List WordKind) : Type 0 where
  pub fields : List ℕ
  pub scalars : Scalars m struct.body fields
  pub few : length fields ≤ 64
  pub words_are : AreWords m (shapes_of m struct) 0 fields words

-- each struct has its words
abbrev pub AreLayoutsOf : Module → List StructType → List (List WordKind) → Type 0
AreLayoutsOf m [] [] = Unit {0}
AreLayoutsOf m (struct ∷ structs) (words ∷ layouts) = IsLayout m struct words × AreLayoutsOf m structs layouts
AreLayoutsOf m structs layouts = ⊥

-- shapes are wanted: a type is `ptr`, and there are none
abbrev pub wants_shapes : Module → Bool
wants_shapes m = is_none m.shapes && is_some (place_of_type Opaque m.types)

-- the layouts of the module, which has shapes where a type is `ptr`
abbrev pub AreLayouts : Module → List (List WordKind) → Type 0
AreLayouts m layouts = AreLayoutsOf m m.structs layouts × (wants_shapes m ≡ false)

-- the first number of which this holds
pub record IsFirst (P : ℕ → Type 0) (number : ℕ) : Type 0 where
  pub holds : P number
  pub none_before : (other : ℕ) → other < number → P other → ⊥

-- a struct has no list of scalar fields
pub record HasNoEnd (m : Module) (struct : ℕ) : Type 0 where
  pub body : ℕ
  pub body_is : body_of_layout m (Some struct) ≡ Some body
  pub no_end : (fields : List ℕ) → Scalars m body fields → ⊥

-- a type is a name of this struct, or holds one
pub record HoldsStruct (m : Module) (whole struct : ℕ) : Type 0 where
  pub name : ℕ
  pub held : Holds m whole name
  pub names : layout_of_struct m (slice_get m.types name) ≡ Some struct

-- a struct holds itself
pub record StructHoldsItself (m : Module) (struct : ℕ) : Type 0 where
  pub body : ℕ
  pub body_is : body_of_layout m (Some struct) ≡ Some body
  pub again : HoldsStruct m body struct

-- The struct to name where one has no end: the first that holds itself. Where none does, a type that is written out holds itself, and the first
-- struct that has no end is named.
abbrev pub IsFirstRing : Module → (struct : ℕ) → Type 0
IsFirstRing m struct = IsFirst (StructHoldsItself m) struct ⊎ (((other : ℕ) → StructHoldsItself m other → ⊥) × IsFirst (HasNoEnd m) struct)

-- a struct has more than 64 scalar fields
pub record HasTooManyWords (m : Module) (struct : ℕ) : Type 0 where
  pub body : ℕ
  pub fields : List ℕ
  pub body_is : body_of_layout m (Some struct) ≡ Some body
  pub scalars : Scalars m body fields
  pub many : 64 < length fields

-- a scalar field of a struct is no word, since it points to no named struct, or has no shape
pub record PointsNowhere (m : Module) (struct : ℕ) : Type 0 where
  pub of_struct : StructType
  pub fields : List ℕ
  pub struct_is : slice_get m.structs struct ≡ Some of_struct
  pub scalars : Scalars m of_struct.body fields
  pub nowhere : some_nowhere m (shapes_of m of_struct) 0 fields ≡ true

-- The first fault in its layouts. That shapes are wanted goes before all. A struct that holds itself goes before one of too many words, and that before one with a word that points
-- nowhere. Each is found at the first struct that has it.
abbrev pub IsLayoutFault : Module → LayoutFault → Type 0
IsLayoutFault m ShapesWanted = wants_shapes m ≡ true
IsLayoutFault m (HoldsItself struct) = (wants_shapes m ≡ false) × IsFirstRing m struct
IsLayoutFault m (TooManyWords struct) = (wants_shapes m ≡ false) × ((other : ℕ) → HasNoEnd m other → ⊥) × IsFirst (HasTooManyWords m) struct
IsLayoutFault m (NoSuchLayout struct) =
    (wants_shapes m ≡ false) × ((other : ℕ) → HasNoEnd m other → ⊥) × ((other : ℕ) → HasTooManyWords m other → ⊥) × IsFirst (PointsNowhere m) struct
IsLayoutFault m Memory = ⊥

-- how many words a type of the table has: none where it holds itself or has more than 64
pub record IsSize (m : Module) (written : ℕ) (size : Option ℕ) : Type 0 where
  pub has : (n : ℕ) → size ≡ Some n → (fields : List ℕ) × (Scalars m written fields × (length fields ≡ n) × (n ≤ 64))
  pub has_none : size ≡ None → (fields : List ℕ) → Scalars m written fields → 64 < length fields

-- these are the sizes of all types of the table, by their numbers
pub record AreSizes (m : Module) (sizes : List (Option ℕ)) : Type 0 where
  pub one_each : length sizes ≡ length m.types
  pub each : (written : ℕ) (size : Option ℕ) → slice_get sizes written ≡ Some size → IsSize m written size

-- a module with its layouts, and how many words each type of its table has
pub record LaidOut : Type 0 where
  pub of_module : Module
  pub layouts : List (List WordKind)
  pub sizes : List (Option ℕ)
