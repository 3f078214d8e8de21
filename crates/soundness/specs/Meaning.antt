-- When what the rules know at a place holds of a thread that is there.
use Rattle.std.specs.Prelude.{Bool, slice_get, ◌≡◌, ◌≢◌, ◌<◌, ◌^◌, ℕ, true, false, List, length, Option, Some, None}
use Rattle.ir_ast.specs.declared.module.Module.{Module}
use Rattle.pools.specs.Heap.{Setup, IsOfLayout}
use Rattle.pools.specs.Layouts.{kind_of_word}
use Rattle.pools.specs.WordSets.{has_word}
use Rattle.layout.specs.Layouts.{LaidOut}
use Rattle.types.specs.Globals.{global_named}
use Rattle.types.specs.References.{referenced_layout}
use Rattle.shadow_stack.specs.Slots.{SlotTable, held_type, slot_layout, is_reference_held}
use Rattle.fact_tables.specs.declared.known.Class.{Class}
use Rattle.fact_tables.specs.declared.known.Known.{Known}
use Rattle.fact_tables.specs.declared.known.Known.TheVariants.{Nothing, Number, Cell, Null, Address, GlobalAddress}
use Rattle.fact_tables.specs.declared.known.SlotFact.{SlotFact}
use Rattle.fact_tables.specs.declared.known.Test.{Test}
use Rattle.fact_tables.specs.Rows.{known_at, slot_at, class_at, test_at, holds_class}
use Rattle.facts.specs.Facts.{FactSet}
use Rattle.machine.specs.declared.value.Pointee.TheVariants as place
use Rattle.machine.specs.declared.value.Value.{Value}
use Rattle.machine.specs.declared.value.Value.TheVariants as value
use Rattle.machine.specs.Kinds.{register_at, constant_value, bits_at, is_integer}
use Rattle.machine.specs.Machine.{slot_value, compared}
use Rattle.machine.specs.Log.{Log, Held, IsFresh}

-- the value that all members of a class have
abbrev pub Cells : Type 0
Cells = ℕ → Value

-- cells that frames below know to be fresh
abbrev pub Guarded : Type 1
Guarded = ℕ → Type 0

-- null, or a reference to a cell of this layout's pool
abbrev pub IsReferenceTo : Setup → (layout : ℕ) → Value → Type 0
IsReferenceTo heap layout value.Null = Unit {0}
IsReferenceTo heap layout (value.Cell own at) = (own ≡ layout) × IsOfLayout heap layout at.cell
IsReferenceTo heap layout _ = ⊥

-- null, or a held reference, to a cell that no frame below knows to be fresh
abbrev pub IsOwn : Log → Guarded → Value → Type 0
IsOwn log guarded value.Null = Unit {0}
IsOwn log guarded (value.Cell own at) = Held log at × (guarded at.cell → ⊥)
IsOwn log guarded _ = ⊥

-- null, or a fresh cell
abbrev pub IsNullOrFresh : Log → Value → Type 0
IsNullOrFresh log value.Null = Unit {0}
IsNullOrFresh log (value.Cell own at) = IsFresh log at.cell
IsNullOrFresh log _ = Unit {0}

-- two values do not refer to one cell
abbrev pub AreApart : Value → Value → Type 0
AreApart (value.Cell own at) (value.Cell other there) = at.cell ≢ there.cell
AreApart _ _ = Unit {0}

-- a number is below another, if one is named
abbrev pub IsBelow : ℕ → Option ℕ → Type 0
IsBelow n None = Unit {0}
IsBelow n (Some m) = n < m

-- an integer of this number of bits, below the bound if one is named
pub record IsInteger (bits : ℕ) (below : Option ℕ) (v : Value) : Type 0 where
  pub number : ℕ
  pub is : v ≡ value.Number number
  pub fits : number < 2 ^ bits
  pub under : IsBelow number below

-- the address of one of some words of the cell to which a base refers, which has that word; of null, of no word
abbrev pub IsAddressOf : LaidOut → (words : List Bool) → (base v : Value) → Type 0
IsAddressOf p words value.Null v = v ≡ value.Address place.OfNull
IsAddressOf p words (value.Cell layout at) v =
    (w : ℕ) × (v ≡ value.Address (place.Word layout at w)) × (has_word words w ≡ true) × (w < 64) × (kind_of_word p.layouts layout w ≢ None)
IsAddressOf p words _ v = ⊥

-- a value is the one that a class has, and the class is one of the first `count`
abbrev pub IsOfClass : Cells → (count c : ℕ) → Value → Type 0
IsOfClass cells count c v = (v ≡ cells c) × (c < count)

-- a reference to a layout of a class
pub record IsMember (heap : Setup) (guarded : Guarded) (log : Log) (cells : Cells) (count c layout : ℕ) (stale : Bool) (v : Value) : Type 0 where
  pub is : v ≡ cells c
  pub within : c < count
  pub refers : IsReferenceTo heap layout v
  pub own : stale ≡ false → IsOwn log guarded v

-- the address of the global of this name
abbrev pub IsGlobal : Module → (symbol : ℕ) → Value → Type 0
IsGlobal m symbol v = (g : ℕ) × (global_named m symbol ≡ Some g) × (v ≡ value.Address (place.Global g))

-- what is known of a value holds of its register
abbrev pub Means : Setup → LaidOut → Guarded → Log → Cells → (count : ℕ) → List Value → Known → Value → Type 0
Means heap p guarded log cells count registers Nothing v = Unit {0}
Means heap p guarded log cells count registers (Number bits below) v = IsInteger bits below v
Means heap p guarded log cells count registers (Cell c layout stale) v = IsMember heap guarded log cells count c layout stale v
Means heap p guarded log cells count registers Null v = v ≡ value.Null
Means heap p guarded log cells count registers (Address base words) v = IsAddressOf p words (register_at registers base) v
Means heap p guarded log cells count registers (GlobalAddress symbol) v = IsGlobal p.of_module symbol v

-- what is known of a class holds of its value
pub record ClassMeans (log : Log) (class : Class) (v : Value) : Type 0 where
  pub nonnull : class.nonnull ≡ true → v ≢ value.Null
  pub fresh : class.fresh ≡ true → IsNullOrFresh log v

-- a value was given by a comparison
abbrev pub WasTested : Module → List Value → Option Test → Value → Type 0
WasTested m registers None v = Unit {0}
WasTested m registers (Some test) v =
    (written : ℕ) × (v ≡ compared test.kind (bits_at m written) (register_at registers test.tested) (constant_value m written test.constant))

-- what a slot that holds no integer holds: null or an own cell of its layout, and without one null
abbrev pub FitsReference : Setup → Guarded → Log → Option ℕ → Value → Type 0
FitsReference heap guarded log None v = v ≡ value.Null
FitsReference heap guarded log (Some layout) v = IsReferenceTo heap layout v × IsOwn log guarded v

-- the layout of a slot goes with its type: only a slot of reference type has one, and each has one whose type refers to a layout
abbrev pub GoesWithType : Module → (held : ℕ) → (layout : Option ℕ) → Type 0
GoesWithType m held None = referenced_layout m held ≡ None
GoesWithType m held (Some layout) = is_reference_held m (Some held) ≡ true

-- what a slot holds fits its type and its layout
pub record FitsHeld (heap : Setup) (m : Module) (guarded : Guarded) (log : Log) (held : ℕ) (layout : Option ℕ) (v : Value) : Type 0 where
  pub with_type : GoesWithType m held layout
  pub integer : is_integer (slice_get m.types held) ≡ true → IsInteger (bits_at m held) None v
  pub reference : is_integer (slice_get m.types held) ≡ false → FitsReference heap guarded log layout v

-- if there is such a slot
abbrev pub FitsSlot : Setup → Module → Guarded → Log → (held layout : Option ℕ) → Value → Type 0
FitsSlot heap m guarded log None layout v = Unit {0}
FitsSlot heap m guarded log (Some held) layout v = FitsHeld heap m guarded log held layout v

-- what is known of a slot holds of its value
pub record SlotMeans (cells : Cells) (count : ℕ) (slot : SlotFact) (v : Value) : Type 0 where
  pub nonnull : slot.nonnull ≡ true → v ≢ value.Null
  pub holds : (c : ℕ) → slot.holds ≡ Some c → IsOfClass cells count c v

-- the facts hold of these registers and slots
pub record Holds (heap : Setup) (p : LaidOut) (table : SlotTable) (guarded : Guarded) (log : Log) (cells : Cells) (facts : FactSet) (registers slots : List Value) : Type 0 where
  pub registers_size : length registers ≡ length facts.values
  pub tests_size : length registers ≡ length facts.tests
  pub slots_size : length slots ≡ length facts.slots
  pub held_size : length slots ≡ length table.held
  pub values : (v : ℕ) → Means heap p guarded log cells (length facts.classes) registers (known_at facts.values v) (register_at registers v)
  pub classes : (c : ℕ) → ClassMeans log (class_at facts.classes c) (cells c)
  pub tests : (v : ℕ) → WasTested p.of_module registers (test_at facts.tests v) (register_at registers v)
  pub slot_types : (s : ℕ) → FitsSlot heap p.of_module guarded log (held_type table s) (slot_layout table s) (slot_value slots s)
  pub slot_facts : (s : ℕ) → SlotMeans cells (length facts.classes) (slot_at facts.slots s) (slot_value slots s)
  -- no available reference outside a fresh class names its cell, and no slot outside does
  pub alone : (v w c d l k : ℕ) (stale : Bool) → known_at facts.values v ≡ Cell c l stale → known_at facts.values w ≡ Cell d k false
      → (class_at facts.classes c).fresh ≡ true → c ≢ d → AreApart (cells c) (cells d)
  pub alone_in_slots : (v s c l : ℕ) (stale : Bool) → known_at facts.values v ≡ Cell c l stale
      → (class_at facts.classes c).fresh ≡ true → holds_class c (slot_at facts.slots s).holds ≡ false → AreApart (cells c) (slot_value slots s)
