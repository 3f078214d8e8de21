-- The functions that a thread entered, and whose slots it keeps.
use Rattle.std.specs.Prelude.{◌≡◌, ℕ, List, [], ◌∷◌, slice_get, Option, Some}
use Rattle.ir_ast.specs.declared.function.Function.{Function}
use Rattle.ir_ast.specs.declared.module.Module.{Module}
use Rattle.layout.specs.Layouts.{LaidOut}
use Rattle.shadow_stack.specs.Slots.{SlotTable, slots_of}
use Rattle.machine.specs.declared.frame.Frame.{Frame}
use Rattle.machine.specs.declared.value.Value.{Value}
use Rattle.machine.specs.Jumps.{HasRoom}

-- a program, and of each of its functions the slots, if it was entered
pub record Known : Type 0 where
  pub program : LaidOut
  pub tables : List (Option SlotTable)

-- a function was entered
abbrev pub WasEntered : List (Option SlotTable) → (function : ℕ) → Type 0
WasEntered tables function = (table : SlotTable) × (slice_get tables function ≡ Some (Some table))

-- the functions of these frames were
abbrev pub WereEntered : List (Option SlotTable) → List Frame → Type 0
WereEntered tables [] = Unit {0}
WereEntered tables (frame ∷ frames) = WasEntered tables frame.function × WereEntered tables frames

-- what is kept of a function that was entered: its slots, and room for the values of its phis
pub record IsKept (m : Module) (values : List Value) (function : ℕ) (table : SlotTable) : Type 0 where
  pub f : Function
  pub is : slice_get m.functions function ≡ Some f
  pub slots : table ≡ slots_of m f
  pub room : HasRoom f values

-- the same of each
abbrev pub AreKept : Module → (values : List Value) → List (Option SlotTable) → Type 0
AreKept m values tables = (function : ℕ) (table : SlotTable) → slice_get tables function ≡ Some (Some table) → IsKept m values function table
