-- Modules whose types are within their tables, as far as what fits depends on them.
use Rattle.std.specs.Prelude.{◌≡◌, ◌<◌, ℕ, List, length, Some, slice_get}
use Rattle.std.specs.List.{AllByRecursion}
use Rattle.ir_ast.specs.declared.block.Block.{Block}
use Rattle.ir_ast.specs.declared.function.Function.{Function}
use Rattle.ir_ast.specs.declared.function.LocalSort.TheVariants as sort
use Rattle.ir_ast.specs.declared.instr.Instr.{Instr}
use Rattle.ir_ast.specs.declared.ir_type.IrType.{IrType}
use Rattle.ir_ast.specs.declared.ir_type.IrType.TheVariants as type
use Rattle.ir_ast.specs.declared.items_of_module.Global.{Global}
use Rattle.ir_ast.specs.declared.items_of_module.StructType.{StructType}
use Rattle.ir_ast.specs.declared.memory.MemoryOp.{MemoryOp}
use Rattle.ir_ast.specs.declared.memory.MemoryOp.TheVariants as memory
use Rattle.ir_ast.specs.declared.module.Module.{Module}
use Rattle.ir_ast.specs.declared.op.Op.{Op}
use Rattle.ir_ast.specs.declared.op.Op.TheVariants as op

-- the parts of a type have numbers below this one
abbrev pub ArePartsBelow : (count : ℕ) → IrType → Type 0
ArePartsBelow count (type.Pointer part) = part < count
ArePartsBelow count (type.Array length part) = part < count
ArePartsBelow count (type.Struct first rest) = (first < count) × (rest < count)
ArePartsBelow count _ = Unit {0}

-- the parts of each type are in the table
abbrev pub ArePartsWithin : List IrType → Type 0
ArePartsWithin types = (number : ℕ) (x : IrType) → slice_get types number ≡ Some x → ArePartsBelow (length types) x

-- so is what an alloca holds
abbrev pub IsHeldBelow : (count : ℕ) → MemoryOp → Type 0
IsHeldBelow count (memory.Alloca held) = held < count
IsHeldBelow count _ = Unit {0}

-- and the types of a getelementptr and its base
abbrev pub AreTypesBelow : (count : ℕ) → Op → Type 0
AreTypesBelow count (op.Memory x) = IsHeldBelow count x
AreTypesBelow count (op.Element x) = (x.source < count) × (x.base_type < count)
AreTypesBelow count _ = Unit {0}

-- so it is of each instruction of a block
abbrev pub AreBodyTypesBelow : (count : ℕ) → Block → Type 0
AreBodyTypesBelow count block = AllByRecursion (λ (x : Instr). AreTypesBelow count x.op) block.body

-- what each slot of a function holds is in the table
abbrev pub AreSlotsWithin : Module → Function → Type 0
AreSlotsWithin m f = (value held : ℕ) → slice_get f.sorts value ≡ Some (sort.Slot held) → held < length m.types

-- what the slots of a function hold is in the table, and so are the types of its allocas and getelementptrs
pub record IsClosedFunction (m : Module) (f : Function) : Type 0 where
  pub slots : AreSlotsWithin m f
  pub blocks : AllByRecursion (AreBodyTypesBelow (length m.types)) f.blocks

-- so it is of each function, of each struct's body and of what each global holds, and of the parts of the types
pub record IsClosed (m : Module) : Type 0 where
  pub parts : ArePartsWithin m.types
  pub structs : (layout : ℕ) (struct : StructType) → slice_get m.structs layout ≡ Some struct → struct.body < length m.types
  pub globals : (number : ℕ) (global : Global) → slice_get m.globals number ≡ Some global → global.held < length m.types
  pub functions : (number : ℕ) (f : Function) → slice_get m.functions number ≡ Some f → IsClosedFunction m f
