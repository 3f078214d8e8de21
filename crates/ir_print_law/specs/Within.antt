-- Modules whose numbers are within their tables: who follows a number finds an entry.
use Rattle.std.specs.Prelude.{◌≡◌, length, ◌<◌, ℕ}
use Rattle.std.specs.List.{AllByRecursion}
use Rattle.ir_ast.specs.declared.block.Block.{Block}
use Rattle.ir_ast.specs.declared.choices.Incoming.{Incoming}
use Rattle.ir_ast.specs.declared.choices.Phi.{Phi}
use Rattle.ir_ast.specs.declared.ends.Case.{Case}
use Rattle.ir_ast.specs.declared.ends.End.{End}
use Rattle.ir_ast.specs.declared.ends.End.TheVariants as end
use Rattle.ir_ast.specs.declared.function.Function.{Function}
use Rattle.ir_ast.specs.declared.function.Parameter.{Parameter}
use Rattle.ir_ast.specs.declared.instr.Instr.{Instr}
use Rattle.ir_ast.specs.declared.items_of_module.Declare.{Declare}
use Rattle.ir_ast.specs.declared.items_of_module.Global.{Global}
use Rattle.ir_ast.specs.declared.items_of_module.StructType.{StructType}
use Rattle.ir_ast.specs.declared.module.Module.{Module}
use Rattle.ir_ast.specs.declared.op.Op.{Op}
use Rattle.ir_ast.specs.declared.op.Op.TheVariants as op
use Rattle.ir_tokens.specs.Bytes.{Text}
use Rattle.ir_text.specs.Read.{IsText}
use Rattle.ir_text.specs.Replaced.{IsReplaced}
use Rattle.name_text.specs.Readings.{AreBytes}
use Rattle.ir_print_law.specs.PartsWithin.{AreSlotsBelow, HasType, HasStructName, HasSymbol, HasValue, HasBlock, HasTarget, HasResult, IsOperandWithin, IsArgumentWithin}
use Rattle.ir_print_law.specs.Numbers.{IsNumberOpWithin}
use Rattle.ir_print_law.specs.Memory.{IsMemoryOpWithin}
use Rattle.ir_print_law.specs.Elements.{IsElementWithin}
use Rattle.ir_print_law.specs.Casts.{IsCastWithin}
use Rattle.ir_print_law.specs.Choices.{IsChoiceWithin}
use Rattle.ir_print_law.specs.Calls.{IsCallWithin}
use Rattle.ir_print_law.specs.Wholes.{IsWhole}

-- ---- instructions

-- what an instruction of this function does: an operation of one family
abbrev pub IsOpWithin : Module → Function → Op → Type 0
IsOpWithin m f (op.Number x) = IsNumberOpWithin m f x
IsOpWithin m f (op.Memory x) = IsMemoryOpWithin m f x
IsOpWithin m f (op.Element x) = IsElementWithin m f x
IsOpWithin m f (op.Cast x) = IsCastWithin m f x
IsOpWithin m f (op.Choice x) = IsChoiceWithin m f x
IsOpWithin m f (op.Call x) = IsCallWithin m f x

-- an instruction of the body of a block, with the value that it gives
abbrev pub IsInstrWithin : Module → Function → Instr → Type 0
IsInstrWithin m f x = HasResult f x.result × IsOpWithin m f x.op

-- ---- blocks

-- an entry of a phi
abbrev pub IsIncomingWithin : Module → Function → Incoming → Type 0
IsIncomingWithin m f x = IsOperandWithin m f x.operand × HasBlock f x.from

-- a phi
abbrev pub IsPhiWithin : Module → Function → Phi → Type 0
IsPhiWithin m f x = HasValue f x.value × HasType m x.written × AllByRecursion (IsIncomingWithin m f) x.incoming

-- a case of a switch
abbrev pub IsCaseWithin : Function → Case → Type 0
IsCaseWithin f x = HasTarget f x.target

-- how a block ends
abbrev pub IsEndWithin : Module → Function → End → Type 0
IsEndWithin m f (end.Jump target) = HasTarget f target
IsEndWithin m f (end.Branch condition_type condition taken other) =
    HasType m condition_type × IsOperandWithin m f condition × HasTarget f taken × HasTarget f other
IsEndWithin m f (end.Switch written value otherwise cases) =
    HasType m written × IsOperandWithin m f value × HasTarget f otherwise × AllByRecursion (IsCaseWithin f) cases
IsEndWithin m f end.Unreachable = Unit {0}
IsEndWithin m f end.ReturnVoid = Unit {0}
IsEndWithin m f (end.Return x) = IsArgumentWithin m f x

-- a block with its label
abbrev pub IsBlockWithin : Module → Function → Block → Type 0
IsBlockWithin m f x =
    HasBlock f x.label × AllByRecursion (IsPhiWithin m f) x.phis × AllByRecursion (IsInstrWithin m f) x.body × IsEndWithin m f x.end

-- ---- items

-- a parameter of a defined function
abbrev pub IsParameterWithin : Module → Function → Parameter → Type 0
IsParameterWithin m f x = HasType m x.written × HasValue f x.value

-- a defined function; it notes of each local name what it stands for, and of a slot what it holds
pub record IsFunctionWithin (m : Module) (f : Function) : Type 0 where
  pub symbol : HasSymbol m f.symbol
  pub returned : HasType m f.returned
  pub parameters : AllByRecursion (IsParameterWithin m f) f.parameters
  pub sorts : length f.sorts ≡ length f.locals
  pub slots : AreSlotsBelow (length m.types) f.sorts
  pub blocks : AllByRecursion (IsBlockWithin m f) f.blocks

-- a struct type
abbrev pub IsStructWithin : Module → StructType → Type 0
IsStructWithin m x = HasStructName m x.name × HasType m x.body

-- a global
abbrev pub IsGlobalWithin : Module → Global → Type 0
IsGlobalWithin m x = HasSymbol m x.symbol × HasType m x.held

-- a declared function
abbrev pub IsDeclareWithin : Module → Declare → Type 0
IsDeclareWithin m x = HasSymbol m x.symbol × HasType m x.returned × AllByRecursion (HasType m) x.parameters

-- What the items of a module name by number is there.
pub record IsWithin (m : Module) : Type 0 where
  pub structs : AllByRecursion (IsStructWithin m) m.structs
  pub globals : AllByRecursion (IsGlobalWithin m) m.globals
  pub declares : AllByRecursion (IsDeclareWithin m) m.declares
  pub functions : AllByRecursion (IsFunctionWithin m) m.functions

-- so it is of each module that is read from a text of bytes
abbrev pub AreWithin : Type 0
AreWithin = (bytes : Text) (m : Module) → AreBytes bytes → IsText bytes m → IsWithin m

-- and of each whole module of which it is so, in which one function is replaced by one that is read from a text of bytes
abbrev pub AreReplacedWithin : Type 0
AreReplacedWithin =
    (m : Module) (func : ℕ) (bytes : Text) (n : Module) → IsWhole m → IsWithin m → func < length m.functions → AreBytes bytes → IsReplaced m func bytes n → IsWithin n
