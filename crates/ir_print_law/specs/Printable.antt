-- Modules whose printed texts are read again.
use Rattle.std.specs.Prelude.{◌≡◌, ℕ, ◌<◌, ◌≤◌, Bool, true, false, not, List, [], ◌∷◌, ◌++◌, length, Option, Some, None, is_some, ◌⊎◌, slice_get}
use Rattle.std.specs.List.{AllByRecursion}
use Rattle.lemmas.specs.Lists.{IsIn}
use Rattle.ir_ast.specs.RuntimeNames.{runtime_of}
use Rattle.ir_ast.specs.declared.block.Block.{Block}
use Rattle.ir_ast.specs.declared.choices.Incoming.{Incoming}
use Rattle.ir_ast.specs.declared.choices.Phi.{Phi}
use Rattle.ir_ast.specs.declared.ends.Case.{Case}
use Rattle.ir_ast.specs.declared.ends.End.{End}
use Rattle.ir_ast.specs.declared.ends.End.TheVariants as end
use Rattle.ir_ast.specs.declared.function.Function.{Function}
use Rattle.ir_ast.specs.declared.function.Parameter.{Parameter}
use Rattle.ir_ast.specs.declared.instr.Instr.{Instr}
use Rattle.ir_ast.specs.declared.ir_type.IrType.{IrType}
use Rattle.ir_ast.specs.declared.ir_type.IrType.TheVariants as type
use Rattle.ir_ast.specs.declared.items_of_module.Declare.{Declare}
use Rattle.ir_ast.specs.declared.items_of_module.Global.{Global}
use Rattle.ir_ast.specs.declared.items_of_module.StructType.{StructType}
use Rattle.ir_ast.specs.declared.module.Module.{Module}
use Rattle.ir_ast.specs.declared.op.Op.{Op}
use Rattle.ir_ast.specs.declared.op.Op.TheVariants as op
use Rattle.ir_ast.specs.declared.operand.Constant.{Constant}
use Rattle.ir_ast.specs.declared.operand.Constant.TheVariants as constant
use Rattle.ir_tokens.specs.Bytes.{Text}
use Rattle.ir_forms.specs.Intrinsics.{is_left_out}
use Rattle.ir_forms.specs.CaseValues.{value_of, is_among, with_value}
use Rattle.ir_forms.specs.declared.case_values.CaseValue.{CaseValue}
use Rattle.ir_forms.specs.declared.written.Word.{Word}
use Rattle.ir_forms.specs.declared.written.Word.TheVariants as sort
use Rattle.name_text.specs.Readings.{AreBytes}
use Rattle.ir_print_law.specs.Fits.{FitsType}
use Rattle.ir_print.specs.Names.{name_at}
use Rattle.ir_print_law.specs.Shapes.{Shape, word_of_shape, is_struct_shape, is_passed_shape, is_held_shape}
use Rattle.ir_print_law.specs.Definitions.{AreDefined, AreNew, defined_keys, value_keys, label_keys, defined_structs, defined_globals, functions_of}
use Rattle.ir_print_law.specs.Parts.{IsType, IsScalar, IsVoid, IsNoFloat, IsOperand, IsArgument, IsTarget, IsCondition}
use Rattle.ir_print_law.specs.Numbers.{IsNumberOp}
use Rattle.ir_print_law.specs.Memory.{IsMemoryOp, memory_gives_value}
use Rattle.ir_print_law.specs.Elements.{IsElement}
use Rattle.ir_print_law.specs.Casts.{IsCast}
use Rattle.ir_print_law.specs.Choices.{IsChoice}
use Rattle.ir_print_law.specs.Calls.{IsCall}

-- ---- instructions

-- what an instruction of this function does: an operation of one family
abbrev pub IsOp : Module → Function → Op → Type 0
IsOp m f (op.Number x) = IsNumberOp m f x
IsOp m f (op.Memory x) = IsMemoryOp m f x
IsOp m f (op.Element x) = IsElement m f x
IsOp m f (op.Cast x) = IsCast m f x
IsOp m f (op.Choice x) = IsChoice m f x
IsOp m f (op.Call x) = IsCall m f x

-- ---- blocks

-- whether this is the type `void`
abbrev pub is_void : Option IrType → Bool
is_void (Some type.Void) = true
is_void _ = false

-- an instruction gives a value, and so a name is written before it: all do but stores, and calls that return nothing
abbrev pub gives_value : Module → Op → Bool
gives_value m (op.Memory x) = memory_gives_value x
gives_value m (op.Call x) = not (is_void (slice_get m.types x.returned))
gives_value m _ = true

-- an instruction of the body of a block
abbrev pub IsInstr : Module → Function → Instr → Type 0
IsInstr m f x = IsOp m f x.op × (is_some x.result ≡ gives_value m x.op)

-- an entry of a phi of this type
abbrev pub IsIncoming : Module → Function → Word → Incoming → Type 0
IsIncoming m f word x = IsOperand m f word x.operand × IsIn (name_at f.locals x.from) (label_keys f)

-- the cases of a switch, after cases of these values
abbrev pub AreCases : Function → Word → (seen : List CaseValue) → List Case → Type 0
AreCases f word seen [] = Unit {0}
AreCases f word seen (x ∷ xs) =
    FitsType word x.constant × (is_among (value_of x.constant) seen ≡ false) × IsTarget f x.target × AreCases f word (with_value (value_of x.constant) seen) xs

-- a phi
abbrev pub IsPhi : Module → Function → Phi → Type 0
IsPhi m f x = (shape : Shape) × IsScalar m shape x.written × (0 < length x.incoming) × AllByRecursion (IsIncoming m f (word_of_shape shape)) x.incoming

-- how a block ends
abbrev pub IsEnd : Module → Function → End → Type 0
IsEnd m f (end.Jump target) = IsTarget f target
IsEnd m f (end.Branch condition_type condition taken other) = IsCondition m f condition_type condition × IsTarget f taken × IsTarget f other
IsEnd m f (end.Switch written value otherwise cases) =
    IsNoFloat m written × ((shape : Shape) × IsScalar m shape written × IsOperand m f (word_of_shape shape) value × IsTarget f otherwise × AreCases f (word_of_shape shape) [] cases)
IsEnd m f end.Unreachable = Unit {0}
IsEnd m f end.ReturnVoid = Unit {0}
IsEnd m f (end.Return x) = IsArgument m f x

-- the phis of a block, its body and its end
abbrev pub IsBlock : Module → Function → Block → Type 0
IsBlock m f block = AllByRecursion (IsPhi m f) block.phis × AllByRecursion (IsInstr m f) block.body × IsEnd m f block.end

-- ---- items

-- a type that a function takes or returns
abbrev pub IsPassed : Module → (written : ℕ) → Type 0
IsPassed m written = (shape : Shape) × IsType m shape written × (is_passed_shape shape ≡ true)

-- a parameter of a defined function
abbrev pub IsParameter : Module → Parameter → Type 0
IsParameter m parameter = IsPassed m parameter.written

-- the name of a collector
abbrev pub IsCollector : Option Text → Type 0
IsCollector None = Unit {0}
IsCollector (Some name) = AreBytes name

-- a function with its names, numbers, types and blocks
pub record IsFunction (m : Module) (f : Function) : Type 0 where
  pub returned : IsVoid m f.returned ⊎ IsPassed m f.returned
  pub parameters : AllByRecursion (IsParameter m) f.parameters
  pub collector : IsCollector f.collector
  -- each local name is defined once, and numbers come in order
  pub definitions : AreDefined [] 0 (defined_keys f)
  pub values : length (value_keys f) ≤ 1000000
  pub has_block : 0 < length f.blocks
  pub few_blocks : length f.blocks ≤ 65535
  pub blocks : AllByRecursion (IsBlock m f) f.blocks

-- a struct type
abbrev pub IsStructType : Module → StructType → Type 0
IsStructType m struct = (shape : Shape) × IsType m shape struct.body × (is_struct_shape shape ≡ true)

-- the first value of a global: a number, or null at a pointer type
abbrev pub IsInitial : Word → Constant → Type 0
IsInitial (sort.Integer bits) (constant.Number number) = FitsType (sort.Integer bits) (constant.Number number)
IsInitial sort.Float (constant.Float number) = FitsType sort.Float (constant.Float number)
IsInitial sort.Double (constant.Float number) = FitsType sort.Double (constant.Float number)
IsInitial sort.Pointer constant.Null = Unit {0}
IsInitial _ _ = ⊥

-- a global
abbrev pub IsGlobal : Module → Global → Type 0
IsGlobal m global = (shape : Shape) × IsType m shape global.held × (is_held_shape shape ≡ true) × IsInitial (word_of_shape shape) global.initial

-- a type of some shape
abbrev pub IsAnyType : Module → (written : ℕ) → Type 0
IsAnyType m written = (shape : Shape) × IsType m shape written

-- a declared function, with the function of the runtime that its name is, if it is one
abbrev pub IsDeclare : Module → Declare → Type 0
IsDeclare m declared =
    (IsVoid m declared.returned ⊎ IsAnyType m declared.returned) × AllByRecursion (IsAnyType m) declared.parameters × (declared.runtime ≡ runtime_of (name_at m.symbols declared.symbol))

-- a global name is bytes, and no intrinsic's that is left out by these forms
abbrev pub IsSymbol : (wide : Bool) → Text → Type 0
IsSymbol wide name = AreBytes name × (is_left_out wide name ≡ false)

-- A module whose names are defined once, whose numbers and counts are within bounds, and whose instructions are those that are read.
pub record IsPrintable (m : Module) : Type 0 where
  pub struct_names : AllByRecursion AreBytes (defined_structs m) × AreNew [] (defined_structs m)
  pub symbols : AllByRecursion (IsSymbol m.wide) (defined_globals m ++ functions_of m) × AreNew [] (defined_globals m ++ functions_of m)
  pub structs : AllByRecursion (IsStructType m) m.structs
  pub globals : AllByRecursion (IsGlobal m) m.globals
  pub few_globals : length m.globals ≤ 4096
  pub declares : AllByRecursion (IsDeclare m) m.declares
  pub few_declares : length m.declares ≤ 65535
  pub functions : AllByRecursion (IsFunction m) m.functions
  pub few_functions : length m.functions ≤ 65535
