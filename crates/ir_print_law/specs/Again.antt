-- A module that is another one again: the same items in the same order, part for part. Types and names may have other
-- numbers in its tables, so types are compared by their shapes, and names by what they are. What reading notes of names
-- besides, their sorts, is not compared.
use Rattle.std.specs.Prelude.{◌≡◌, ℕ, List, Option, Some, None}
use Rattle.ir_ast.specs.declared.block.Block.{Block}
use Rattle.ir_ast.specs.declared.choices.Incoming.{Incoming}
use Rattle.ir_ast.specs.declared.choices.Phi.{Phi}
use Rattle.ir_ast.specs.declared.ends.Case.{Case}
use Rattle.ir_ast.specs.declared.ends.End.{End}
use Rattle.ir_ast.specs.declared.ends.End.TheVariants as end
use Rattle.ir_ast.specs.declared.function.Function.{Function}
use Rattle.ir_ast.specs.declared.function.Parameter.{Parameter}
use Rattle.ir_ast.specs.declared.instr.Instr.{Instr}
use Rattle.ir_ast.specs.declared.items_of_module.Declare.{Declare}
use Rattle.ir_ast.specs.declared.items_of_module.Global.{Global}
use Rattle.ir_ast.specs.declared.items_of_module.StructType.{StructType}
use Rattle.ir_ast.specs.declared.module.Module.{Module}
use Rattle.ir_ast.specs.declared.op.Op.{Op}
use Rattle.ir_ast.specs.declared.op.Op.TheVariants as op
use Rattle.ir_tokens.specs.Bytes.{Text}
use Rattle.ir_print_law.specs.PartsAgain.{AreAlike, IsNameAgain, IsTypeAgain, IsResultAgain, IsOperandAgain, IsArgumentAgain}
use Rattle.ir_print_law.specs.Numbers.{IsNumberOpAgain}
use Rattle.ir_print_law.specs.Memory.{IsMemoryOpAgain}
use Rattle.ir_print_law.specs.Elements.{IsElementAgain}
use Rattle.ir_print_law.specs.Casts.{IsCastAgain}
use Rattle.ir_print_law.specs.Choices.{IsChoiceAgain}
use Rattle.ir_print_law.specs.Calls.{IsCallAgain}

-- ---- functions

-- Two modules, and the names of a function in each.
module _ (m n : Module) (locals others : List Text) where
  -- what instructions do: one operation of one family
  abbrev pub IsOpAgain : Op → Op → Type 0
  IsOpAgain (op.Number x) (op.Number y) = IsNumberOpAgain m n locals others x y
  IsOpAgain (op.Memory x) (op.Memory y) = IsMemoryOpAgain m n locals others x y
  IsOpAgain (op.Element x) (op.Element y) = IsElementAgain m n locals others x y
  IsOpAgain (op.Cast x) (op.Cast y) = IsCastAgain m n locals others x y
  IsOpAgain (op.Choice x) (op.Choice y) = IsChoiceAgain m n locals others x y
  IsOpAgain (op.Call x) (op.Call y) = IsCallAgain m n locals others x y
  IsOpAgain _ _ = ⊥

  -- ---- blocks

  -- entries of phis
  abbrev pub IsIncomingAgain : Incoming → Incoming → Type 0
  IsIncomingAgain x y = IsOperandAgain m n locals others x.operand y.operand × IsNameAgain locals others x.from y.from

  -- cases of switches
  abbrev pub IsCaseAgain : Case → Case → Type 0
  IsCaseAgain x y = (x.constant ≡ y.constant) × IsNameAgain locals others x.target y.target

  -- phis
  abbrev pub IsPhiAgain : Phi → Phi → Type 0
  IsPhiAgain x y = IsNameAgain locals others x.value y.value × IsTypeAgain m n x.written y.written × AreAlike IsIncomingAgain x.incoming y.incoming

  -- neither gives a value that has a name, or both do, and it is one name
  abbrev pub IsValueAgain : Option ℕ → Option ℕ → Type 0
  IsValueAgain None None = Unit {0}
  IsValueAgain (Some value) (Some other) = IsNameAgain locals others value other
  IsValueAgain _ _ = ⊥

  -- instructions of the body of a block
  abbrev pub IsInstrAgain : Instr → Instr → Type 0
  IsInstrAgain x y = IsValueAgain x.result y.result × IsOpAgain x.op y.op

  -- how blocks end
  abbrev pub IsEndAgain : End → End → Type 0
  IsEndAgain (end.Jump target) (end.Jump other) = IsNameAgain locals others target other
  IsEndAgain (end.Branch bit c a b) (end.Branch other d x y) =
      IsTypeAgain m n bit other × IsOperandAgain m n locals others c d × IsNameAgain locals others a x × IsNameAgain locals others b y
  IsEndAgain (end.Switch t x target cases) (end.Switch u y other further) =
      IsTypeAgain m n t u × IsOperandAgain m n locals others x y × IsNameAgain locals others target other × AreAlike IsCaseAgain cases further
  IsEndAgain end.Unreachable end.Unreachable = Unit {0}
  IsEndAgain end.ReturnVoid end.ReturnVoid = Unit {0}
  IsEndAgain (end.Return x) (end.Return y) = IsArgumentAgain m n locals others x y
  IsEndAgain _ _ = ⊥

  -- blocks
  abbrev pub IsBlockAgain : Block → Block → Type 0
  IsBlockAgain x y =
      IsNameAgain locals others x.label y.label × AreAlike IsPhiAgain x.phis y.phis × AreAlike IsInstrAgain x.body y.body × IsEndAgain x.end y.end

  -- parameters of defined functions
  abbrev pub IsParameterAgain : Parameter → Parameter → Type 0
  IsParameterAgain x y = IsTypeAgain m n x.written y.written × IsNameAgain locals others x.value y.value

-- ---- items

-- struct types
pub record IsStructAgain (m n : Module) (x y : StructType) : Type 0 where
  pub name : IsNameAgain m.struct_names n.struct_names x.name y.name
  pub body : IsTypeAgain m n x.body y.body

-- globals
pub record IsGlobalAgain (m n : Module) (x y : Global) : Type 0 where
  pub symbol : IsNameAgain m.symbols n.symbols x.symbol y.symbol
  pub is_constant : x.is_constant ≡ y.is_constant
  pub held : IsTypeAgain m n x.held y.held
  pub initial : x.initial ≡ y.initial

-- declared functions
pub record IsDeclareAgain (m n : Module) (x y : Declare) : Type 0 where
  pub symbol : IsNameAgain m.symbols n.symbols x.symbol y.symbol
  pub runtime : x.runtime ≡ y.runtime
  pub returned : IsResultAgain m n x.returned y.returned
  pub parameters : AreAlike (IsTypeAgain m n) x.parameters y.parameters

-- defined functions, each with local names of its own
pub record IsFunctionAgain (m n : Module) (f g : Function) : Type 0 where
  pub symbol : IsNameAgain m.symbols n.symbols f.symbol g.symbol
  pub returned : IsResultAgain m n f.returned g.returned
  pub parameters : AreAlike (IsParameterAgain m n f.locals g.locals) f.parameters g.parameters
  pub collector : f.collector ≡ g.collector
  pub blocks : AreAlike (IsBlockAgain m n f.locals g.locals) f.blocks g.blocks

-- the second module is the first one again
pub record IsAgain (m n : Module) : Type 0 where
  pub structs : AreAlike (IsStructAgain m n) m.structs n.structs
  pub globals : AreAlike (IsGlobalAgain m n) m.globals n.globals
  pub declares : AreAlike (IsDeclareAgain m n) m.declares n.declares
  pub functions : AreAlike (IsFunctionAgain m n) m.functions n.functions
