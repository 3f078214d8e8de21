-- Each type has one place in the table of a module that is read, so two types are one exactly where they are written alike.
use Rattle.std.specs.Prelude.{◌≡◌, ℕ, List, Some, slice_get}
use Rattle.ir_ast.specs.declared.ir_type.IrType.{IrType}
use Rattle.ir_ast.specs.declared.module.Module.{Module}
use Rattle.ir_tokens.specs.Bytes.{Text}
use Rattle.ir_text.specs.Read.{IsText}
use Rattle.ir_text.specs.Replaced.{IsReplaced}
use Rattle.name_text.specs.Readings.{AreBytes}
use Rattle.ir_print_law.specs.Shapes.{Shape, HasShape}

-- no type is at two places
abbrev pub AreOnce : List IrType → Type 0
AreOnce types = (one other : ℕ) (x : IrType) → slice_get types one ≡ Some x → slice_get types other ≡ Some x → one ≡ other

-- the types of a module are numbered so that their numbers are equal exactly where they are written alike
pub record HasOneTypes (m : Module) : Type 0 where
  pub once : AreOnce m.types
  pub one_number : (shape : Shape) (one other : ℕ) → HasShape m.types m.struct_names shape one → HasShape m.types m.struct_names shape other → one ≡ other
  pub one_shape : (shape other : Shape) (number : ℕ) → HasShape m.types m.struct_names shape number → HasShape m.types m.struct_names other number → shape ≡ other

-- a module of which a text of bytes is the text has such types
abbrev pub HaveOneTypes : Type 0
HaveOneTypes = (bytes : Text) (m : Module) → AreBytes bytes → IsText bytes m → HasOneTypes m

-- and so has each module with such types in which one function is replaced
abbrev pub ReplacingKeepsOneTypes : Type 0
ReplacingKeepsOneTypes = (m : Module) (func : ℕ) (bytes : Text) (n : Module) → HasOneTypes m → IsReplaced m func bytes n → HasOneTypes n
