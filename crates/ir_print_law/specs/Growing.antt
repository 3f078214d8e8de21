-- What replacing one function does to the tables of a module.
use Rattle.std.specs.Prelude.{◌≡◌, ◌<◌, ℕ, Option, Some, None, length, slice_get, slice_set, unwrap_or}
use Rattle.ir_ast.specs.declared.function.Function.{Function}
use Rattle.ir_ast.specs.declared.ir_type.IrType.{IrType}
use Rattle.ir_ast.specs.declared.module.Module.{Module}
use Rattle.ir_tokens.specs.Bytes.{Text}
use Rattle.ir_text.specs.Replaced.{IsReplaced}
use Rattle.name_text.specs.Readings.{AreBytes}
use Rattle.ir_print_law.specs.Wholes.{IsWhole}

-- the struct that a name means, if it means one
abbrev pub struct_meant : Module → (name : ℕ) → Option ℕ
struct_meant m name = unwrap_or (slice_get m.struct_of name) None

-- Each type of one module's table is at the same place in another's. The structs are the same, and each name of a struct means the same one.
pub record TablesStay (m n : Module) : Type 0 where
  pub types : (written : ℕ) (type : IrType) → slice_get m.types written ≡ Some type → slice_get n.types written ≡ Some type
  pub names : (name : ℕ) → struct_meant n name ≡ struct_meant m name
  pub structs : n.structs ≡ m.structs

-- so it is where one function of any module is replaced
abbrev pub ReplacingKeepsTables : Type 0
ReplacingKeepsTables = (m : Module) (func : ℕ) (bytes : Text) (n : Module) → IsReplaced m func bytes n → TablesStay m n

-- the second module has its own types, and in the place of one function of the first one another; else it is the first one
abbrev pub IsReplacedAlone : (m : Module) → (func : ℕ) → (n : Module) → Type 0
IsReplacedAlone m func n = (f : Function) × (n ≡ record m { types = n.types; functions = slice_set m.functions func f })

-- so it is where one function of a whole module is replaced by one that is read from a text of bytes: no name is new
abbrev pub AreReplacedAlone : Type 0
AreReplacedAlone = (m : Module) (func : ℕ) (bytes : Text) (n : Module) → IsWhole m → func < length m.functions → AreBytes bytes → IsReplaced m func bytes n → IsReplacedAlone m func n
