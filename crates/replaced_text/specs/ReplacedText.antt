-- What is printed of a module in which one function is replaced.
use Rattle.std.specs.Prelude.{◌≡◌, ◌<◌, ◌++◌, ℕ, length, Some, slice_get}
use Rattle.ir_ast.specs.declared.function.Function.{Function}
use Rattle.ir_ast.specs.declared.module.Module.{Module}
use Rattle.ir_tokens.specs.Bytes.{Text}
use Rattle.ir_text.specs.Replaced.{IsReplaced}
use Rattle.name_text.specs.Readings.{AreBytes}
use Rattle.ir_print.specs.Items.{function_text, text_of}
use Rattle.ir_print_law.specs.Wholes.{IsWhole}

-- What is printed of the second module is what is printed of the first one, with the text of its function with this number in the place of the old one's. The names of both are the same.
pub record IsPrintedWith (m : Module) (func : ℕ) (n : Module) : Type 0 where
  pub old : Function
  pub new : Function
  pub old_is : slice_get m.functions func ≡ Some old
  pub new_is : slice_get n.functions func ≡ Some new
  pub front : Text
  pub rest : Text
  pub text : text_of m ≡ front ++ function_text m old ++ rest
  pub text_with : text_of n ≡ front ++ function_text n new ++ rest
  pub struct_names : n.struct_names ≡ m.struct_names
  pub symbols : n.symbols ≡ m.symbols

-- so it is where one function of a whole module is replaced by one that is read from a text of bytes
abbrev pub AreReplacedPrinted : Type 0
AreReplacedPrinted = (m : Module) (func : ℕ) (bytes : Text) (n : Module) → IsWhole m → func < length m.functions → AreBytes bytes → IsReplaced m func bytes n → IsPrintedWith m func n
