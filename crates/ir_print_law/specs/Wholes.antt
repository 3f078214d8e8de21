-- What holds of a module that is read, and still where functions of it are replaced.
use Rattle.std.specs.Prelude.{◌<◌, ◌≤◌, ℕ, length}
use Rattle.ir_ast.specs.declared.module.Module.{Module}
use Rattle.ir_tokens.specs.Bytes.{Text}
use Rattle.ir_text.specs.Read.{IsText, text_limit}
use Rattle.ir_text.specs.Replaced.{IsReplaced}
use Rattle.name_text.specs.Readings.{AreBytes}
use Rattle.ir_print.specs.Items.{text_of}
use Rattle.ir_print_law.specs.ModuleNames.{HasModuleNames}
use Rattle.ir_print_law.specs.Printable.{IsPrintable}
use Rattle.ir_print_law.specs.Printed.{IsPrintedAgain}
use Rattle.ir_print_law.specs.TypeOrder.{AreOrdered}

-- A module that can be printed, whose names mean its items, and in whose table the further fields of a struct come before it.
pub record IsWhole (m : Module) : Type 0 where
  pub printable : IsPrintable m
  pub names : HasModuleNames m
  pub ordered : AreOrdered m.types

-- each module that is read from a text of bytes is so
abbrev pub AreReadWhole : Type 0
AreReadWhole = (bytes : Text) (m : Module) → AreBytes bytes → IsText bytes m → IsWhole m

-- and so is each module in which one function is replaced by one that is read from a text of bytes
abbrev pub AreReplacedWhole : Type 0
AreReplacedWhole = (m : Module) (func : ℕ) (bytes : Text) (n : Module) → IsWhole m → func < length m.functions → AreBytes bytes → IsReplaced m func bytes n → IsWhole n

-- what is printed of such a module, if it is within the limit, is read as that module again
abbrev pub AreWholeAgain : Type 0
AreWholeAgain = (m : Module) → IsWhole m → length (text_of m) ≤ text_limit → IsPrintedAgain m
