-- What holds of each module that is read.
use Rattle.ir_ast.specs.declared.module.Module.{Module}
use Rattle.ir_tokens.specs.Bytes.{Text}
use Rattle.ir_text.specs.Read.{IsText}
use Rattle.name_text.specs.Readings.{AreBytes}
use Rattle.ir_print_law.specs.ModuleNames.{HasModuleNames}
use Rattle.ir_print_law.specs.Printable.{IsPrintable}

-- a module of which a text of bytes is the text is printable
abbrev pub ArePrintable : Type 0
ArePrintable = (bytes : Text) (m : Module) → AreBytes bytes → IsText bytes m → IsPrintable m

-- and its names are its own
abbrev pub AreNamed : Type 0
AreNamed = (bytes : Text) (m : Module) → AreBytes bytes → IsText bytes m → HasModuleNames m
