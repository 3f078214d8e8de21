-- What holds of each printed module.
use Rattle.std.specs.Prelude.{◌≡◌, ◌≤◌, length}
use Rattle.ir_ast.specs.declared.module.Module.{Module}
use Rattle.ir_tokens.specs.Bytes.{Text}
use Rattle.ir_text.specs.Read.{IsText, IsTextIn, text_limit}
use Rattle.name_text.specs.Readings.{AreBytes}
use Rattle.ir_print.specs.Items.{text_of}
use Rattle.ir_print_law.specs.Printable.{IsPrintable}
use Rattle.ir_print_law.specs.Again.{IsAgain}

-- the printed text of this module is a text of a module that is this one again, and that prints the same
abbrev pub IsPrintedAgain : Module → Type 0
IsPrintedAgain m = (n : Module) × IsTextIn m.wide (text_of m) n × IsAgain m n × (text_of m ≡ text_of n)

-- so it is of a printable module
abbrev pub ArePrintedAgain : Type 0
ArePrintedAgain = (m : Module) → IsPrintable m → length (text_of m) ≤ text_limit → IsPrintedAgain m

-- and so it is of a module that is read
abbrev pub AreReadAgain : Type 0
AreReadAgain = (bytes : Text) (m : Module) → AreBytes bytes → IsText bytes m → length (text_of m) ≤ text_limit → IsPrintedAgain m
