-- What holds of a program whose module is read: its names are as printed traces ask.
use Rattle.ir_ast.specs.declared.module.Module.{Module}
use Rattle.ir_text.specs.Read.{IsText}
use Rattle.ir_tokens.specs.Bytes.{Text}
use Rattle.name_text.specs.Readings.{AreBytes}
use Rattle.ir_print_law.specs.ModuleNames.{HasModuleNames}
use Rattle.layout.specs.Layouts.{LaidOut, AreLayouts}
use Rattle.trace_text.specs.Print.{name_text}
use Rattle.trace_text.specs.Traces.{AreNamed}
use Rattle.cert_print_law.specs.Printed.{AreShort}

-- what is printed of each name of a global, of a function and of a type is shorter than a text may be
pub record HasShortItems (m : Module) : Type 0 where
  pub symbols : AreShort name_text m.symbols
  pub structs : AreShort name_text m.struct_names

-- in a module with its layouts, where each name means its item and is so short, each function and each layout is the one that has its name
abbrev pub AreProgramsNamed : Type 0
AreProgramsNamed = (p : LaidOut) → HasModuleNames p.of_module → AreLayouts p.of_module p.layouts → HasShortItems p.of_module → AreNamed p

-- so it is in each module that is read from bytes
abbrev pub AreReadProgramsNamed : Type 0
AreReadProgramsNamed = (bytes : Text) (p : LaidOut) → AreBytes bytes → IsText bytes p.of_module → AreLayouts p.of_module p.layouts → HasShortItems p.of_module → AreNamed p
