-- A printable module is printable once it is opaque.
use Rattle.std.specs.Prelude.{◌≤◌, length}
use Rattle.ir_ast.specs.declared.module.Module.{Module}
use Rattle.copies.specs.Opaque.{opaque_module}
use Rattle.ir_text.specs.Read.{text_limit}
use Rattle.ir_print.specs.Items.{text_of}
use Rattle.ir_print_law.specs.Printable.{IsPrintable}
use Rattle.ir_print_law.specs.Printed.{IsPrintedAgain}
use Rattle.migration_law.specs.PartsBefore.{ArePartsBefore}

-- the opaque text of a printable module, in whose table parts come first, is one of a printable module
abbrev pub AreOpaquePrintable : Type 0
AreOpaquePrintable = (m : Module) → ArePartsBefore m.types → IsPrintable m → IsPrintable (opaque_module m)

-- so what is printed of it, if it is within the limit, is read as that module again
abbrev pub AreOpaqueAgain : Type 0
AreOpaqueAgain = (m : Module) → ArePartsBefore m.types → IsPrintable m → length (text_of (opaque_module m)) ≤ text_limit → IsPrintedAgain (opaque_module m)
