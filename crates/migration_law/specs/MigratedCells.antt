-- A migrated module has the same cells.
use Rattle.std.specs.Prelude.{◌≡◌, true, List, Ok, map}
use Rattle.ir_ast.specs.declared.module.Module.{Module}
use Rattle.pools.specs.declared.word_kind.WordKind.{WordKind}
use Rattle.copies.specs.Opaque.{opaque_module}
use Rattle.layout.specs.Functions.{with_shapes}
use Rattle.layout.specs.Globals.{AreGlobals, globals_of, word_of_global}
use Rattle.layout.specs.Layouts.{AreLayouts}
use Rattle.certs.specs.declared.certs.Certs.{Certs}
use Rattle.certificate.specs.Migrated.{IsMigration, is_typed_text}
use Rattle.certificate.specs.Named.{HasGlobals, HasStructs}
use Rattle.migration_law.specs.PartsBefore.{ArePartsBefore}

-- the module of the opaque text, with the shapes of the migrated certificates
abbrev pub migrated_module : Module → Certs → Module
migrated_module m migrated = with_shapes (opaque_module m) migrated.shapes

-- The layouts of one module are layouts of another one, each global's word is the same, and so is the cell of the globals. What a heap has for the globals of one it has for those of the other.
pub record HasSameCells (m n : Module) : Type 0 where
  pub layouts : (layouts : List (List WordKind)) → AreLayouts m layouts → AreLayouts n layouts
  pub words : map (word_of_global n) n.globals ≡ map (word_of_global m) m.globals
  pub globals : globals_of n ≡ globals_of m
  pub heaps : (words : List WordKind) → AreGlobals m words → AreGlobals n words

-- A migrated module has the cells of the typed one. Each global and each struct of that is what its name names, and in its table of types parts come first.
abbrev pub AreMigratedCells : Type 0
AreMigratedCells = (m : Module) (certs migrated : Certs) → is_typed_text m (opaque_module m) ≡ true → ArePartsBefore m.types → HasGlobals m → HasStructs m → IsMigration m certs (Ok migrated)
    → HasSameCells m (migrated_module m migrated)
