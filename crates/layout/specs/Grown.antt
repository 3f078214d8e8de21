-- Modules whose table of types has grown.
use Rattle.std.specs.Prelude.{◌≡◌, ℕ, false, List, Some, slice_get}
use Rattle.ir_ast.specs.declared.ir_type.IrType.{IrType}
use Rattle.ir_ast.specs.declared.ir_type.IrType.TheVariants.{Named}
use Rattle.ir_ast.specs.declared.module.Module.{Module}
use Rattle.pools.specs.declared.word_kind.WordKind.{WordKind}
use Rattle.types.specs.References.{struct_named}
use Rattle.layout.specs.Layouts.{AreLayouts, wants_shapes}

-- Each type of one module's table is at the same place in another's. The structs, the shapes and the forms are the same, and so is what the types' names mean.
pub record TablesGrow (m n : Module) : Type 0 where
  pub types : (written : ℕ) (type : IrType) → slice_get m.types written ≡ Some type → slice_get n.types written ≡ Some type
  pub names : (written name : ℕ) → slice_get m.types written ≡ Some (Named name) → struct_named n name ≡ struct_named m name
  pub structs : n.structs ≡ m.structs
  pub shapes : n.shapes ≡ m.shapes
  pub wide : n.wide ≡ m.wide

-- layouts stay where the tables grow, unless shapes are wanted then
abbrev pub LayoutsStay : Type 0
LayoutsStay = (m n : Module) (layouts : List (List WordKind)) → TablesGrow m n → wants_shapes n ≡ false → AreLayouts m layouts → AreLayouts n layouts
