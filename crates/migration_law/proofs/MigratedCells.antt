-- A migrated module has the same cells.
use Rattle.std.proofs.Common.{◌≡◌, ℕ, true, false, not, if◌then◌else◌, List, [], slice_get, unwrap_or, is_some, Option, None, Some, option_map, Result, Ok, Err, refl, sym, ap, ◌∙◌, subst}
use Rattle.std.proofs.lemmas.Option.{slice_get-map}
use Rattle.lemmas.specs.Bools.{and_parts, not_true}
use Rattle.ir_ast.specs.Shapes.{row_at, shape_at}
use Rattle.ir_ast.specs.declared.ir_type.IrType.{IrType}
use Rattle.ir_ast.specs.declared.ir_type.IrType.TheVariants as type
use Rattle.ir_ast.specs.declared.items_of_module.Global.{Global}
use Rattle.ir_ast.specs.declared.items_of_module.StructType.{StructType}
use Rattle.ir_ast.specs.declared.module.Module.{Module}
use Rattle.ir_ast.specs.declared.shapes.Shapes.{Shapes}
use Rattle.copies.specs.Opaque.{new_number, opaque_global, opaque_module, opaque_struct, opaque_types}
use Rattle.types.specs.References.{is_opaque_type, part_of_pointer}
use Rattle.layout.specs.Functions.{with_shapes}
use Rattle.certs.specs.Families.{is_opaque_text}
use Rattle.certs.specs.declared.certs.Certs.{Certs}
use Rattle.certificate.specs.Migrated.{migrated_by, migrated_typed}
use Rattle.certificate.specs.ShapeDrafts.{pointers_at, shapes_gap}
use Rattle.certificate.specs.TypedShapes.{is_pointer, pointers_among, typed_draft}
use Rattle.certificate.specs.declared.fault.CertFault.{CertFault}
use Rattle.certificate.specs.declared.mistake.Mistake.{Mistake}
use Rattle.certificate.specs.declared.shape_draft.ShapeDraft.{ShapeDraft}
use Rattle.migration_law.specs.MigratedCells.{AreMigratedCells, HasSameCells}
use Rattle.migration_law.proofs.Gaps.{opaque_shaped, pointer_shaped}
use Rattle.migration_law.proofs.Tables.{type_after}
use Rattle.migration_law.proofs.CellsAfter.{globals_same, heaps_same, layouts_same, words_same}

-- the shapes of an answer
abbrev shapes_in : Result Certs CertFault → Option Shapes
shapes_in (Ok certs) = certs.shapes
shapes_in (Err fault) = None

-- the shapes of what is migrated
shapes_are : (m : Module) (certs migrated : Certs) (draft : ShapeDraft) (gap : Option Mistake) → Ok migrated ≡ migrated_by m certs draft gap → migrated.shapes ≡ Some draft.shapes
shapes_are m certs migrated draft None e = ap shapes_in e
shapes_are m certs migrated draft (Some gap) e = absurd cc

-- and none of them is missing
no_gap : (m : Module) (certs migrated : Certs) (draft : ShapeDraft) (gap : Option Mistake) → Ok migrated ≡ migrated_by m certs draft gap → gap ≡ None
no_gap m certs migrated draft None e = refl
no_gap m certs migrated draft (Some gap) e = absurd cc

-- a typed pointer is `ptr` in the opaque text
is_ptr : (types : List IrType) (n : ℕ) (found : Option IrType) → slice_get types n ≡ found → is_some (part_of_pointer found) ≡ true → is_opaque_type (slice_get (opaque_types types).types (new_number (opaque_types types).numbers n)) ≡ true
is_ptr types n (Some (type.Pointer part)) at some = rw ((type_after types n (type.Pointer part) at).1) refl
is_ptr types n _ at some = absurd cc

module _ (m : Module) (rows : List (List ℕ)) (none : shapes_gap (opaque_module m) (typed_draft m (opaque_module m) rows) ≡ None) where
  abbrev opaque : Module
  opaque = opaque_module m

  abbrev draft : ShapeDraft
  draft = typed_draft m opaque rows

  -- each pointer of a struct has a shape
  words_shaped : (layout : ℕ) (struct : StructType) (fields : List ℕ) (i field : ℕ) → slice_get m.structs layout ≡ Some struct → slice_get rows layout ≡ Some fields → slice_get fields i ≡ Some field
      → is_some (part_of_pointer (slice_get m.types field)) ≡ true → is_some (shape_at (row_at draft.shapes.words struct.name) i) ≡ true
  words_shaped layout struct fields i field at there e pointer =
      let marks : pointers_at draft.pointers layout ≡ pointers_among m fields = ap (λ row. unwrap_or row []) (slice_get-map (pointers_among m) rows layout ∙ ap (option_map (pointers_among m)) there) in
      let mark : slice_get (pointers_at draft.pointers layout) i ≡ Some true =
      ap (λ row. slice_get row i) marks ∙ slice_get-map (is_pointer m) fields i ∙ ap (option_map (is_pointer m)) e ∙ ap Some pointer in
      let numbers = (opaque_types m.types).numbers in
      let same : slice_get opaque.structs layout ≡ Some (opaque_struct numbers struct) = slice_get-map (opaque_struct numbers) m.structs layout ∙ ap (option_map (opaque_struct numbers)) at in
      pointer_shaped draft opaque none layout (opaque_struct numbers struct) i same mark

  -- so has each global that is one
  globals_shaped : (g : ℕ) (global : Global) → slice_get m.globals g ≡ Some global → is_some (part_of_pointer (slice_get m.types global.held)) ≡ true → is_some (shape_at draft.shapes.globals global.symbol) ≡ true
  globals_shaped g global at pointer =
      let numbers = (opaque_types m.types).numbers in
      let same : slice_get opaque.globals g ≡ Some (opaque_global numbers global) = slice_get-map (opaque_global numbers) m.globals g ∙ ap (option_map (opaque_global numbers)) at in
      opaque_shaped draft opaque none g (opaque_global numbers global) same (is_ptr m.types global.held (slice_get m.types global.held) refl pointer)

pub migrated_cells : AreMigratedCells
migrated_cells m certs migrated is_typed ordered globals structs answer =
    let opaque = opaque_module m in
    let parts = and_parts (not (is_opaque_text m)) (is_opaque_text opaque) is_typed in
    let typed : is_opaque_text m ≡ false = not_true (is_opaque_text m) parts.0 in
    let rows = answer.0 in
    let by_types : Ok migrated ≡ migrated_typed m opaque rows certs = answer.2 ∙ ap (λ b. if b then migrated_typed m opaque rows certs else Ok certs) is_typed in
    let draft = typed_draft m opaque rows in
    let are = shapes_are m certs migrated draft (shapes_gap opaque draft) by_types in
    let none = no_gap m certs migrated draft (shapes_gap opaque draft) by_types in
    let shaped = globals_shaped m rows none in
    subst (λ (shapes : Option Shapes). HasSameCells m (with_shapes opaque shapes)) (sym are) (record {
      layouts = layouts_same m draft.shapes typed ordered rows answer.1 structs refl (words_shaped m rows none);
      words = words_same m draft.shapes typed globals refl shaped;
      globals = globals_same m draft.shapes typed globals refl shaped;
      heaps = heaps_same m draft.shapes typed globals refl shaped;
    })
