-- Where the root slots of each function are shaped, each root slot has a shape.
use Rattle.std.proofs.Common.{◌≡◌, ℕ, Bool, true, false, length, Option, Some, None, is_some, slice_get, unwrap_or, refl, ap, sym, ◌∙◌}
use Rattle.std.specs.Prelude.{◌↔◌, ◌||◌, not, IfOk, Ok, Err}
use Rattle.std.specs.declared.result.Result.{Result}
use Rattle.std.specs.List.{list_all}
use Rattle.std.proofs.lemmas.Option.{slice_get_within}
use Rattle.ir_ast.specs.declared.function.Function.{Function}
use Rattle.ir_ast.specs.declared.module.Module.{Module}
use Rattle.ir_ast.specs.declared.shapes.Shapes.{Shapes}
use Rattle.certs.specs.RootNames.{root_names}
use Rattle.certs.specs.ShapesFit.{root_of}
use Rattle.certificate.specs.Alike.{HasRootShapes}
use Rattle.whole_certs.specs.Marked.{is_marked}
use Rattle.whole_certs.specs.Roots.{is_slot_shaped, are_roots_shaped}
use Rattle.whole_certs.proofs.Ranges.{in_range, all_in_range, all_at, all_if}

has_if_shaped : (marked has : Bool) → (not marked || has) ≡ true → marked ≡ true → has ≡ true
has_if_shaped true has shaped is = shaped
has_if_shaped false has shaped is = absurd cc

shaped_if_has : (mark : Option Bool) (has : Bool) → (mark ≡ Some true → has ≡ true) → (not (unwrap_or mark false) || has) ≡ true
shaped_if_has None has h = refl
shaped_if_has (Some false) has h = refl
shaped_if_has (Some true) has h = h refl

has_roots : (m : Module) (shapes : Shapes) → list_all (are_roots_shaped m shapes) m.functions ≡ true → HasRootShapes m shapes
has_roots m shapes shaped function f at slot is =
    let roots = root_names m f in
    let own : are_roots_shaped m shapes f ≡ true = all_at (are_roots_shaped m shapes) m.functions function f shaped at in
    let there : is_slot_shaped shapes f roots slot ≡ true = in_range (is_slot_shaped shapes f roots) (length roots) slot own (slice_get_within roots slot true is) in
    has_if_shaped (is_marked roots slot) (is_some (root_of shapes f slot)) there (ap (λ (x : Option Bool). unwrap_or x false) is)

roots_had : (m : Module) (shapes : Shapes) → HasRootShapes m shapes → list_all (are_roots_shaped m shapes) m.functions ≡ true
roots_had m shapes has = all_if (are_roots_shaped m shapes) m.functions own
  where
    own : (function : ℕ) (f : Function) → slice_get m.functions function ≡ Some f → are_roots_shaped m shapes f ≡ true
    own function f at =
        let roots = root_names m f in
        all_in_range (is_slot_shaped shapes f roots) 0 (length roots) (λ slot. shaped_if_has (slice_get roots slot) (is_some (root_of shapes f slot)) (has function f at slot))

-- what is found of the functions, where memory is not refused, says whether each root slot has a shape
pub roots_found : {E : Type 0} (m : Module) (shapes : Shapes) (found : Result Bool E) → IfOk found (λ shaped. shaped ≡ list_all (are_roots_shaped m shapes) m.functions) → IfOk found (λ has. (has ≡ true) ↔ HasRootShapes m shapes)
roots_found m shapes (Ok shaped) is = (λ (e : shaped ≡ true). has_roots m shapes (sym is ∙ e), λ (has : HasRootShapes m shapes). is ∙ roots_had m shapes has)
roots_found m shapes (Err refused) is = tt
