-- Certificates of a typed text have no shapes, and a module that is read has none of its own.
use Rattle.std.proofs.Common.{◌≡◌, ◌&&◌, true, false, Option, Some, None, refl, ap, sym, ◌∙◌}
use Rattle.ir_ast.specs.declared.module.Module.{Module}
use Rattle.ir_ast.specs.declared.shapes.Shapes.{Shapes}
use Rattle.ir_text.specs.Read.{IsText}
use Rattle.ir_tokens.specs.Bytes.{Text}
use Rattle.certs.specs.Families.{is_opaque_text}
use Rattle.certs.specs.ShapesFit.{all_shapes_fit, shapes_fit}

pub no_shapes : (m : Module) (shapes : Option Shapes) → is_opaque_text m ≡ false → shapes_fit m shapes ≡ true → shapes ≡ None
no_shapes m None typed fit = refl
no_shapes m (Some shapes) typed fit = let no : false ≡ true = sym (ap (λ b. b && all_shapes_fit m shapes) typed) ∙ fit in absurd cc

pub read_unshaped : (bytes : Text) (m : Module) → IsText bytes m → m.shapes ≡ None
read_unshaped bytes m is = sym (ap (λ (x : Module). x.shapes) is.3.3)
