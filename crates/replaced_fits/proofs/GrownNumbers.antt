-- Numbers of layouts that fit a module still fit where its tables have grown.
use Rattle.std.proofs.Common.{◌&&◌, List, [], ◌∷◌, refl, ◌∙◌}
use Rattle.std.specs.List.{list_all, list_any}
use Rattle.ir_ast.specs.declared.module.Module.{Module}
use Rattle.ir_ast.specs.declared.outside.LayoutNumber.{LayoutNumber}
use Rattle.types.specs.LayoutNumbers.{is_layout_number}
use Rattle.certs.specs.Fits.{stands_for}
use Rattle.certs.specs.NumbersFit.{are_numbered_once, may_number, numbers_fit}
use Rattle.replaced_fits.specs.Closed.{IsClosed}
use Rattle.replaced_fits.proofs.GrownFamilies.{Grows}
use Rattle.replaced_fits.proofs.GrownSections.{layout_stays}
use Rattle.replaced_fits.proofs.Implies.{Implies, both_imply, each_implies, itself}

module _ (m n : Module) (g : Grows m n) (closed : IsClosed m) where
  line_implies : (line : LayoutNumber) → Implies (may_number m line) (may_number n line)
  line_implies line =
      both_imply (list_any (stands_for line.layout) m.struct_of) (is_layout_number line.number) (list_any (stands_for line.layout) n.struct_of) (is_layout_number line.number)
      (layout_stays m n g closed line.layout) (itself (is_layout_number line.number))

  pub numbers_imply : (lines : List LayoutNumber) → Implies (numbers_fit m lines) (numbers_fit n lines)
  numbers_imply [] h = refl
  numbers_imply (line ∷ lines) h =
      both_imply m.wide (list_all (may_number m) (line ∷ lines) && are_numbered_once (line ∷ lines)) n.wide (list_all (may_number n) (line ∷ lines) && are_numbered_once (line ∷ lines))
      (λ h. g.wide ∙ h)
      (both_imply (list_all (may_number m) (line ∷ lines)) (are_numbered_once (line ∷ lines)) (list_all (may_number n) (line ∷ lines)) (are_numbered_once (line ∷ lines))
      (each_implies (may_number m) (may_number n) (line ∷ lines) (λ k x e. line_implies x)) (itself (are_numbered_once (line ∷ lines)))) h
