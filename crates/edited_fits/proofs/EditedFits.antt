-- Certificates that fit a module fit it after each edit of its code.
use Rattle.std.proofs.Common.{◌≡◌, ◌∙◌, ℕ, true, List, Option, sym, ap, subst}
use Rattle.ir_ast.specs.declared.module.Module.{Module}
use Rattle.ir_ast.specs.declared.outside.Outside.{Outside}
use Rattle.ir_ast.specs.declared.shapes.Shapes.{Shapes}
use Rattle.ir_tokens.specs.Bytes.{Text}
use Rattle.layout.specs.Functions.{with_functions}
use Rattle.certs.specs.Fits.{fits}
use Rattle.certs.specs.ForeignFit.{foreign_fits}
use Rattle.certs.specs.ShapesFit.{shapes_fit}
use Rattle.certs.specs.declared.section.Section.{Section}
use Rattle.certificate.specs.Laws.{StayFitting}
use Rattle.recheck.specs.declared.edit.Edit.TheVariants as edit
use Rattle.recheck.specs.Edits.{kept_text, module_in, IsCode, IsPut, IsShapedSection}
use Rattle.recheck.specs.Fitting.{EditsKeepFitting, IsFitting}
use Rattle.recheck.specs.Session.{State}
use Rattle.replaced_fits.specs.Closed.{IsClosed}
use Rattle.replaced_fits.specs.ReplacedFits.{OthersStayFitting, PointersStay, ShapesStayFitting, ForeignStaysFitting}
use Rattle.edited_fits.specs.EditedFits.{EditsStayFitting}
use Rattle.edited_fits.proofs.ShapedRoots.{shaped}

module _ (stay : StayFitting) (others : OthersStayFitting) (pointers : PointersStay) (shapes_stay : ShapesStayFitting) (foreign_stays : ForeignStaysFitting) where
  code_fits : (s t : State) (func : ℕ) (code text : Text) (n : Module) (section : Section) → IsFitting s → IsClosed (module_in s) → IsCode (module_in s) func code n → IsShapedSection text n func section
      → IsPut s func n section t → IsFitting t
  code_fits s t func code text n section fit closed of_code of_text is_put =
      let m = module_in s in
      let is = of_code.0 in
      let with_own : shapes_fit m m.shapes ≡ true = subst (λ (x : Option Shapes). shapes_fit m x ≡ true) (sym fit.same) fit.shapes in
      let opaque = pointers m func code n is of_code.1 with_own in
      let trust = foreign_stays m func code n closed is opaque in
      let kept : n.shapes ≡ t.certs.shapes = sym (ap (λ (x : Module). x.shapes) is.2) ∙ fit.same ∙ sym is_put.shapes in
      record {
        sections = subst (λ (x : Module). fits x t.certs.sections ≡ true) (sym is_put.of_module)
            (stay text n func s.certs.sections t.certs.sections (section, of_text.0, sym is_put.certs) (others m s.certs.sections func code n closed fit.sections is opaque));
        shapes = subst (λ (x : Option Shapes). shapes_fit (module_in t) x ≡ true) kept
            (subst (λ (x : Module). shapes_fit x n.shapes ≡ true) (sym is_put.of_module) (shapes_stay m func code n closed is opaque (shaped n func of_text.1) with_own));
        same = ap (λ (x : Module). x.shapes) is_put.of_module ∙ kept;
        foreign = subst (λ (x : Outside). foreign_fits (module_in t) x ≡ true) (sym is_put.foreign)
            (subst (λ (x : Module). foreign_fits x s.certs.foreign ≡ true) (sym is_put.of_module) (trust.1 s.certs.foreign fit.foreign));
        trusted = ap (λ (x : Module). x.trusted) is_put.of_module ∙ trust.0 ∙ fit.trusted ∙ sym is_put.foreign;
      }

  pub edits_stay : EditsKeepFitting → EditsStayFitting
  edits_stay keep s (edit.Code name code) t fit closed is = code_fits s t is.0 code (kept_text s is.0) is.2.0 is.2.1 fit closed is.2.2.0 is.2.2.1 is.2.3
  edits_stay keep s (edit.Cert name text) t fit closed is =
      let same : module_in t ≡ module_in s = is.2.3.of_module ∙ sym is.2.2.0 in
      keep s (edit.Cert name text) t fit is (same ∙ ap (λ (x : Module). with_functions (module_in s) x.functions) (sym same))
  edits_stay keep s (edit.Both name code text) t fit closed is = code_fits s t is.0 code text is.2.0 is.2.1 fit closed is.2.2.0 is.2.2.1 is.2.3
