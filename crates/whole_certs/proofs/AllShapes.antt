-- Certificates are whole exactly where they fit and have all shapes.
use Rattle.std.proofs.Common.{◌≡◌, Bool, true, false, not, ◌&&◌, Option, Some, None, refl, ap, subst, sym, ◌∙◌}
use Rattle.std.specs.Prelude.{◌↔◌, IfOk, Ok, Err}
use Rattle.std.specs.declared.result.Result.{Result}
use Rattle.lemmas.specs.Bools.{and_first, and_second, and_true, not_true}
use Rattle.ir_ast.specs.declared.module.Module.{Module}
use Rattle.ir_ast.specs.declared.shapes.Shapes.{Shapes}
use Rattle.certs.specs.Families.{is_opaque_text}
use Rattle.certs.specs.Fits.{fits}
use Rattle.certs.specs.ForeignFit.{foreign_fits}
use Rattle.certs.specs.ShapesFit.{all_shapes_fit, shapes_fit}
use Rattle.certs.specs.declared.certs.Certs.{Certs}
use Rattle.certificate.specs.Alike.{HasWordShapes, HasRootShapes, are_whole}
use Rattle.whole_certs.specs.Whole.{AreWhole}

-- shapes that are whole fit
shapes_of_whole : (m : Module) (shapes : Option Shapes) → are_whole m shapes → shapes_fit m shapes ≡ true
shapes_of_whole m None whole = ap not whole
shapes_of_whole m (Some shapes) whole = and_true (is_opaque_text m) (all_shapes_fit m shapes) whole.0 whole.1

module _ (m : Module) (certs : Certs) where
  -- the sections and the shapes fit
  abbrev own : Bool
  own = fits m certs.sections && shapes_fit m certs.shapes

  -- and so do the functions outside
  abbrev do_fit : Bool
  do_fit = own && foreign_fits m certs.foreign

  sections_do : do_fit ≡ true → fits m certs.sections ≡ true
  sections_do fit = and_first (fits m certs.sections) (shapes_fit m certs.shapes) (and_first own (foreign_fits m certs.foreign) fit)

  foreign_do : do_fit ≡ true → foreign_fits m certs.foreign ≡ true
  foreign_do fit = and_second own (foreign_fits m certs.foreign) fit

  shapes_do : (shapes : Option Shapes) → certs.shapes ≡ shapes → do_fit ≡ true → shapes_fit m shapes ≡ true
  shapes_do shapes is fit = subst (λ (x : Option Shapes). shapes_fit m x ≡ true) is (and_second (fits m certs.sections) (shapes_fit m certs.shapes) (and_first own (foreign_fits m certs.foreign) fit))

  -- those that do not fit are not whole
  pub not_whole : do_fit ≡ false → ((false ≡ true) ↔ AreWhole m certs)
  not_whole unfit = (
    λ (e : false ≡ true). absurd cc,
    λ (whole : AreWhole m certs).
        let mine : own ≡ true = and_true (fits m certs.sections) (shapes_fit m certs.shapes) whole.0 (shapes_of_whole m certs.shapes whole.2) in
        sym unfit ∙ and_true own (foreign_fits m certs.foreign) mine whole.1,
  )

  -- those that fit without shapes are
  pub whole_without : do_fit ≡ true → certs.shapes ≡ None → ((true ≡ true) ↔ AreWhole m certs)
  whole_without fit none =
      let typed : are_whole m None = not_true (is_opaque_text m) (shapes_do None none fit) in
      let whole : are_whole m certs.shapes = subst (λ (x : Option Shapes). are_whole m x) (sym none) typed in
      (λ (e : true ≡ true). (sections_do fit, foreign_do fit, whole), λ (h : AreWhole m certs). refl)

  -- those with shapes are where they have all
  whole_with : (shapes : Shapes) (has : Bool) → do_fit ≡ true → certs.shapes ≡ Some shapes → ((has ≡ true) ↔ (HasWordShapes m shapes × HasRootShapes m shapes)) → ((has ≡ true) ↔ AreWhole m certs)
  whole_with shapes has fit some all = (there, back)
    where
      parts : shapes_fit m (Some shapes) ≡ true
      parts = shapes_do (Some shapes) some fit

      there : has ≡ true → AreWhole m certs
      there is =
          let both = all.0 is in
          let whole : are_whole m (Some shapes) = (and_first (is_opaque_text m) (all_shapes_fit m shapes) parts, and_second (is_opaque_text m) (all_shapes_fit m shapes) parts, both.0, both.1) in
          (sections_do fit, foreign_do fit, subst (λ (x : Option Shapes). are_whole m x) (sym some) whole)

      back : AreWhole m certs → has ≡ true
      back h = let whole : are_whole m (Some shapes) = subst (λ (x : Option Shapes). are_whole m x) some h.2 in all.1 (whole.2, whole.3)

  -- so it is of what is found of their shapes, where memory is not refused
  pub whole_found : {E : Type 0} (shapes : Shapes) (found : Result Bool E) → do_fit ≡ true → certs.shapes ≡ Some shapes → IfOk found (λ has. (has ≡ true) ↔ (HasWordShapes m shapes × HasRootShapes m shapes)) → IfOk found (λ has. (has ≡ true) ↔ AreWhole m certs)
  whole_found shapes (Ok has) fit some all = whole_with shapes has fit some all
  whole_found shapes (Err refused) fit some all = tt

module _ (m : Module) (shapes : Shapes) (has : Bool) (words : (has ≡ true) ↔ HasWordShapes m shapes) where
  -- a shape of a word is missing, or there is one too many
  pub words_lack : has ≡ false → ((false ≡ true) ↔ (HasWordShapes m shapes × HasRootShapes m shapes))
  words_lack lacks = (λ (e : false ≡ true). absurd cc, λ (both : HasWordShapes m shapes × HasRootShapes m shapes). sym lacks ∙ words.1 both.0)

  -- the words have theirs
  pub words_and_roots : {E : Type 0} (found : Result Bool E) → has ≡ true → IfOk found (λ roots. (roots ≡ true) ↔ HasRootShapes m shapes) → IfOk found (λ all. (all ≡ true) ↔ (HasWordShapes m shapes × HasRootShapes m shapes))
  words_and_roots (Ok roots) is each = (λ (e : roots ≡ true). (words.0 is, each.0 e), λ (both : HasWordShapes m shapes × HasRootShapes m shapes). each.1 both.1)
  words_and_roots (Err refused) is each = tt
