-- The tables of a module in which one function is replaced have grown.
use Rattle.std.proofs.Common.{◌≡◌, ◌∙◌, ℕ, zero, suc, Bool, true, false, ◌&&◌, ◌==◌, List, [], ◌∷◌, length, slice_get, is_none, is_some, unwrap_or, Option, Some, None, refl, sym, ap, subst}
use Rattle.std.specs.Prelude.{slice_set}
use Rattle.std.specs.List.{list_all, zip}
use Rattle.lemmas.specs.Lists.{any_at}
use Rattle.lemmas.specs.Bools.{and_first, and_parts, and_true, not_true}
use Rattle.ir_ast.specs.Places.{is_some-position}
use Rattle.ir_ast.specs.TypePlaces.{stands}
use Rattle.ir_ast.specs.Types.{is_same_type, place_of_type}
use Rattle.ir_ast.specs.declared.function.Function.{Function}
use Rattle.ir_ast.specs.declared.ir_type.IrType.TheVariants as type
use Rattle.ir_ast.specs.declared.module.Module.{Module}
use Rattle.ir_ast.specs.declared.outside.Outside.{Outside}
use Rattle.ir_ast.specs.declared.shapes.Shapes.{Shapes}
use Rattle.ir_tokens.specs.Bytes.{Text}
use Rattle.ir_text.specs.Replaced.{IsReplaced, put_function}
use Rattle.ir_text.specs.declared.anew.Replacement.{Replacement}
use Rattle.ir_print_law.specs.Growing.{ReplacingKeepsTables, TablesStay}
use Rattle.layout.specs.Layouts.{wants_shapes}
use Rattle.types.specs.References.{struct_in, struct_in_is}
use Rattle.types.specs.RuntimeCall.{is_outside_declare}
use Rattle.certs.specs.Families.{is_opaque_text}
use Rattle.certs.specs.Fits.{fits, section_fits}
use Rattle.certs.specs.ForeignFit.{foreign_fits, functions_fit, functions_same}
use Rattle.certs.specs.NumbersFit.{numbers_fit}
use Rattle.certs.specs.ShapesFit.{all_shapes_fit, roots_fit, shapes_fit}
use Rattle.certs.specs.declared.section.Section.{Section}
use Rattle.certificate.specs.Replaced.{FitOthers}
use Rattle.replaced_fits.specs.Closed.{IsClosed}
use Rattle.replaced_fits.specs.ReplacedFits.{AreRootsShaped}
use Rattle.replaced_fits.proofs.GrownFamilies.{Grows}
use Rattle.replaced_fits.proofs.GrownSections.{sections_imply}
use Rattle.replaced_fits.proofs.GrownNumbers.{numbers_imply}
use Rattle.replaced_fits.proofs.GrownShapes.{shapes_imply}
use Rattle.replaced_fits.proofs.Implies.{both_imply, itself}
use Rattle.replaced_fits.proofs.Plain.{fit_each, others_fit}

-- ---- one of the functions is another one

module _ (test : Function → Bool) where
  all_set : (fs : List Function) (i : ℕ) (f : Function) → (slice_get (slice_set fs i f) i ≡ Some f → test f ≡ true) → list_all test fs ≡ true → list_all test (slice_set fs i f) ≡ true
  all_set [] i f one h = refl
  all_set (g ∷ fs) zero f one h = let parts = and_parts (test g) (list_all test fs) h in and_true (test f) (list_all test fs) (one refl) parts.1
  all_set (g ∷ fs) (suc i) f one h = let parts = and_parts (test g) (list_all test fs) h in and_true (test g) (list_all test (slice_set fs i f)) parts.0 (all_set fs i f one parts.1)

  -- all pass where the one that is put there does
  all_put : (put : Option Function) (fs : List Function) (i : ℕ) → ((f : Function) → slice_get (put_function i put fs) i ≡ Some f → test f ≡ true) → list_all test fs ≡ true → list_all test (put_function i put fs) ≡ true
  all_put None fs i one h = h
  all_put (Some f) fs i one h = all_set fs i f (one f) h

-- ---- the module with the function

module _ (grown : ReplacingKeepsTables) (m : Module) (func : ℕ) (code : Text) (n : Module) (is : IsReplaced m func code n) where
  stay : TablesStay m n
  stay = grown m func code n is

  sorts_same : n.sorts ≡ m.sorts
  sorts_same = sym (ap (λ (x : Module). x.sorts) is.2) ∙ sym (ap (λ (a : Replacement). a.tables.sorts) is.1.3.3)

  shapes_same : n.shapes ≡ m.shapes
  shapes_same = sym (ap (λ (x : Module). x.shapes) is.2)

  declares_same : n.declares ≡ m.declares
  declares_same = sym (ap (λ (x : Module). x.declares) is.2)

  wide_same : n.wide ≡ m.wide
  wide_same = sym (ap (λ (x : Module). x.wide) is.2)

  grows : is_opaque_text n ≡ is_opaque_text m → Grows m n
  grows opaque = record {
    types = stay.types;
    names = λ name. struct_in_is (slice_get n.struct_of name) ∙ stay.names name ∙ sym (struct_in_is (slice_get m.struct_of name));
    structs = stay.structs;
    globals = sym (ap (λ (x : Module). x.globals) is.2);
    declares = declares_same;
    sorts = sorts_same;
    shapes = shapes_same;
    opaque = opaque;
    wide = wide_same;
  }

  -- the same functions outside are trusted, and may be; the same layouts have numbers, and may have
  pub foreign_stay : IsClosed m → is_opaque_text n ≡ is_opaque_text m → (n.trusted ≡ m.trusted) × ((foreign : Outside) → foreign_fits m foreign ≡ true → foreign_fits n foreign ≡ true)
  foreign_stay closed opaque = (
    sym (ap (λ (x : Module). x.trusted) is.2),
    λ foreign. both_imply (functions_fit m foreign.functions) (numbers_fit m foreign.numbers) (functions_fit n foreign.functions) (numbers_fit n foreign.numbers)
        (λ fit. functions_same m n sorts_same (λ d. ap (λ x. is_outside_declare (slice_get x d)) declares_same) wide_same foreign.functions ∙ fit)
        (numbers_imply m n (grows opaque) closed foreign.numbers),
  )

  -- the functions are the module's, but for the one that is put in its place
  abbrev put : Option Function
  put = slice_get is.0.functions 0

  functions_are : n.functions ≡ put_function func put m.functions
  functions_are = sym (ap (λ (x : Module). x.functions) is.2)

  -- a text that writes `ptr` writes it still
  opaque_stays : is_opaque_text m ≡ true → is_opaque_text n ≡ true
  opaque_stays h = by (place_of_type type.Opaque m.types) refl h where
    by : (place : Option ℕ) → place_of_type type.Opaque m.types ≡ place → is_some place ≡ true → is_opaque_text n ≡ true
    by None e t = absurd cc
    by (Some k) e t =
        let there = stay.types k type.Opaque (stands type.Opaque m.types k e) in
        is_some-position (is_same_type type.Opaque) n.types ∙ any_at (is_same_type type.Opaque) n.types k type.Opaque there refl

  -- where no shapes are wanted, the text writes `ptr` if it did before
  pub pointers_by : (shapes : Option Shapes) → m.shapes ≡ shapes → wants_shapes n ≡ false → shapes_fit m shapes ≡ true → is_opaque_text n ≡ is_opaque_text m
  pointers_by None same unwanted fit =
      let none : is_none n.shapes ≡ true = ap is_none (shapes_same ∙ same) in
      let after : is_opaque_text n ≡ false = sym (ap (λ b. b && is_opaque_text n) none) ∙ unwanted in
      after ∙ sym (not_true (is_opaque_text m) fit)
  pointers_by (Some given) same unwanted fit =
      let before = and_first (is_opaque_text m) (all_shapes_fit m given) fit in
      opaque_stays before ∙ sym before

  -- with some section of the new function the sections fit
  pub others : IsClosed m → (certs : List Section) → fits m certs ≡ true → is_opaque_text n ≡ is_opaque_text m → FitOthers n func certs
  others closed certs fit opaque =
      let here : fit_each n m.functions certs ≡ true =
      both_imply (length certs == length m.functions) (list_all (λ p. section_fits m p.0 p.1) (zip m.functions certs)) (length certs == length m.functions) (list_all (λ p. section_fits n p.0 p.1) (zip m.functions certs))
      (itself (length certs == length m.functions)) (sections_imply m n (grows opaque) closed m.functions certs closed.functions) fit in
      let found = others_fit n func put m.functions certs here in
      (found.0, subst (λ fs. fit_each n fs (slice_set certs func found.0) ≡ true) (sym functions_are) found.1)

  -- where the root slots of the function that is put there have shapes, the shapes fit
  pub shapes_stay_by : IsClosed m → is_opaque_text n ≡ is_opaque_text m → AreRootsShaped n func → shapes_fit m m.shapes ≡ true → shapes_fit n n.shapes ≡ true
  shapes_stay_by closed opaque shaped fit =
      subst (λ (x : Option Shapes). shapes_fit n x ≡ true) (sym shapes_same)
      (shapes_imply m n (grows opaque) closed m.shapes
      (λ given same pass. subst (λ fs. list_all (roots_fit n given) fs ≡ true) (sym functions_are) (all_put (roots_fit n given) put m.functions func (own given same) pass)) fit) where
        own : (given : Shapes) → m.shapes ≡ Some given → (f : Function) → slice_get (put_function func put m.functions) func ≡ Some f → roots_fit n given f ≡ true
        own given same f at = shaped given f (shapes_same ∙ same) (ap (λ fs. slice_get fs func) functions_are ∙ at)
