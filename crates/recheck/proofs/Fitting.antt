-- Sections that fit a module fit it where one function or its section is replaced.
use Rattle.std.proofs.Common.{◌≡◌, ◌∙◌, ℕ, zero, suc, List, [], ◌∷◌, Bool, Option, Some, None, true, length, refl, sym, ap, subst}
use Rattle.std.specs.Prelude.{◌==◌, slice_get, slice_set}
use Rattle.std.specs.List.{list_all, zip}
use Rattle.std.proofs.lemmas.List.{length-set}
use Rattle.lemmas.specs.Bools.{and_first, and_second, and_true}
use Rattle.lemmas.specs.Numbers.{test_true, test_yes}
use Rattle.ir_ast.specs.declared.function.Function.{Function}
use Rattle.ir_ast.specs.declared.module.Module.{Module}
use Rattle.ir_ast.specs.declared.outside.Outside.{Outside}
use Rattle.ir_ast.specs.declared.shapes.Shapes.{Shapes}
use Rattle.ir_tokens.specs.Bytes.{Text}
use Rattle.certs.specs.Fits.{fits, section_fits}
use Rattle.certs.specs.ForeignFit.{foreign_fits, foreign_same}
use Rattle.certs.specs.ShapesFit.{shapes_fit}
use Rattle.certs.specs.Plain.{plain_section, plain_section_fits}
use Rattle.certs.specs.declared.section.Section.{Section}
use Rattle.certificate.specs.Anew.{IsSection}
use Rattle.certificate.specs.Laws.{StayFitting}
use Rattle.certificate.specs.Replaced.{FitOthers}
use Rattle.recheck.specs.declared.edit.Edit.{Edit}
use Rattle.recheck.specs.declared.edit.Edit.TheVariants as edit
use Rattle.ir_text.specs.Replaced.{IsReplaced, put_function}
use Rattle.layout.specs.Functions.{with_functions}
use Rattle.answers.specs.Laws.{FitAlone, RootsFitAlone}
use Rattle.recheck.specs.Edits.{kept_text, module_in, IsReadAt, IsPut, IsShapedSection}
use Rattle.recheck.specs.RootShapes.{missing_root}
use Rattle.recheck.specs.Fitting.{EditsKeepFitting, IsFitting}
use Rattle.recheck.specs.Session.{State}
use Rattle.recheck.proofs.FittingShapes.{shapes_put}

-- ---- one of the sections is another one

module _ (test : Function × Section → Bool) where
  -- the same sections, with one put where it was
  all_same : (functions : List Function) (sections : List Section) (i : ℕ) (past : Section) → list_all test (zip functions sections) ≡ true → (section : Section) × (list_all test (zip functions (slice_set sections i section)) ≡ true)
  all_same functions [] i past h = (past, h)
  all_same functions (x ∷ sections) zero past h = (x, h)
  all_same [] (x ∷ sections) (suc i) past h = (past, refl)
  all_same (f ∷ functions) (x ∷ sections) (suc i) past h =
      let rest = all_same functions sections i past (and_second (test (f, x)) (list_all test (zip functions sections)) h) in
      (rest.0, and_true (test (f, x)) (list_all test (zip functions (slice_set sections i rest.0))) (and_first (test (f, x)) (list_all test (zip functions sections)) h) rest.1)

  -- another function with a section for which the test holds
  all_with : (functions : List Function) (sections : List Section) (i : ℕ) (f : Function) (section : Section) → test (f, section) ≡ true → list_all test (zip functions sections) ≡ true
      → list_all test (zip (slice_set functions i f) (slice_set sections i section)) ≡ true
  all_with [] sections i f section one h = refl
  all_with (g ∷ functions) [] zero f section one h = refl
  all_with (g ∷ functions) [] (suc i) f section one h = refl
  all_with (g ∷ functions) (x ∷ sections) zero f section one h = and_true (test (f, section)) (list_all test (zip functions sections)) one (and_second (test (g, x)) (list_all test (zip functions sections)) h)
  all_with (g ∷ functions) (x ∷ sections) (suc i) f section one h =
      and_true (test (g, x)) (list_all test (zip (slice_set functions i f) (slice_set sections i section))) (and_first (test (g, x)) (list_all test (zip functions sections)) h)
      (all_with functions sections i f section one (and_second (test (g, x)) (list_all test (zip functions sections)) h))

-- whether a section fits a function, as a test of both
abbrev pair_fits : Module → Function × Section → Bool
pair_fits m p = section_fits m p.0 p.1

module _ (alone : FitAlone) (m : Module) (certs : List Section) (func : ℕ) (fit : fits m certs ≡ true) where
  many : length certs ≡ length m.functions
  many = test_true (length certs) (length m.functions) (and_first (length certs == length m.functions) (list_all (pair_fits m) (zip m.functions certs)) fit)

  each : list_all (pair_fits m) (zip m.functions certs) ≡ true
  each = and_second (length certs == length m.functions) (list_all (pair_fits m) (zip m.functions certs)) fit

  -- with these functions the tests are the same
  module _ (fs : List Function) where
    tests : pair_fits m ≡ pair_fits (with_functions m fs)
    tests = λ along p. sym (alone m fs p.0 p.1) along

    as_all : (sections : List Section) → length sections ≡ length fs → list_all (pair_fits m) (zip fs sections) ≡ true → fits (with_functions m fs) sections ≡ true
    as_all sections long h = and_true (length sections == length fs) (list_all (pair_fits (with_functions m fs)) (zip fs sections)) (test_yes (length sections) (length fs) long)
        (subst (λ (test : Function × Section → Bool). list_all test (zip fs sections) ≡ true) tests h)

  -- the others fit with some section of the function
  others : (put : Option Function) (past : Section) → FitOthers (with_functions m (put_function func put m.functions)) func certs
  others None past =
      let found = all_same (pair_fits m) m.functions certs func past each in
      (found.0, as_all m.functions (slice_set certs func found.0) (length-set certs func found.0 ∙ many) found.1)
  others (Some f) past = (
    plain_section f,
    as_all (slice_set m.functions func f) (slice_set certs func (plain_section f)) (length-set certs func (plain_section f) ∙ many ∙ sym (length-set m.functions func f))
        (all_with (pair_fits m) m.functions certs func f (plain_section f) (plain_section_fits m f) each),
  )

-- ---- after an edit

-- what an edit of a function puts in its place, and the text of the section
record Puts (m : Module) (func : ℕ) (n : Module) (section : Section) : Type 0 where
  put : Option Function
  functions : n.functions ≡ put_function func put m.functions
  text : Text
  read : IsSection text n func section
  none_missing : missing_root n func ≡ None

puts_code : (m : Module) (func : ℕ) (code text : Text) (n : Module) (section : Section) → IsReplaced m func code n → IsShapedSection text n func section → Puts m func n section
puts_code m func code text n section is of_text =
    record { put = slice_get is.0.functions 0; functions = sym (ap (λ (x : Module). x.functions) is.2); text = text; read = of_text.0; none_missing = of_text.1 }

puts : (s : State) (func : ℕ) (e : Edit) (n : Module) (section : Section) → IsReadAt s func e n section → Puts (module_in s) func n section
puts s func (edit.Code name code) n section is = puts_code (module_in s) func code (kept_text s func) n section is.0.0 is.1
puts s func (edit.Cert name text) n section is = record { put = None; functions = ap (λ (x : Module). x.functions) (sym is.0); text = text; read = is.1.0; none_missing = is.1.1 }
puts s func (edit.Both name code text) n section is = puts_code (module_in s) func code text n section is.0.0 is.1

module _ (s t : State) (func : ℕ) (n : Module) (section : Section) (put : Puts (module_in s) func n section) (is : IsPut s func n section t) (same : module_in t ≡ with_functions (module_in s) (module_in t).functions) where
  -- the module with what is put in its place
  is_with : n ≡ with_functions (module_in s) (put_function func put.put (module_in s).functions)
  is_with = sym is.of_module ∙ same ∙ ap (with_functions (module_in s)) (ap (λ (x : Module). x.functions) is.of_module ∙ put.functions)

  sections_fitting : StayFitting → FitAlone → fits (module_in s) s.certs.sections ≡ true → fits (module_in t) t.certs.sections ≡ true
  sections_fitting stay alone fit =
      subst (λ (x : Module). fits x t.certs.sections ≡ true) (sym is.of_module)
      (stay put.text n func s.certs.sections t.certs.sections (section, put.read, sym is.certs)
      (subst (λ (x : Module). FitOthers x func s.certs.sections) (sym is_with) (others alone (module_in s) s.certs.sections func fit put.put section)))

  shapes_fitting : RootsFitAlone → shapes_fit (module_in s) s.certs.shapes ≡ true → (module_in s).shapes ≡ s.certs.shapes → shapes_fit (module_in t) t.certs.shapes ≡ true
  shapes_fitting alone fit are =
      let here = subst (λ (x : Module). missing_root x func ≡ None) is_with put.none_missing in
      subst (λ (x : Option Shapes). shapes_fit (module_in t) x ≡ true) (sym is.shapes)
      (subst (λ (x : Module). shapes_fit x s.certs.shapes ≡ true) (sym (is.of_module ∙ is_with)) (shapes_put alone (module_in s) func put.put s.certs.shapes are fit here))

  foreign_fitting : foreign_fits (module_in s) s.certs.foreign ≡ true → foreign_fits (module_in t) t.certs.foreign ≡ true
  foreign_fitting fit =
      subst (λ (x : Outside). foreign_fits (module_in t) x ≡ true) (sym is.foreign)
      (subst (λ (x : Module). foreign_fits x s.certs.foreign ≡ true) (sym same)
      (foreign_same (module_in s) (with_functions (module_in s) (module_in t).functions) refl (λ d. refl) refl refl s.certs.foreign ∙ fit))

  fitting_with : StayFitting → FitAlone → RootsFitAlone → IsFitting s → IsFitting t
  fitting_with stay alone roots fit = record {
    sections = sections_fitting stay alone fit.sections;
    shapes = shapes_fitting roots fit.shapes fit.same;
    same = ap (λ (x : Module). x.shapes) same ∙ fit.same ∙ sym is.shapes;
    foreign = foreign_fitting fit.foreign;
    trusted = ap (λ (x : Module). x.trusted) same ∙ fit.trusted ∙ sym is.foreign;
  }

pub fitting : StayFitting → FitAlone → RootsFitAlone → EditsKeepFitting
fitting stay alone roots s e t fit edited same =
    fitting_with s t edited.0 edited.2.0 edited.2.1 (puts s edited.0 e edited.2.0 edited.2.1 edited.2.2) edited.2.3 same stay alone roots fit
