-- Sections of which one is replaced: the others fit as they did.
use Rattle.std.proofs.Common.{◌≡◌, ◌∙◌, ℕ, zero, suc, List, [], ◌∷◌, Bool, Option, Some, None, true, ◌&&◌, length, refl, sym}
use Rattle.std.specs.Prelude.{◌==◌, slice_set}
use Rattle.std.specs.List.{list_all, zip}
use Rattle.std.proofs.lemmas.List.{length-set}
use Rattle.lemmas.specs.Bools.{and_first, and_second, and_true}
use Rattle.lemmas.specs.Numbers.{test_true, test_yes}
use Rattle.ir_ast.specs.declared.function.Function.{Function}
use Rattle.ir_ast.specs.declared.module.Module.{Module}
use Rattle.certs.specs.Fits.{section_fits}
use Rattle.certs.specs.declared.section.Mark.TheVariants.{May}
use Rattle.certs.specs.Plain.{plain_section, plain_section_fits}
use Rattle.certs.specs.declared.section.Section.{Section}
use Rattle.ir_text.specs.Replaced.{put_function}

-- ---- one of the sections is another one

module _ (test : Function × Section → Bool) where
  -- another function with a section for which the test holds
  all_with : (functions : List Function) (sections : List Section) (i : ℕ) (f : Function) (section : Section) → test (f, section) ≡ true → list_all test (zip functions sections) ≡ true
      → list_all test (zip (slice_set functions i f) (slice_set sections i section)) ≡ true
  all_with [] sections i f section one h = refl
  all_with (g ∷ functions) [] zero f section one h = refl
  all_with (g ∷ functions) [] (suc i) f section one h = refl
  all_with (g ∷ functions) (x ∷ sections) zero f section one h = and_true (test (f, section)) (list_all test (zip functions sections)) one (and_second (test (g, x)) (list_all test (zip functions sections)) h)
  all_with (g ∷ functions) (x ∷ sections) (suc i) f section one h =
      and_true (test (g, x)) (list_all test (zip (slice_set functions i f) (slice_set sections i section))) (and_first (test (g, x)) (list_all test (zip functions sections)) h)
      (all_with functions sections i f section one (and_second (test (g, x)) (list_all test (zip functions sections)) h))

  -- the same functions, with the section that was there
  all_same : (functions : List Function) (sections : List Section) (i : ℕ) (past : Section) → list_all test (zip functions sections) ≡ true → (section : Section) × (list_all test (zip functions (slice_set sections i section)) ≡ true)
  all_same functions [] i past h = (past, h)
  all_same functions (x ∷ sections) zero past h = (x, h)
  all_same [] (x ∷ sections) (suc i) past h = (past, refl)
  all_same (f ∷ functions) (x ∷ sections) (suc i) past h =
      let rest = all_same functions sections i past (and_second (test (f, x)) (list_all test (zip functions sections)) h) in
      (rest.0, and_true (test (f, x)) (list_all test (zip functions (slice_set sections i rest.0))) (and_first (test (f, x)) (list_all test (zip functions sections)) h) rest.1)

-- whether sections are those of these functions of a module
abbrev pub fit_each : Module → List Function → List Section → Bool
fit_each m fs ss = (length ss == length fs) && list_all (λ p. section_fits m p.0 p.1) (zip fs ss)

-- with another function in the place of one, all fit with some section of it
pub others_fit : (m : Module) (func : ℕ) (put : Option Function) (fs : List Function) (ss : List Section) → fit_each m fs ss ≡ true
    → (section : Section) × (fit_each m (put_function func put fs) (slice_set ss func section) ≡ true)
others_fit m func put fs ss fit = by put where
  many : length ss ≡ length fs
  many = test_true (length ss) (length fs) (and_first (length ss == length fs) (list_all (λ p. section_fits m p.0 p.1) (zip fs ss)) fit)

  each : list_all (λ p. section_fits m p.0 p.1) (zip fs ss) ≡ true
  each = and_second (length ss == length fs) (list_all (λ p. section_fits m p.0 p.1) (zip fs ss)) fit

  by : (put : Option Function) → (section : Section) × (fit_each m (put_function func put fs) (slice_set ss func section) ≡ true)
  by None =
      let found = all_same (λ p. section_fits m p.0 p.1) fs ss func (record { mark = May; parameters = []; result = None; blocks = [] }) each in
      let long = length-set ss func found.0 ∙ many in
      (found.0, and_true (length (slice_set ss func found.0) == length fs) (list_all (λ p. section_fits m p.0 p.1) (zip fs (slice_set ss func found.0))) (test_yes (length (slice_set ss func found.0)) (length fs) long) found.1)
  by (Some f) =
      let long = length-set ss func (plain_section f) ∙ many ∙ sym (length-set fs func f) in (
        plain_section f,
        and_true (length (slice_set ss func (plain_section f)) == length (slice_set fs func f)) (list_all (λ p. section_fits m p.0 p.1) (zip (slice_set fs func f) (slice_set ss func (plain_section f))))
            (test_yes (length (slice_set ss func (plain_section f))) (length (slice_set fs func f)) long)
            (all_with (λ p. section_fits m p.0 p.1) fs ss func f (plain_section f) (plain_section_fits m f) each),
      )
