-- The first refusal among the answers is that of the module.
use Rattle.std.proofs.Common.{◌≡◌, ◌<◌, ℕ, zero, suc, List, [], ◌∷◌, length, slice_get, Option, Some, None, MatchOption, refl, ap, sym, subst, arith}
use Rattle.certs.specs.declared.section.Section.{Section}
use Rattle.layout.specs.Layouts.{LaidOut}
use Rattle.block_rules.specs.Functions.{blocks_in, IsFunctionCertified, IsFirstInFunction}
use Rattle.block_rules.specs.declared.block_fault.Refusal.{Refusal}
use Rattle.answers.specs.Answers.{AreAnswers, first_refusal}
use Rattle.module_check.specs.Accepted.{IsModuleCertified, IsFirstInModule, IsAccepted, IsFirstRefusal}
use Rattle.recheck.specs.Session.{IsAnswered}

-- where no answer is a refusal, each is none
none_each : (answers : List (Option Refusal)) → first_refusal answers ≡ None → (n : ℕ) → n < length answers → slice_get answers n ≡ Some None
none_each [] e n less = absurd (omega (arith, less))
none_each (None ∷ answers) e zero less = refl
none_each (None ∷ answers) e (suc n) less = none_each answers e n (omega (arith, less))
none_each (Some refusal ∷ answers) e n less = absurd cc

-- the first refusal has a place, and each answer before it is none
record IsFirstAt (answers : List (Option Refusal)) (refusal : Refusal) (place : ℕ) : Type 0 where
  here : slice_get answers place ≡ Some (Some refusal)
  within : place < length answers
  before : (n : ℕ) → n < place → slice_get answers n ≡ Some None

first_at : (answers : List (Option Refusal)) (refusal : Refusal) → first_refusal answers ≡ Some refusal → (place : ℕ) × IsFirstAt answers refusal place
first_at [] refusal e = absurd cc
first_at (None ∷ answers) refusal e =
    let later = first_at answers refusal e in (
      suc later.0,
      record {
        here = later.1.here;
        within = omega (arith, later.1.within);
        before = λ n less. earlier n later.0 less later.1;
      },
    )
  where
    earlier : (n : ℕ) → (place : ℕ) → n < suc place → IsFirstAt answers refusal place → slice_get (None ∷ answers) n ≡ Some None
    earlier zero place less first = refl
    earlier (suc n) place less first = first.before n (omega (arith, less))
first_at (Some other ∷ answers) refusal e = let same : other ≡ refusal = cc in (0, record { here = ap (λ r. Some (Some r)) same; within = omega arith; before = λ n less. absurd (omega (arith, less)) })

module _ (program : LaidOut) (certs : List Section) (answers : List (Option Refusal)) (are : AreAnswers program certs answers) where
  none_refused : first_refusal answers ≡ None → IsModuleCertified program certs (length program.of_module.functions)
  none_refused e func less = are.each func None (none_each answers e func (subst (λ count. func < count) (sym are.one_each) less))

  certified_at : (func : ℕ) → slice_get answers func ≡ Some None → IsFunctionCertified program certs func
  certified_at func at = are.each func None at

  refused_at : (refusal : Refusal) (place : ℕ) → IsFirstAt answers refusal place → IsFirstInModule program certs (length program.of_module.functions) refusal
  refused_at refusal place first =
      let refused : IsFirstInFunction program certs place (blocks_in program place) refusal = are.each place (Some refusal) first.here in
      let here : place ≡ refusal.func = sym refused.of_function in
      record {
        within = subst (λ count. refusal.func < count) are.one_each (subst (λ func. func < length answers) here first.within);
        refused = subst (λ func. IsFirstInFunction program certs func (blocks_in program func) refusal) here refused;
        before = λ func less. certified_at func (first.before func (subst (λ n. func < n) (sym here) less));
      }

-- the first refusal among the answers, or none, is what the check finds
pub answered_verdict : (program : LaidOut) (certs : List Section) (answers : List (Option Refusal)) (found : Option Refusal) → IsAnswered program certs answers → found ≡ first_refusal answers
    → MatchOption found (IsAccepted program.of_module certs) (IsFirstRefusal program.of_module certs)
answered_verdict program certs answers None kept e = record {
  layouts = program.layouts;
  sizes = program.sizes;
  laid_out = kept.laid_out;
  sized = kept.sized;
  certified = none_refused program certs answers kept.are_answers (sym e);
}
answered_verdict program certs answers (Some refusal) kept e =
    let first = first_at answers refusal (sym e) in
    record {
      layouts = program.layouts;
      sizes = program.sizes;
      laid_out = kept.laid_out;
      sized = kept.sized;
      first = refused_at program certs answers kept.are_answers refusal first.0 first.1;
    }
