-- A section that is read anew fits its function, and certificates in which it replaces another section fit the module.
use Rattle.std.proofs.Common.{◌≡◌, ℕ, true, List, [], ◌∷◌, length, slice_get, slice_set, codes, Option, Some, None, refl, ap, sym, subst, ◌∙◌}
use Rattle.std.specs.Prelude.{◌==◌, Bool}
use Rattle.std.specs.List.{list_all, zip}
use Rattle.std.proofs.lemmas.Bool.{eq-eqb, eqb-true}
use Rattle.std.proofs.lemmas.List.{length-set, set-set}
use Rattle.lemmas.specs.Bools.{and_true, and_first, and_second}
use Rattle.ir_ast.specs.declared.function.Function.{Function}
use Rattle.ir_ast.specs.declared.module.Module.{Module}
use Rattle.ir_tokens.specs.Bytes.{Text}
use Rattle.certs.specs.Fits.{section_fits, fits}
use Rattle.certs.specs.declared.section.Section.{Section}
use Rattle.certificate.specs.Input.{Input}
use Rattle.certificate.specs.Text.{gap_in, section_of}
use Rattle.certificate.specs.Anew.{start_anew, own_name, own_section, only_kept, whole_by, kept_by, finished_anew, file_anew, IsSection}
use Rattle.certificate.specs.Laws.{StayFitting}
use Rattle.certificate.specs.declared.mistake.Mistake.{Mistake}
use Rattle.certificate.specs.declared.progress.Kept.{Kept}
use Rattle.certificate.proofs.Between.{all_set_zip}
use Rattle.certificate.proofs.ReadFits.{section_read}
use Rattle.certificate.proofs.ReadWords.{still, Still, still_skip, still_expect}

still_own_name : (m : Module) (function : ℕ) → Still (own_name m function)
unfolding own_name
still_own_name m function i u o h = ap still h.2.1 ∙ still_skip h.1 u o h.3

-- where nothing is missing, what is read is what is kept
is_kept : (gap : Option Mistake) (own : Section) (i : Input) (s : Section) (o : Input) → (whole_by gap own).says i s o → own ≡ s
is_kept None own i s o h = h.0
is_kept (Some gap) own i s o h = absurd h

fits_of : (m : Module) (function : ℕ) (f : Function) (i : Input) (u : Unit {0}) (o end : Input) (s : Section) (last : Input)
    → None ∷ [] ≡ i.read.sections → (section_of m 0 f).says i u o → o ≡ end → (finished_anew function).says end s last → section_fits m f s ≡ true
unfolding finished_anew
fits_of m function f i u o end s last start said same done =
    let read = section_read m 0 f i u o said in
    let k : Kept = read.0 in
    let is : Some k ∷ [] ≡ end.read.sections = ap (λ x. slice_set x 0 (Some k)) start ∙ read.2 ∙ ap (λ (x : Input). x.read.sections) same in
    let kept : (kept_by function (Some k)).says end s last = subst (λ x. (kept_by function (only_kept x)).says end s last) (sym is) done in
    subst (λ x. section_fits m f x ≡ true) (is_kept (gap_in function k.missing) k.section end s last kept) read.1

-- the section is one of a function of the module, which it fits
anew_fits : (bytes : Text) (m : Module) (function : ℕ) (s : Section) → IsSection bytes m function s
    → (f : Function) × (slice_get m.functions function ≡ Some f) × (section_fits m f s ≡ true)
unfolding file_anew
anew_fits bytes m function s h = by (slice_get m.functions function) refl h.1.3.3.2
  where
    by : (x : Option Function) → slice_get m.functions function ≡ x → (own_section m x).says h.1.3.1 h.1.3.3.0 h.1.3.3.1
        → (f : Function) × (slice_get m.functions function ≡ Some f) × (section_fits m f s ≡ true)
    by None at said = absurd said
    by (Some f) at said =
        let a = h.1 in
        let b = a.3 in
        let c = b.3 in
        let d = c.3 in
        let same = still_expect (codes "function") (start_anew bytes) a.0 a.1 a.2 ∙ still_own_name m function a.1 b.0 b.1 b.2 in
        (f, at, fits_of m function f b.1 c.0 c.1 d.1 s h.0 (ap (λ (x : Input). x.read.sections) same) said d.2.1 d.3)

abbrev all_fit : Module → List Section → Bool
all_fit m certs = list_all (λ p. section_fits m p.0 p.1) (zip m.functions certs)

-- with another section that fits they still fit
replaced_fits : (m : Module) (function : ℕ) (f : Function) (certs : List Section) (old new : Section) → slice_get m.functions function ≡ Some f → section_fits m f new ≡ true
    → fits m (slice_set certs function old) ≡ true → fits m (slice_set certs function new) ≡ true
replaced_fits m function f certs old new at here h =
    let with_old = slice_set certs function old in
    let with_new = slice_set certs function new in
    let many = length m.functions in
    let count = eqb-true (length with_old) many (and_first (length with_old == many) (all_fit m with_old) h) in
    let all = all_set_zip (λ p. section_fits m p.0 p.1) m.functions with_old function f new at (and_second (length with_old == many) (all_fit m with_old) h) here in
    let same_count : length with_new ≡ many = length-set certs function new ∙ sym (length-set certs function old) ∙ count in
    and_true (length with_new == many) (all_fit m with_new) (eq-eqb (length with_new) many same_count)
    (subst (λ x. all_fit m x ≡ true) (set-set certs function old new) all)

-- with a section of some text they still fit
pub stay_fitting : StayFitting
stay_fitting bytes m function certs new is others =
    let own = anew_fits bytes m function is.0 is.1 in
    subst (λ x. fits m x ≡ true) is.2 (replaced_fits m function own.0 certs others.0 is.0 own.1 own.2 others.1)
