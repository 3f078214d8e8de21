-- Faults of texts as faults of edits.
use Rattle.std.proofs.Common.{◌≡◌, ◌≢◌, ℕ, Option, Some, None, Result, Ok, Err, inl, inr, ap, sym, subst, ◌∙◌}
use Rattle.std.specs.Prelude.{IsErrAnd}
use Rattle.grammar.specs.Outcome.{Gives}
use Rattle.ir_ast.specs.declared.module.Module.{Module}
use Rattle.ir_tokens.specs.Bytes.{Text}
use Rattle.certs.specs.declared.section.Section.{Section}
use Rattle.certificate.specs.Anew.{IsSection, IsSectionFault}
use Rattle.certificate.specs.declared.fault.CertFault.{CertFault}
use Rattle.certificate.specs.declared.fault.CertFault.TheVariants as cert
use Rattle.recheck.specs.Edits.{IsRefusedBy, IsShapedSection, first_fault, no_shape, section_fault, HasSectionFault}
use Rattle.recheck.specs.RootShapes.{missing_root}
use Rattle.recheck.specs.declared.edit_fault.EditFault.{EditFault}
use Rattle.recheck.specs.declared.edit_fault.EditFault.TheVariants.{Memory}
use Rattle.recheck.proofs.Results.{same_err, ok_or_err, err_or_ok, none_or_some, same_some}

-- ---- sections

-- the fault of a text is not that of memory where that of the edit is not
first_differs : (func : ℕ) (f : CertFault) (slot : Option ℕ) (e : EditFault) → e ≡ first_fault f func slot → e ≢ Memory → f ≢ cert.Memory
first_differs func f None e is differs h = differs (is ∙ ap section_fault h)
first_differs func f (Some slot) e is differs h = differs (is ∙ ap (λ (g : CertFault). first_fault g func (Some slot)) h)

-- with the module by another name
module _ (m n : Module) (same : n ≡ m) (func : ℕ) (text : Text) where
  pub of_section : (section : Section) → IsShapedSection text n func section → IsShapedSection text m func section
  of_section section h = subst (λ (x : Module). IsShapedSection text x func section) same h

  pub to_section : (section : Section) → IsShapedSection text m func section → IsShapedSection text n func section
  to_section section h = subst (λ (x : Module). IsShapedSection text x func section) (sym same) h

module _ (m : Module) (func : ℕ) (text : Text) where
  -- the text is refused
  module _ (f : CertFault) (slot : Option ℕ) (e : EditFault) (is : e ≡ first_fault f func slot) (found : slot ≡ missing_root m func) where
    -- it has the fault
    pub section_refused : (f ≢ cert.Memory → IsSectionFault text m func f) → e ≢ Memory → HasSectionFault m func text e
    section_refused fault differs = inl (f, fault (first_differs func f slot e is differs), sym (is ∙ ap (first_fault f func) found))

    -- a text of a section is not refused
    pub section_accepted : ((section : Section) → IsSection text m func section → Gives cert.Memory (Err f) (Ok section)) → (section : Section) → IsShapedSection text m func section → e ≢ Memory → ⊥
    section_accepted only section h differs = ok_or_err section f (only section h.0 (first_differs func f slot e is differs))

    -- it is refused for its fault
    pub section_same : ((section : Section) → IsSection text m func section → Gives cert.Memory (Err f) (Ok section)) → ((g : CertFault) → IsSectionFault text m func g → Gives {X = Section} cert.Memory (Err f) (Err g))
        → (x : EditFault) → HasSectionFault m func text x → e ≢ Memory → e ≡ x
    section_same only fails x (inl h) differs =
        let one : h.0 ≡ f = same_err {X = Section} h.0 f (fails h.0 h.1 (first_differs func f slot e is differs)) in
        is ∙ ap (first_fault f func) found ∙ ap (λ (g : CertFault). first_fault g func (missing_root m func)) (sym one) ∙ h.2
    section_same only fails x (inr h) differs = absurd (ok_or_err h.0 f (only h.0 h.2 (first_differs func f slot e is differs)))

  -- the text is read as this section
  module _ (section : Section) (only : (f : CertFault) → IsSectionFault text m func f → Gives cert.Memory (Ok section) (Err f)) where
    -- it has no fault where no slot lacks a shape
    pub section_unread : missing_root m func ≡ None → (e : EditFault) → HasSectionFault m func text e → ⊥
    section_unread none e (inl h) = err_or_ok section h.0 (only h.0 h.1)
    section_unread none e (inr h) = none_or_some h.1 (sym none ∙ h.3)

    -- where one does, that is the fault
    pub slot_same : (slot : ℕ) → missing_root m func ≡ Some slot → (e : EditFault) → e ≡ no_shape func slot → (x : EditFault) → HasSectionFault m func text x → e ≡ x
    slot_same slot missing e is x (inl h) = absurd (err_or_ok section h.0 (only h.0 h.1))
    slot_same slot missing e is x (inr h) = is ∙ ap (no_shape func) (same_some slot h.1 (sym missing ∙ h.3)) ∙ h.4

  -- and then the text is none of a section
  pub slot_accepted : (slot : ℕ) → missing_root m func ≡ Some slot → (section : Section) → IsShapedSection text m func section → ⊥
  slot_accepted slot missing section h = none_or_some slot (sym h.1 ∙ missing)

-- ---- memory

-- what is refused for memory is refused for no other reason
pub for_memory : {A : Type 0} (e : EditFault) → e ≡ Memory → e ≢ Memory → A
for_memory e is differs = absurd (differs is)

-- so it is where memory was refused
pub refused_for_memory : {X : Type 0} (r : Result X EditFault) (f : EditFault) → IsErrAnd r (λ e. e ≡ Memory) → IsRefusedBy r f
refused_for_memory (Ok x) f h = absurd h
refused_for_memory (Err e) f h = for_memory e h
