-- Sections that fit before fit in opaque text, once they are migrated.
use Rattle.std.proofs.Common.{◌≡◌, ℕ, suc, ◌+◌, true, not, ◌&&◌, ◌==◌, List, [], ◌∷◌, map, length, slice_get, if◌then◌else◌, Option, None, Some, Result, Ok, Err, refl, sym, ap, ap₂, ◌∙◌, subst, arith}
use Rattle.std.specs.List.{list_all, zip}
use Rattle.lemmas.specs.Bools.{and_parts}
use Rattle.ir_ast.specs.Places.{map-length}
use Rattle.ir_ast.specs.declared.function.Function.{Function}
use Rattle.ir_ast.specs.declared.function.Parameter.{Parameter}
use Rattle.ir_ast.specs.declared.module.Module.{Module}
use Rattle.copies.specs.Opaque.{opaque_block, opaque_function, opaque_module, opaque_parameter}
use Rattle.types.specs.References.{referenced_layout}
use Rattle.certs.specs.Families.{family_of_type, family_of_value, is_opaque_text}
use Rattle.certs.specs.Fits.{blocks_fit, claims_fit, entry_is_empty, fits, parameter_fits, parameters_fit, promised_fits, section_fits}
use Rattle.certs.specs.declared.certs.Certs.{Certs}
use Rattle.certs.specs.declared.section.Claim.{Claim}
use Rattle.certs.specs.declared.section.Promise.{Promise}
use Rattle.certs.specs.declared.section.Section.{Section}
use Rattle.certificate.specs.Migrated.{migrated_by, migrated_section, migrated_section_in, migrated_typed, parameter_layout, parameters_from, sections_from, with_reference}
use Rattle.certificate.specs.ShapeDrafts.{shapes_gap}
use Rattle.certificate.specs.TypedShapes.{typed_draft}
use Rattle.certificate.specs.declared.fault.CertFault.{CertFault}
use Rattle.certificate.specs.declared.mistake.Mistake.{Mistake}
use Rattle.certificate.specs.declared.shape_draft.ShapeDraft.{ShapeDraft}
use Rattle.migration_law.specs.MigratedFits.{AreMigratedFitting, IsTypedFunction, IsTypedModule}
use Rattle.migration_law.proofs.Implies.{Implies, itself, both_imply, all_imply}
use Rattle.migration_law.proofs.FamiliesAfter.{o, numbers, parameter_family, reference_is_opaque, reference_stands, type_becomes, value_becomes}
use Rattle.migration_law.proofs.ClaimsAfter.{claims_imply, promised_implies}

-- as many on both sides
lengths_imply : (a b c d : ℕ) → c ≡ a → d ≡ b → Implies (a == b) (c == d)
lengths_imply a b c d e h t = ap₂ (λ x y. x == y) e h ∙ t

module _ (m : Module) where
  module _ (f : Function) (typed : IsTypedFunction m f) (opaque : is_opaque_text (o m) ≡ true) where
    abbrev made : Function
    made = opaque_function (numbers m) f

    -- ---- parameters

    length_from : (k : ℕ) (ps : List (Option Promise)) → length (parameters_from m f.parameters k ps) ≡ length ps
    length_from k [] = refl
    length_from k (p ∷ ps) = ap suc (length_from (k + 1) ps)

    parameter_implies : (k : ℕ) (x : Parameter) (p : Option Promise) → slice_get f.parameters k ≡ Some x
        → Implies (parameter_fits m f x p) (parameter_fits (o m) made (opaque_parameter (numbers m) x) (with_reference (parameter_layout m (slice_get f.parameters k)) p))
    parameter_implies k x p at h =
        let of_written = parameter_family m f typed opaque x.value x.written (typed.parameters k x at) in
        let new = promised_implies m (family_of_value m f x.value) (family_of_value (o m) made x.value) (value_becomes m f typed opaque x.value) (referenced_layout m x.written) p (λ l e. (of_written ∙ reference_is_opaque m x.written l e, reference_stands m x.written l e)) h in
        subst (λ z. parameter_fits (o m) made (opaque_parameter (numbers m) x) (with_reference (parameter_layout m z) p) ≡ true) (sym at) new

    all_parameters : (k : ℕ) (xs : List Parameter) (ps : List (Option Promise)) → ((i : ℕ) (x : Parameter) → slice_get xs i ≡ Some x → slice_get f.parameters (k + i) ≡ Some x)
        → Implies (list_all (λ p. parameter_fits m f p.0 p.1) (zip xs ps)) (list_all (λ p. parameter_fits (o m) made p.0 p.1) (zip (map (opaque_parameter (numbers m)) xs) (parameters_from m f.parameters k ps)))
    all_parameters k [] ps at h = refl
    all_parameters k (x ∷ xs) [] at h = refl
    all_parameters k (x ∷ xs) (p ∷ ps) at h =
        let here : slice_get f.parameters k ≡ Some x = (let z : k + 0 ≡ k = omega arith in subst (λ n. slice_get f.parameters n ≡ Some x) z (at 0 x refl)) in
        both_imply (parameter_fits m f x p) (list_all (λ p. parameter_fits m f p.0 p.1) (zip xs ps))
        (parameter_fits (o m) made (opaque_parameter (numbers m) x) (with_reference (parameter_layout m (slice_get f.parameters k)) p)) (list_all (λ p. parameter_fits (o m) made p.0 p.1) (zip (map (opaque_parameter (numbers m)) xs) (parameters_from m f.parameters (k + 1) ps)))
        (parameter_implies k x p here)
        (all_parameters (k + 1) xs ps (λ i y e. let z : k + suc i ≡ k + 1 + i = omega arith in subst (λ n. slice_get f.parameters n ≡ Some y) z (at (suc i) y e)))
        h

    parameters_imply : (ps : List (Option Promise)) → Implies (parameters_fit m f ps) (parameters_fit (o m) made (parameters_from m f.parameters 0 ps))
    parameters_imply ps =
        both_imply (length ps == length f.parameters) (list_all (λ p. parameter_fits m f p.0 p.1) (zip f.parameters ps))
        (length (parameters_from m f.parameters 0 ps) == length made.parameters) (list_all (λ p. parameter_fits (o m) made p.0 p.1) (zip made.parameters (parameters_from m f.parameters 0 ps)))
        (lengths_imply (length ps) (length f.parameters) (length (parameters_from m f.parameters 0 ps)) (length made.parameters) (length_from 0 ps) (map-length (opaque_parameter (numbers m)) f.parameters))
        (all_parameters 0 f.parameters ps (λ i x e. let z : i ≡ 0 + i = omega arith in subst (λ n. slice_get f.parameters n ≡ Some x) z e))

    -- ---- the result and the blocks

    result_implies : (promise : Option Promise) → Implies (promised_fits m (family_of_type m f.returned) promise) (promised_fits (o m) (family_of_type (o m) made.returned) (with_reference (referenced_layout m f.returned) promise))
    result_implies promise = promised_implies m (family_of_type m f.returned) (family_of_type (o m) made.returned) (type_becomes m f.returned) (referenced_layout m f.returned) promise (λ l e. (reference_is_opaque m f.returned l e, reference_stands m f.returned l e))

    blocks_imply : (blocks : List (List Claim)) → Implies (blocks_fit m f blocks) (blocks_fit (o m) made blocks)
    blocks_imply blocks =
        both_imply ((length blocks == length f.blocks) && entry_is_empty blocks) (list_all (claims_fit m f) blocks) ((length blocks == length made.blocks) && entry_is_empty blocks) (list_all (claims_fit (o m) made) blocks)
        (both_imply (length blocks == length f.blocks) (entry_is_empty blocks) (length blocks == length made.blocks) (entry_is_empty blocks)
        (lengths_imply (length blocks) (length f.blocks) (length blocks) (length made.blocks) refl (map-length (opaque_block (numbers m)) f.blocks)) (itself (entry_is_empty blocks)))
        (all_imply (claims_fit m f) (claims_fit (o m) made) blocks (claims_imply m f typed opaque))

    section_implies : (s : Section) → Implies (section_fits m f s) (section_fits (o m) made (migrated_section m f s))
    section_implies s =
        both_imply (parameters_fit m f s.parameters && promised_fits m (family_of_type m f.returned) s.result) (blocks_fit m f s.blocks)
        (parameters_fit (o m) made (parameters_from m f.parameters 0 s.parameters) && promised_fits (o m) (family_of_type (o m) made.returned) (with_reference (referenced_layout m f.returned) s.result)) (blocks_fit (o m) made s.blocks)
        (both_imply (parameters_fit m f s.parameters) (promised_fits m (family_of_type m f.returned) s.result)
        (parameters_fit (o m) made (parameters_from m f.parameters 0 s.parameters)) (promised_fits (o m) (family_of_type (o m) made.returned) (with_reference (referenced_layout m f.returned) s.result))
        (parameters_imply s.parameters) (result_implies s.result))
        (blocks_imply s.blocks)

  -- ---- all sections

  module _ (typed : IsTypedModule m) (opaque : is_opaque_text (o m) ≡ true) where
    length_sections : (k : ℕ) (ss : List Section) → length (sections_from m k ss) ≡ length ss
    length_sections k [] = refl
    length_sections k (s ∷ ss) = ap suc (length_sections (k + 1) ss)

    one_section : (k : ℕ) (f : Function) (s : Section) → slice_get m.functions k ≡ Some f
        → Implies (section_fits m f s) (section_fits (o m) (opaque_function (numbers m) f) (migrated_section_in m (slice_get m.functions k) s))
    one_section k f s at h = subst (λ z. section_fits (o m) (opaque_function (numbers m) f) (migrated_section_in m z s) ≡ true) (sym at) (section_implies f (typed k f at) opaque s h)

    all_sections : (k : ℕ) (fs : List Function) (ss : List Section) → ((i : ℕ) (f : Function) → slice_get fs i ≡ Some f → slice_get m.functions (k + i) ≡ Some f)
        → Implies (list_all (λ p. section_fits m p.0 p.1) (zip fs ss)) (list_all (λ p. section_fits (o m) p.0 p.1) (zip (map (opaque_function (numbers m)) fs) (sections_from m k ss)))
    all_sections k [] ss at h = refl
    all_sections k (f ∷ fs) [] at h = refl
    all_sections k (f ∷ fs) (s ∷ ss) at h =
        let here : slice_get m.functions k ≡ Some f = (let z : k + 0 ≡ k = omega arith in subst (λ n. slice_get m.functions n ≡ Some f) z (at 0 f refl)) in
        both_imply (section_fits m f s) (list_all (λ p. section_fits m p.0 p.1) (zip fs ss))
        (section_fits (o m) (opaque_function (numbers m) f) (migrated_section_in m (slice_get m.functions k) s)) (list_all (λ p. section_fits (o m) p.0 p.1) (zip (map (opaque_function (numbers m)) fs) (sections_from m (k + 1) ss)))
        (one_section k f s here)
        (all_sections (k + 1) fs ss (λ i g e. let z : k + suc i ≡ k + 1 + i = omega arith in subst (λ n. slice_get m.functions n ≡ Some g) z (at (suc i) g e)))
        h

    all_fit : (ss : List Section) → Implies (fits m ss) (fits (o m) (sections_from m 0 ss))
    all_fit ss =
        both_imply (length ss == length m.functions) (list_all (λ p. section_fits m p.0 p.1) (zip m.functions ss))
        (length (sections_from m 0 ss) == length (o m).functions) (list_all (λ p. section_fits (o m) p.0 p.1) (zip (o m).functions (sections_from m 0 ss)))
        (lengths_imply (length ss) (length m.functions) (length (sections_from m 0 ss)) (length (o m).functions) (length_sections 0 ss) (map-length (opaque_function (numbers m)) m.functions))
        (all_sections 0 m.functions ss (λ i f e. let z : i ≡ 0 + i = omega arith in subst (λ n. slice_get m.functions n ≡ Some f) z e))

-- the sections of an answer
abbrev sections_in : Result Certs CertFault → List Section
sections_in (Ok certs) = certs.sections
sections_in (Err fault) = []

-- the sections of what is migrated
sections_are : (m : Module) (certs migrated : Certs) (draft : ShapeDraft) (gap : Option Mistake) → Ok migrated ≡ migrated_by m certs draft gap → migrated.sections ≡ sections_from m 0 certs.sections
sections_are m certs migrated draft None e = ap sections_in e
sections_are m certs migrated draft (Some gap) e = absurd cc

pub migrated_fit : AreMigratedFitting
migrated_fit m certs migrated is_typed typed h answer =
    let opaque = opaque_module m in
    let parts = and_parts (not (is_opaque_text m)) (is_opaque_text opaque) is_typed in
    let rows = answer.0 in
    let by_types : Ok migrated ≡ migrated_typed m opaque rows certs = answer.2 ∙ ap (λ b. if b then migrated_typed m opaque rows certs else Ok certs) is_typed in
    let draft = typed_draft m opaque rows in
    let are = sections_are m certs migrated draft (shapes_gap opaque draft) by_types in
    subst (λ z. fits opaque z ≡ true) (sym are) (all_fit m typed parts.1 certs.sections h)
