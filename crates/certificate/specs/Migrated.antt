-- Certificates of the opaque text of a module: what the types said of words, globals, slots, parameters and results is written out, and all else is kept.
use Rattle.std.specs.Prelude.{◌≡◌, ◌⊎◌, ℕ, ◌+◌, Bool, false, not, ◌&&◌, if◌then◌else◌, List, [], ◌∷◌, slice_get, unwrap_or, Option, Some, None, Result, Ok, Err}
use Rattle.ir_ast.specs.declared.function.Function.{Function}
use Rattle.ir_ast.specs.declared.function.Parameter.{Parameter}
use Rattle.ir_ast.specs.declared.module.Module.{Module}
use Rattle.copies.specs.Opaque.{opaque_module}
use Rattle.layout.specs.FieldRows.{AreFieldRows}
use Rattle.name_text.specs.declared.found.WordFault.TheVariants.{Wrong}
use Rattle.types.specs.References.{referenced_layout}
use Rattle.certs.specs.Families.{is_opaque_text}
use Rattle.certs.specs.declared.certs.Certs.{Certs}
use Rattle.certs.specs.declared.section.Promise.{Promise}
use Rattle.certs.specs.declared.section.Section.{Section}
use Rattle.certificate.specs.ShapeDrafts.{shapes_gap}
use Rattle.certificate.specs.Text.{placed}
use Rattle.certificate.specs.TypedShapes.{typed_draft}
use Rattle.certificate.specs.declared.fault.CertFault.{CertFault}
use Rattle.certificate.specs.declared.fault.CertFault.TheVariants.{Memory}
use Rattle.certificate.specs.declared.mistake.Mistake.{Mistake}
use Rattle.certificate.specs.declared.shape_draft.ShapeDraft.{ShapeDraft}

-- ---- promises

-- what is promised of a reference to this layout: `ref L` is added where it lacks, but not to an address outside
abbrev pub with_layout : (layout : ℕ) → Promise → Promise
with_layout layout promise = if promise.number then promise else record { layout = Some (unwrap_or promise.layout layout); nonnull = promise.nonnull; below = promise.below; number = false }

-- what is promised of a value that refers to this layout, if it does
abbrev pub with_reference : (layout : Option ℕ) → Option Promise → Option Promise
with_reference None promise = promise
with_reference (Some layout) None = Some (record { layout = Some layout; nonnull = false; below = None; number = false })
with_reference (Some layout) (Some promise) = Some (with_layout layout promise)

-- what a parameter refers to, if there is one
abbrev pub parameter_layout : Module → Option Parameter → Option ℕ
parameter_layout m None = None
parameter_layout m (Some parameter) = referenced_layout m parameter.written

-- what is promised of these parameters, from this one on
abbrev pub parameters_from : Module → List Parameter → (parameter : ℕ) → List (Option Promise) → List (Option Promise)
parameters_from m parameters parameter [] = []
parameters_from m parameters parameter (promise ∷ more) = with_reference (parameter_layout m (slice_get parameters parameter)) promise ∷ parameters_from m parameters (parameter + 1) more

-- ---- sections

-- the section of a function
abbrev pub migrated_section : Module → Function → Section → Section
migrated_section m f section = record {
  mark = section.mark;
  parameters = parameters_from m f.parameters 0 section.parameters;
  result = with_reference (referenced_layout m f.returned) section.result;
  blocks = section.blocks;
}

-- that of a function, if it is there
abbrev pub migrated_section_in : Module → Option Function → Section → Section
migrated_section_in m None section = section
migrated_section_in m (Some f) section = migrated_section m f section

-- those of the functions, from this one on
abbrev pub sections_from : Module → (function : ℕ) → List Section → List Section
sections_from m function [] = []
sections_from m function (section ∷ more) = migrated_section_in m (slice_get m.functions function) section ∷ sections_from m (function + 1) more

-- ---- certificates

-- certificates with these shapes, where none of them is missing
abbrev pub migrated_by : Module → Certs → ShapeDraft → Option Mistake → Result Certs CertFault
migrated_by m certs draft None = Ok (record { sections = sections_from m 0 certs.sections; shapes = Some draft.shapes; foreign = certs.foreign })
migrated_by m certs draft (Some gap) = Err (placed [] (Wrong gap))

-- the same with the shapes that the types say
abbrev pub migrated_typed : (m opaque : Module) → (rows : List (List ℕ)) → Certs → Result Certs CertFault
migrated_typed m opaque rows certs =
    let draft = typed_draft m opaque rows in
    migrated_by m certs draft (shapes_gap opaque draft)

-- whether a text writes typed pointers, and no `ptr`
abbrev pub is_typed_text : (m opaque : Module) → Bool
is_typed_text m opaque = not (is_opaque_text m) && is_opaque_text opaque

-- Certificates of the opaque text, or the first shape that no type says. `rows` are the scalar fields of each struct. Certificates of a text without a typed pointer are kept.
abbrev pub migrated_certs : Module → (rows : List (List ℕ)) → Certs → Result Certs CertFault
migrated_certs m rows certs =
    let opaque = opaque_module m in
    if is_typed_text m opaque then migrated_typed m opaque rows certs else Ok certs

-- such an answer
abbrev pub IsMigration : Module → Certs → Result Certs CertFault → Type 0
IsMigration m certs answer = (rows : List (List ℕ)) × AreFieldRows m rows × (answer ≡ migrated_certs m rows certs)
