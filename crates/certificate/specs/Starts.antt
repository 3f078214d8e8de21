-- With which shapes a text is begun, and with which version of the format it goes.
use Rattle.std.specs.Prelude.{◌≡◌, Bool, true, false, not, ◌&&◌, ◌||◌, List, ◌∷◌, [], Option, Some, None}
use Rattle.std.specs.Str.{bytes_eq}
use Rattle.ir_ast.specs.PointerKinds.{has_typed}
use Rattle.ir_ast.specs.declared.module.Module.{Module}
use Rattle.ir_tokens.specs.Bytes.{Text}
use Rattle.layout.specs.PointerRows.{ArePointerRows}
use Rattle.certs.specs.Families.{is_opaque_text}
use Rattle.certificate.specs.ShapeDrafts.{no_shapes, shapes_begun}
use Rattle.certificate.specs.declared.shape_draft.ShapeDraft.{ShapeDraft}

-- ---- the kind of a module's text

-- certificates of an opaque text have shapes; they may stand for a text without a pointer type, too
abbrev pub may_be_shaped : Module → Bool
may_be_shaped m = is_opaque_text m || not (has_typed m.types)

-- the version of a text of the module's certificates: 1 without shapes, 2 with them
abbrev pub goes_with : Module → (version : Text) → Bool
goes_with m version = (bytes_eq version (49 ∷ []) && not (is_opaque_text m)) || (bytes_eq version (50 ∷ []) && may_be_shaped m)

-- ---- the shapes before a text

-- nothing is given so far
abbrev pub AreBegun : Module → ShapeDraft → Type 0
AreBegun m draft = (pointers : List (List Bool)) × ArePointerRows m pointers × (draft ≡ shapes_begun m pointers)

-- so it is where shapes may be read, and otherwise there are none
abbrev pub are_begun_if : (shaped : Bool) → Module → ShapeDraft → Type 0
are_begun_if true m draft = AreBegun m draft
are_begun_if false m draft = draft ≡ no_shapes

-- the shapes before a text of certificates
abbrev pub AreStart : Module → ShapeDraft → Type 0
AreStart m draft = are_begun_if (may_be_shaped m) m draft
