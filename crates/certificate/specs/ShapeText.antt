-- A text of shapes, and what is wrong in it.
use Rattle.std.specs.Prelude.{◌≡◌}
use Rattle.ir_ast.specs.declared.module.Module.{Module}
use Rattle.ir_tokens.specs.Bytes.{Text}
use Rattle.name_text.specs.declared.found.WordFault.{WordFault}
use Rattle.certificate.specs.Input.{Input, start_of}
use Rattle.certificate.specs.ShapeForms.{text}
use Rattle.certificate.specs.Starts.{AreBegun}
use Rattle.certificate.specs.Text.{placed}
use Rattle.certificate.specs.declared.fault.CertFault.{CertFault}
use Rattle.certificate.specs.declared.given_shapes.GivenShapes.{GivenShapes}
use Rattle.certificate.specs.declared.mistake.Mistake.{Mistake}
use Rattle.certificate.specs.declared.shape_draft.ShapeDraft.{ShapeDraft}

-- the text is one of these shapes, and of these numbers of layouts
abbrev pub AreShapes : Text → Module → GivenShapes → Type 0
AreShapes bytes m given = (begun : ShapeDraft) × AreBegun m begun × (o : Input) × (text m).says (start_of m begun bytes) given o

-- the text is of the format up to a place, where it has this fault
abbrev pub IsShapesFault : Text → Module → CertFault → Type 0
IsShapesFault bytes m fault = (begun : ShapeDraft) × AreBegun m begun × (found : WordFault Mistake) × (text m).stuck (start_of m begun bytes) found × (placed bytes found ≡ fault)
