-- The shapes before a text of a module are one, so a text says the same and has the same fault wherever its reading begins with them.
use Rattle.std.proofs.Common.{◌≡◌, Bool, true, false, List, ap, sym, subst, ◌∙◌}
use Rattle.ir_ast.specs.declared.module.Module.{Module}
use Rattle.ir_tokens.specs.Bytes.{Text}
use Rattle.layout.specs.PointerRows.{one_rows}
use Rattle.name_text.specs.declared.found.WordFault.{WordFault}
use Rattle.certs.specs.declared.certs.Certs.{Certs}
use Rattle.certificate.specs.Input.{Input, start_of}
use Rattle.certificate.specs.ShapeDrafts.{shapes_begun}
use Rattle.certificate.specs.ShapeForms.{text}
use Rattle.certificate.specs.ShapeText.{AreShapes, IsShapesFault}
use Rattle.certificate.specs.Starts.{AreBegun, AreStart, are_begun_if, may_be_shaped}
use Rattle.certificate.specs.Text.{file, placed, IsCert, IsFault}
use Rattle.certificate.specs.declared.fault.CertFault.{CertFault}
use Rattle.certificate.specs.declared.given_shapes.GivenShapes.{GivenShapes}
use Rattle.certificate.specs.declared.mistake.Mistake.{Mistake}
use Rattle.certificate.specs.declared.shape_draft.ShapeDraft.{ShapeDraft}

pub one_begun : (m : Module) (one other : ShapeDraft) → AreBegun m one → AreBegun m other → one ≡ other
one_begun m one other a b = a.2 ∙ ap (λ (pointers : List (List Bool)). shapes_begun m pointers) (one_rows m a.0 b.0 a.1 b.1) ∙ sym b.2

pub one_start : (m : Module) (one other : ShapeDraft) → AreStart m one → AreStart m other → one ≡ other
one_start m one other = by (may_be_shaped m)
  where
    by : (shaped : Bool) → are_begun_if shaped m one → are_begun_if shaped m other → one ≡ other
    by true a b = one_begun m one other a b
    by false a b = a ∙ sym b

-- ---- texts of certificates

abbrev pub SaysCerts : Text → Module → Certs → ShapeDraft → Type 0
SaysCerts bytes m certs shapes = (o : Input) × (file m).says (start_of m shapes bytes) certs o

abbrev pub HasCertFault : Text → Module → CertFault → ShapeDraft → Type 0
HasCertFault bytes m fault shapes = (found : WordFault Mistake) × (file m).stuck (start_of m shapes bytes) found × (placed bytes found ≡ fault)

pub certs_from : (bytes : Text) (m : Module) (certs : Certs) (shapes : ShapeDraft) → AreStart m shapes → IsCert bytes m certs → SaysCerts bytes m certs shapes
certs_from bytes m certs shapes start is = subst (SaysCerts bytes m certs) (one_start m is.0 shapes is.1 start) (is.2, is.3)

pub fault_from : (bytes : Text) (m : Module) (fault : CertFault) (shapes : ShapeDraft) → AreStart m shapes → IsFault bytes m fault → HasCertFault bytes m fault shapes
fault_from bytes m fault shapes start is = subst (HasCertFault bytes m fault) (one_start m is.0 shapes is.1 start) (is.2, is.3, is.4)

-- ---- texts of shapes

abbrev pub SaysShapes : Text → Module → GivenShapes → ShapeDraft → Type 0
SaysShapes bytes m shapes begun = (o : Input) × (text m).says (start_of m begun bytes) shapes o

abbrev pub HasShapesFault : Text → Module → CertFault → ShapeDraft → Type 0
HasShapesFault bytes m fault begun = (found : WordFault Mistake) × (text m).stuck (start_of m begun bytes) found × (placed bytes found ≡ fault)

pub shapes_from : (bytes : Text) (m : Module) (shapes : GivenShapes) (begun : ShapeDraft) → AreBegun m begun → AreShapes bytes m shapes → SaysShapes bytes m shapes begun
shapes_from bytes m shapes begun are is = subst (SaysShapes bytes m shapes) (one_begun m is.0 begun is.1 are) (is.2, is.3)

pub shapes_fault_from : (bytes : Text) (m : Module) (fault : CertFault) (begun : ShapeDraft) → AreBegun m begun → IsShapesFault bytes m fault → HasShapesFault bytes m fault begun
shapes_fault_from bytes m fault begun are is = subst (HasShapesFault bytes m fault) (one_begun m is.0 begun is.1 are) (is.2, is.3, is.4)
