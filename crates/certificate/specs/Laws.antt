-- What holds of each certificate that is read, and of each that is printed.
use Rattle.std.specs.Prelude.{◌≡◌, ℕ, true, false, None, List}
use Rattle.ir_ast.specs.declared.module.Module.{Module}
use Rattle.ir_tokens.specs.Bytes.{Text}
use Rattle.certs.specs.Families.{is_opaque_text}
use Rattle.certs.specs.Fits.{fits}
use Rattle.certs.specs.ForeignFit.{foreign_fits}
use Rattle.certs.specs.ShapesFit.{shapes_fit}
use Rattle.certs.specs.declared.certs.Certs.{Certs}
use Rattle.certs.specs.declared.section.Section.{Section}
use Rattle.certificate.specs.Alike.{are_whole, IsCertAlike}
use Rattle.certificate.specs.Named.{IsNamed, HasGlobals, HasStructs, HasRootValues}
use Rattle.certificate.specs.Print.{cert_text}
use Rattle.certificate.specs.Replaced.{IsReplaced, FitOthers}
use Rattle.certificate.specs.Starts.{AreStart}
use Rattle.certificate.specs.Text.{IsCert}
use Rattle.certificate.specs.declared.shape_draft.ShapeDraft.{ShapeDraft}

-- certificates of which some text is a text fit their module
abbrev pub AreFitting : Type 0
AreFitting = (bytes : Text) (m : Module) (certs : Certs) → IsCert bytes m certs → fits m certs.sections ≡ true

-- so do their shapes, of which none is missing
abbrev pub AreShaped : Type 0
AreShaped = (bytes : Text) (m : Module) (certs : Certs) → HasGlobals m → HasStructs m → IsCert bytes m certs → (shapes_fit m certs.shapes ≡ true) × are_whole m certs.shapes

-- so do the functions outside that they trust
abbrev pub AreForeignFitting : Type 0
AreForeignFitting = (bytes : Text) (m : Module) (certs : Certs) → IsCert bytes m certs → foreign_fits m certs.foreign ≡ true

-- what is printed of certificates of a typed text that fit is a text of them, where each of the module's names is found as what it names
abbrev pub ArePrintedAgain : Type 0
ArePrintedAgain =
    (m : Module) (certs : Certs) (begun : ShapeDraft) → AreStart m begun → IsNamed m → is_opaque_text m ≡ false → m.shapes ≡ None → certs.shapes ≡ None → fits m certs.sections ≡ true → foreign_fits m certs.foreign ≡ true
    → IsCert (cert_text certs m) m certs

-- what is printed of certificates that fit, and of which no shape is missing, is a text of certificates with these sections, such shapes, and these functions outside
abbrev pub ArePrintedAlike : Type 0
ArePrintedAlike =
    (m : Module) (certs : Certs) (begun : ShapeDraft) → AreStart m begun → IsNamed m → HasGlobals m → HasStructs m → HasRootValues m → m.shapes ≡ None → fits m certs.sections ≡ true → foreign_fits m certs.foreign ≡ true → are_whole m certs.shapes
    → IsCertAlike (cert_text certs m) m certs

-- certificates in which one section is replaced by that of some text fit their module, if they fitted with some section in its place
abbrev pub StayFitting : Type 0
StayFitting = (bytes : Text) (m : Module) (function : ℕ) (certs new : List Section) → IsReplaced bytes m function certs new → FitOthers m function certs → fits m new ≡ true
