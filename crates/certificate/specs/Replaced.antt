-- Certificates in which one section is replaced.
use Rattle.std.specs.Prelude.{◌≡◌, ℕ, true, List, slice_set}
use Rattle.ir_ast.specs.declared.module.Module.{Module}
use Rattle.ir_tokens.specs.Bytes.{Text}
use Rattle.certs.specs.Fits.{fits}
use Rattle.certs.specs.declared.section.Section.{Section}
use Rattle.certificate.specs.Anew.{IsSection}

-- the text is a section of this function, and with it in the old one's place they are these certificates
abbrev pub IsReplaced : (bytes : Text) → Module → (function : ℕ) → (certs new : List Section) → Type 0
IsReplaced bytes m function certs new = (section : Section) × IsSection bytes m function section × (slice_set certs function section ≡ new)

-- with some section of this function they are certificates of the module
abbrev pub FitOthers : Module → (function : ℕ) → (certs : List Section) → Type 0
FitOthers m function certs = (section : Section) × (fits m (slice_set certs function section) ≡ true)
