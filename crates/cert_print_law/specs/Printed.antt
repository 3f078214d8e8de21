-- What holds of the certificates of a module that is read.
use Rattle.std.specs.Prelude.{◌≡◌, ℕ, ◌^◌, ◌<◌, false, List, length, Some, slice_get}
use Rattle.ir_ast.specs.declared.function.Function.{Function}
use Rattle.ir_ast.specs.declared.module.Module.{Module}
use Rattle.ir_text.specs.Read.{IsText}
use Rattle.ir_tokens.specs.Bytes.{Text}
use Rattle.name_text.specs.Readings.{AreBytes}
use Rattle.ir_print_law.specs.Within.{IsWithin}
use Rattle.certs.specs.Families.{is_opaque_text}
use Rattle.certs.specs.declared.certs.Certs.{Certs}
use Rattle.certificate.specs.Alike.{IsCertAlike}
use Rattle.certificate.specs.Named.{IsNamed, HasRootValues}
use Rattle.certificate.specs.Print.{name_text, key_text, cert_text}
use Rattle.certificate.specs.Text.{IsCert}

-- what is printed of each name of a table is shorter than a text may be
abbrev pub AreShort : (printed : Text → Text) → List Text → Type 0
AreShort printed names = (number : ℕ) (name : Text) → slice_get names number ≡ Some name → length (printed name) < 2 ^ 24

-- so it is of the names of globals and functions, of types, and of each function's values and blocks
pub record HasShortNames (m : Module) : Type 0 where
  pub symbols : AreShort name_text m.symbols
  pub structs : AreShort name_text m.struct_names
  pub locals : (number : ℕ) (f : Function) → slice_get m.functions number ≡ Some f → AreShort key_text f.locals

-- each name of such a module that is read from bytes is found as what it names
abbrev pub AreNamed : Type 0
AreNamed = (bytes : Text) (m : Module) → AreBytes bytes → IsText bytes m → HasShortNames m → IsNamed m

-- what is printed of certificates that are read for it is a text of them, where its text is typed
abbrev pub AreReadAgain : Type 0
AreReadAgain = (bytes text : Text) (m : Module) (certs : Certs) → AreBytes bytes → IsText bytes m → HasShortNames m → is_opaque_text m ≡ false → IsCert text m certs → IsCert (cert_text certs m) m certs

-- in a module whose numbers are within its tables each root slot's name is that of a value
abbrev pub AreRootsNamed : Type 0
AreRootsNamed = (m : Module) → IsWithin m → HasRootValues m

-- what is printed of certificates that are read for such a module is a text of certificates with the same sections and functions outside, and with shapes that say the same of it
abbrev pub AreReadAlike : Type 0
AreReadAlike = (bytes text : Text) (m : Module) (certs : Certs) → AreBytes bytes → IsText bytes m → HasShortNames m → IsCert text m certs → IsCertAlike (cert_text certs m) m certs
