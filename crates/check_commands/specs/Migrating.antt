-- What `migrate` says of its files.
use Rattle.std.specs.Prelude.{◌≡◌, ◌≢◌, ◌⊎◌, ℕ, List, [], Option, Some, None, Err, Ok, true, false, if◌then◌else◌, unwrap_or}
use Rattle.ir_ast.specs.declared.module.Module.{Module}
use Rattle.ir_print.specs.Items.{text_of}
use Rattle.copies.specs.Opaque.{opaque_module}
use Rattle.certs.specs.declared.certs.Certs.{Certs}
use Rattle.certificate.specs.Migrated.{IsMigration, is_typed_text}
use Rattle.certificate.specs.Print.{cert_text}
use Rattle.certificate.specs.declared.fault.CertFault.{CertFault}
use Rattle.certificate.specs.declared.fault.CertFault.TheVariants as cert
use Rattle.reports.specs.Report.{made_text, no_memory, of_cert_fault}
use Rattle.reports.specs.Files as files
use Rattle.reports.specs.Files.{HasModule, IsNoModule, bytes_of, file_of, of_unread}
use Rattle.reports.specs.Said.{Said, OnOutput, OnError, OfCertified}
use Rattle.reports.specs.declared.files.File.{File}
use Rattle.reports.specs.declared.files.ModuleFile.{ModuleFile}
use Rattle.reports.specs.declared.files.Unread.{Unread}

-- the bytes of a file, none where it is not given or cannot be read
abbrev pub known_bytes : Option File → List ℕ
known_bytes file = unwrap_or (bytes_of file) []

-- ---- a module

-- the opaque text of a module that was read from these bytes: the bytes themselves, where they have no typed pointer
abbrev pub migrated_text : Module → (bytes : List ℕ) → List ℕ
migrated_text m bytes = if is_typed_text m (opaque_module m) then text_of (opaque_module m) else bytes

-- what is said of a module: its opaque text, or that memory was refused
pub data OfText (m : Module) (bytes : List ℕ) : Said → Type 0 where
  printed : OfText m bytes (OnOutput (made_text (migrated_text m bytes)))
  not_printed : OfText m bytes (OnError no_memory)

-- what is said of the file of a module
pub data OfModule (first : Option ModuleFile) : Said → Type 0 where
  no_module : (unread : Unread) → IsNoModule first unread → OfModule first (OnError (of_unread unread))
  of_module : (m : Module) (said : Said) → HasModule first m → OfText m (known_bytes (file_of first)) said → OfModule first said

-- ---- its certificates

-- certificates of an opaque text are printed, or memory was refused
abbrev pub OfCerts : (opaque : Module) → Certs → Said → Type 0
OfCerts opaque certs said = (said ≡ OnOutput (made_text (cert_text certs opaque))) ⊎ (said ≡ OnError no_memory)

-- what is said of certificates that were read from these bytes: those of the opaque text, or the first shape that no type says; or that
-- memory was refused. Certificates of a text without a typed pointer are kept.
pub data OfMigrated (bytes : List ℕ) (m : Module) (certs : Certs) : Said → Type 0 where
  kept : is_typed_text m (opaque_module m) ≡ false → OfMigrated bytes m certs (OnOutput (made_text bytes))
  made : (migrated : Certs) → is_typed_text m (opaque_module m) ≡ true → IsMigration m certs (Ok migrated)
      → OfMigrated bytes m certs (OnOutput (made_text (cert_text migrated (opaque_module m))))
  missing : (fault : CertFault) → (fault ≢ cert.Memory → IsMigration m certs (Err fault)) → OfMigrated bytes m certs (OnError (of_cert_fault m fault))
  not_migrated : OfMigrated bytes m certs (OnError no_memory)

-- what is said of the files of a module and, where it is given, of its certificates
abbrev pub OfMigrateGiven : (first : Option ModuleFile) → (certificate : Option File) → Said → Type 0
OfMigrateGiven first None = OfModule first
OfMigrateGiven first (Some certificate) = OfCertified (OfMigrated (known_bytes (Some certificate))) first (Some certificate)

-- the same where all of the module is to be kept
abbrev pub OfMigrate : (first : Option ModuleFile) → (certificate : Option File) → Said → Type 0
OfMigrate first certificate = OfMigrateGiven (files.kept first) certificate
