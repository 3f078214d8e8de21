-- The files of a line, and what is read from them.
use Rattle.std.specs.Prelude.{◌≡◌, ◌≢◌, ◌⊎◌, ℕ, Bool, true, false, List, [], Option, None, Some, codes, if◌then◌else◌}
use Rattle.std.specs.Str.{bytes_eq}
use Rattle.std.specs.Option.{option_map}
use Rattle.ir_ast.specs.declared.module.Module.{Module}
use Rattle.ir_text.specs.Read as text
use Rattle.ir_text.specs.declared.read_fault.ReadFault.TheVariants as read
use Rattle.layout.specs.Functions.{with_numbers, with_shapes}
use Rattle.layout.specs.Layouts.{AreLayouts, AreSizes, IsLayoutFault, LaidOut, wants_shapes}
use Rattle.layout.specs.declared.fault.LayoutFault.TheVariants as layout
use Rattle.certs.specs.declared.certs.Certs.{Certs}
use Rattle.certificate.specs.Text as certificate
use Rattle.certificate.specs.ShapeText as shape_text
use Rattle.certificate.specs.declared.fault.CertFault.{CertFault}
use Rattle.certificate.specs.declared.given_shapes.GivenShapes.{GivenShapes}
use Rattle.certificate.specs.declared.fault.CertFault.TheVariants as cert
use Rattle.name_text.specs.Words.{past_lines, word_at}
use Rattle.recheck.specs.Text as edit_text
use Rattle.recheck.specs.declared.edit.Edit.{Edit}
use Rattle.trace_text.specs.Text as trace_text
use Rattle.trace_text.specs.declared.fault.TraceFault.TheVariants as trace
use Rattle.trace_text.specs.declared.trace.Trace.{Trace}
use Rattle.reports.specs.declared.files.File.{File}
use Rattle.reports.specs.declared.files.Files.{Files}
use Rattle.reports.specs.declared.files.Given.{Given}
use Rattle.reports.specs.declared.files.ModuleFile.{ModuleFile}
use Rattle.reports.specs.declared.files.Unread.{Unread}
use Rattle.reports.specs.declared.files.Unread.TheVariants as unread
use Rattle.reports.specs.Report.{Answer, no_file, of_cert_fault, of_edits_fault, of_layout_fault, of_read_fault, of_trace_fault}

-- ---- files

-- the path of a file of a command, empty where it is not given
abbrev pub path_of : Option File → List ℕ
path_of None = []
path_of (Some file) = file.path.now

-- the bytes of a file, if it is given and can be read
abbrev pub bytes_of : Option File → Option (List ℕ)
bytes_of None = None
bytes_of (Some file) = option_map (λ bytes. bytes.now) file.bytes

-- the file of a module, if it is given
abbrev pub file_of : Option ModuleFile → Option File
file_of None = None
file_of (Some of_module) = Some of_module.file

-- whether the wide forms may stand in the text of this module
abbrev pub is_wide : Option ModuleFile → Bool
is_wide None = false
is_wide (Some of_module) = of_module.wide

-- whether all of the text of this module is to be kept
abbrev pub keeps : Option ModuleFile → Bool
keeps None = false
keeps (Some of_module) = of_module.keeps

-- the file of a module of whose text all is to be kept
abbrev pub kept : Option ModuleFile → Option ModuleFile
kept None = None
kept (Some of_module) = Some (record of_module { keeps = true })

-- the files of a command that has to keep all of the module
abbrev pub kept_files : Files → Files
kept_files files = record files { of_module = kept files.of_module }

-- the file has this path and cannot be read
abbrev pub IsNoFile : (path : List ℕ) → Option File → Type 0
IsNoFile path file = (path ≡ path_of file) × (bytes_of file ≡ None)

-- ---- what is read

-- the file is a text of this module, in the forms that may stand in it; where all is to be kept, nothing of it is lost
abbrev pub HasModule : Option ModuleFile → Module → Type 0
HasModule first m =
    (bytes : List ℕ) × (bytes_of (file_of first) ≡ Some bytes) × text.IsTextIn (is_wide first) bytes m × (keeps first ≡ true → text.IsKeptText (is_wide first) bytes m)

-- the file is a text of these certificates of the module
abbrev pub HasCerts : Option File → Module → Certs → Type 0
HasCerts file m certs = (bytes : List ℕ) × (bytes_of file ≡ Some bytes) × certificate.IsCert bytes m certs

-- the file is a text of these edits
abbrev pub HasEdits : Option File → List Edit → Type 0
HasEdits file edits = (bytes : List ℕ) × (bytes_of file ≡ Some bytes) × edit_text.IsEdits bytes edits

-- the text begins as a certificate does, with the word `cert`
abbrev pub is_certificate : List ℕ → Bool
is_certificate bytes = bytes_eq (word_at (past_lines false bytes)) (codes "cert")

-- what certificates give a module to which shapes are given: their shapes, and their numbers of layouts
abbrev pub given_by_certs : Certs → Given
given_by_certs certs = record { shapes = certs.shapes; numbers = certs.foreign.numbers }

-- the same of a text of shapes
abbrev pub given_by_shapes : GivenShapes → Given
given_by_shapes read = record { shapes = Some read.shapes; numbers = read.numbers }

-- these are the shapes and the numbers of layouts in a text of shapes, or in a certificate: one of typed pointers has no shapes
abbrev pub AreShapesOf : List ℕ → Module → Given → Type 0
AreShapesOf bytes m given =
    ((is_certificate bytes ≡ true) × ((certs : Certs) × certificate.IsCert bytes m certs × (given_by_certs certs ≡ given)))
    ⊎ ((is_certificate bytes ≡ false) × ((read : GivenShapes) × shape_text.AreShapes bytes m read × (given_by_shapes read ≡ given)))

-- the first fault of a text of shapes, or of a certificate
abbrev pub IsShapesFaultOf : List ℕ → Module → CertFault → Type 0
IsShapesFaultOf bytes m fault =
    ((is_certificate bytes ≡ true) × certificate.IsFault bytes m fault) ⊎ ((is_certificate bytes ≡ false) × shape_text.IsShapesFault bytes m fault)

-- the module with shapes and numbers of layouts that were read for it: the shapes count where it writes `ptr`
abbrev pub with_read : Module → Given → Module
with_read m given = with_numbers (if wants_shapes m then with_shapes m given.shapes else m) given.numbers

-- the file is a text of shapes of the first module, or a certificate of it, and the second module is the first with them
abbrev pub IsRead : File → (of_module shaped : Module) → Type 0
IsRead file of_module shaped = (bytes : List ℕ) × (given : Given) × (bytes_of (Some file) ≡ Some bytes) × AreShapesOf bytes of_module given × (shaped ≡ with_read of_module given)

-- the first file is a text of this module, with the shapes of the other file where it is given
abbrev pub HasShaped : (first : Option ModuleFile) → (shapes : Option File) → Module → Type 0
HasShaped first None m = HasModule first m
HasShaped first (Some shapes) m = (of_module : Module) × HasModule first of_module × IsRead shapes of_module m

-- the files are texts of the module of this program, laid out
abbrev pub HasProgram : (first : Option ModuleFile) → (shapes : Option File) → LaidOut → Type 0
HasProgram first shapes p = HasShaped first shapes p.of_module × AreLayouts p.of_module p.layouts × AreSizes p.of_module p.sizes

-- the file is a text of this trace of the program
abbrev pub HasTrace : Option File → LaidOut → Trace → Type 0
HasTrace file p trace = (bytes : List ℕ) × (bytes_of file ≡ Some bytes) × trace_text.IsTrace bytes p trace

-- ---- what is not

-- the first fault in the file of a module
abbrev pub IsNoModule : Option ModuleFile → Unread → Type 0
IsNoModule first (unread.NoFile path) = IsNoFile path.now (file_of first)
IsNoModule first (unread.NoModule fault) =
    (bytes : List ℕ) × (bytes_of (file_of first) ≡ Some bytes) × (fault ≢ read.Memory → text.IsFaultAs (keeps first) (is_wide first) bytes fault)
IsNoModule first _ = ⊥

-- the first fault in the file of the certificates of this module
abbrev pub IsNoCertificate : Option File → Module → Unread → Type 0
IsNoCertificate file m (unread.NoFile path) = IsNoFile path.now file
IsNoCertificate file m (unread.NoCertificate of_module fault) =
    (of_module ≡ m) × ((bytes : List ℕ) × (bytes_of file ≡ Some bytes) × (fault ≢ cert.Memory → certificate.IsFault bytes m fault))
IsNoCertificate file m _ = ⊥

-- the first fault in the file of shapes of this module, if it is given
abbrev pub IsNoShapes : Option File → Module → Unread → Type 0
IsNoShapes (Some file) m (unread.NoFile path) = IsNoFile path.now (Some file)
IsNoShapes (Some file) m (unread.NoCertificate of_module fault) =
    (of_module ≡ m) × ((bytes : List ℕ) × (bytes_of (Some file) ≡ Some bytes) × (fault ≢ cert.Memory → IsShapesFaultOf bytes m fault))
IsNoShapes _ m _ = ⊥

-- the first fault in the files of a module and its shapes
abbrev pub IsNoShaped : (first : Option ModuleFile) → (shapes : Option File) → Unread → Type 0
IsNoShaped first shapes u = IsNoModule first u ⊎ ((m : Module) × HasModule first m × IsNoShapes shapes m u)

-- the first fault in the file of edits
abbrev pub IsNoEdits : Option File → Unread → Type 0
IsNoEdits file (unread.NoFile path) = IsNoFile path.now file
IsNoEdits file (unread.NoEdits fault) = (bytes : List ℕ) × (bytes_of file ≡ Some bytes) × (fault ≢ cert.Memory → edit_text.IsFault bytes fault)
IsNoEdits file _ = ⊥

-- the first fault in the layouts of the module in these files
abbrev pub HasNoLayouts : (first : Option ModuleFile) → (shapes : Option File) → Unread → Type 0
HasNoLayouts first shapes (unread.NoLayouts refused) = HasShaped first shapes refused.of_module × (refused.fault ≢ layout.Memory → IsLayoutFault refused.of_module refused.fault)
HasNoLayouts first shapes _ = ⊥

-- the first fault in the files of a program
abbrev pub IsNoProgram : (first : Option ModuleFile) → (shapes : Option File) → Unread → Type 0
IsNoProgram first shapes u = IsNoShaped first shapes u ⊎ HasNoLayouts first shapes u

-- the first fault in the file of a trace of this program
abbrev pub IsNoTrace : Option File → LaidOut → Unread → Type 0
IsNoTrace file p (unread.NoFile path) = IsNoFile path.now file
IsNoTrace file p (unread.NoTrace fault) = (bytes : List ℕ) × (bytes_of file ≡ Some bytes) × (fault ≢ trace.Memory → trace_text.IsFault bytes p fault)
IsNoTrace file p _ = ⊥

-- the first fault in the files of a module and its certificates
abbrev pub IsUncertified : (first : Option ModuleFile) → (certificate : Option File) → Unread → Type 0
IsUncertified first certificate u = IsNoModule first u ⊎ ((m : Module) × HasModule first m × IsNoCertificate certificate m u)

-- the first fault in the files of a program and a trace
abbrev pub IsUntraced : (first : Option ModuleFile) → (trace shapes : Option File) → Unread → Type 0
IsUntraced first trace shapes u = IsNoProgram first shapes u ⊎ ((p : LaidOut) × HasProgram first shapes p × IsNoTrace trace p u)

-- what is printed of it
abbrev pub of_unread : Unread → Answer
of_unread (unread.NoFile path) = no_file path.now
of_unread (unread.NoModule fault) = of_read_fault fault
of_unread (unread.NoLayouts refused) = of_layout_fault refused.of_module refused.fault
of_unread (unread.NoCertificate of_module fault) = of_cert_fault of_module fault
of_unread (unread.NoEdits fault) = of_edits_fault fault
of_unread (unread.NoTrace fault) = of_trace_fault fault
