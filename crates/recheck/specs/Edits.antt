-- What an edit makes of a session, and which fault it has first.
use Rattle.std.specs.Prelude.{◌≡◌, ◌≢◌, ◌⊎◌, ℕ, Bool, true, false, if◌then◌else◌, [], slice_get, slice_set, Option, Some, None, Result, Ok, Err}
use Rattle.ir_ast.specs.declared.function.Function.{Function}
use Rattle.ir_ast.specs.declared.module.Module.{Module}
use Rattle.ir_tokens.specs.Bytes.{Text}
use Rattle.ir_text.specs.Replaced.{IsReplaced, IsReplaceFault}
use Rattle.ir_text.specs.declared.read_fault.ReadFault.{ReadFault}
use Rattle.ir_text.specs.declared.read_fault.ReadFault.TheVariants as read
use Rattle.certs.specs.declared.section.Section.{Section}
use Rattle.certificate.specs.Anew.{IsSection, IsSectionFault}
use Rattle.certificate.specs.Print.{section_text}
use Rattle.certificate.specs.declared.fault.CertFault.{CertFault}
use Rattle.certificate.specs.declared.fault.CertFault.TheVariants as cert
use Rattle.layout.specs.Layouts.{AreLayouts, AreSizes, wants_shapes}
use Rattle.recheck.specs.declared.edit.Edit.{Edit}
use Rattle.recheck.specs.declared.edit.Edit.TheVariants as edit
use Rattle.recheck.specs.Named.{function_named}
use Rattle.recheck.specs.RootShapes.{missing_root}
use Rattle.recheck.specs.Session.{State}
use Rattle.recheck.specs.Interface.{rechecked_by}
use Rattle.recheck.specs.declared.edit_fault.EditFault.{EditFault}
use Rattle.recheck.specs.declared.edit_fault.EditFault.TheVariants as fault

-- ---- parts of a session

-- the module of a session
abbrev pub module_in : State → Module
module_in s = s.program.of_module

-- the code of a function in a session
abbrev pub code_in : State → (func : ℕ) → Option Function
code_in s func = slice_get s.program.of_module.functions func

-- the section of a function in a session
abbrev pub section_in : State → (func : ℕ) → Option Section
section_in s func = slice_get s.certs.sections func

-- a section's text with this code of its function
abbrev pub text_with : Module → Option Function → Option Section → Text
text_with m (Some f) (Some section) = section_text m f section
text_with m _ _ = []

-- the text of a function's section in a session, as it is printed with the code that is there
abbrev pub kept_text : State → (func : ℕ) → Text
kept_text s func = text_with (module_in s) (code_in s func) (section_in s func)

-- ---- what is accepted

-- The session after an edit of one function. Its module is `m`, with the layouts and sizes of `m`. `section` is in the place of the function's section, and the shapes and the functions outside are as they were. Its count is the number of functions that were checked again.
pub record IsPut (s : State) (func : ℕ) (m : Module) (section : Section) (t : State) : Type 0 where
  pub of_module : t.program.of_module ≡ m
  pub laid_out : AreLayouts t.program.of_module t.program.layouts
  pub sized : AreSizes t.program.of_module t.program.sizes
  pub certs : t.certs.sections ≡ slice_set s.certs.sections func section
  pub shapes : t.certs.shapes ≡ s.certs.shapes
  pub foreign : t.certs.foreign ≡ s.certs.foreign
  pub rechecked : t.rechecked ≡ rechecked_by t.program.of_module t.certs.sections func (code_in s func) (section_in s func)

-- a text of a function's code is read as this module, which wants no shapes
abbrev pub IsCode : Module → (func : ℕ) → Text → (n : Module) → Type 0
IsCode m func code n = IsReplaced m func code n × (wants_shapes n ≡ false)

-- the text is one of this section of a function, and no root slot of the function lacks a shape
abbrev pub IsShapedSection : Text → Module → (func : ℕ) → Section → Type 0
IsShapedSection text m func section = IsSection text m func section × (missing_root m func ≡ None)

-- a text of a function's code is read as this module, and with it a text of its section as this section
abbrev pub AreRead : Module → (func : ℕ) → (code text : Text) → (n : Module) → Section → Type 0
AreRead m func code text n section = IsCode m func code n × IsShapedSection text n func section

-- The texts of an edit of one function are read as this module and this section. Where the edit gives no section, its text is that of the present section, printed with the present code.
abbrev pub IsReadAt : State → (func : ℕ) → Edit → Module → Section → Type 0
IsReadAt s func (edit.Code name code) m section = AreRead (module_in s) func code (kept_text s func) m section
IsReadAt s func (edit.Cert name text) m section = (module_in s ≡ m) × IsShapedSection text m func section
IsReadAt s func (edit.Both name code text) m section = AreRead (module_in s) func code text m section

-- the session after an edit of one function, whose texts are read
abbrev pub IsEditedAt : State → (func : ℕ) → Edit → State → Type 0
IsEditedAt s func e t = (m : Module) × (section : Section) × IsReadAt s func e m section × IsPut s func m section t

-- the name in an edit
abbrev pub name_in : Edit → Text
name_in (edit.Code name code) = name
name_in (edit.Cert name section) = name
name_in (edit.Both name code section) = name

-- An edit is read as this module and this section: it names a function, and its texts are read as them.
abbrev pub IsRead : State → Edit → Module → Section → Type 0
IsRead s e m section = (func : ℕ) × (function_named (module_in s) (name_in e) ≡ Some func) × IsReadAt s func e m section

-- The session after an edit that is accepted: it names a function, whose code, section, or both are those of its texts.
abbrev pub IsEdited : State → Edit → State → Type 0
IsEdited s e t = (func : ℕ) × (function_named (module_in s) (name_in e) ≡ Some func) × IsEditedAt s func e t

-- ---- what is refused

-- the edit is accepted, unless memory runs out
abbrev pub IsEditAccepted : {X : Type 0} → Result X EditFault → Type 0
IsEditAccepted (Ok x) = Unit {0}
IsEditAccepted (Err e) = e ≢ fault.Memory → ⊥

-- the edit is refused for this fault, unless memory runs out
abbrev pub IsRefusedBy : {X : Type 0} → Result X EditFault → EditFault → Type 0
IsRefusedBy (Ok x) f = ⊥
IsRefusedBy (Err e) f = e ≢ fault.Memory → e ≡ f

-- the fault of an edit whose code has this fault
abbrev pub code_fault : ReadFault → EditFault
code_fault read.Memory = fault.Memory
code_fault f = fault.Code f

-- the fault of an edit whose section has this fault
abbrev pub section_fault : CertFault → EditFault
section_fault cert.Memory = fault.Memory
section_fault f = fault.Cert f

-- the fault of an edit of a function that is not there
abbrev pub no_function : Edit → EditFault
no_function (edit.Code name code) = fault.NoFunction
no_function (edit.Cert name section) = fault.NoSection
no_function (edit.Both name code section) = fault.NoFunction

-- a fault that is looked for last: something is missing of what is read
abbrev pub is_gap : CertFault → Bool
is_gap (cert.Missing function) = true
is_gap (cert.MissingBlock function block) = true
is_gap _ = false

-- the fault of an edit of a function in which this root slot has no shape
abbrev pub no_shape : (func slot : ℕ) → EditFault
no_shape func slot = fault.Cert (cert.MissingRoot func slot)

-- The first fault of an edit whose section has this fault, where this root slot has no shape, if one has none: that goes before what is looked for last.
abbrev pub first_fault : CertFault → (func : ℕ) → (slot : Option ℕ) → EditFault
first_fault f func None = section_fault f
first_fault f func (Some slot) = if is_gap f then no_shape func slot else section_fault f

-- the section of a function has this fault first; or it has none, and a root slot has no shape
abbrev pub HasSectionFault : Module → (func : ℕ) → Text → EditFault → Type 0
HasSectionFault m func text e =
    ((f : CertFault) × IsSectionFault text m func f × (first_fault f func (missing_root m func) ≡ e))
    ⊎ ((section : Section) × (slot : ℕ) × IsSection text m func section × (missing_root m func ≡ Some slot) × (no_shape func slot ≡ e))

-- a text of a function's code has this fault; or it is read, and shapes are wanted for what is read
abbrev pub HasTextFault : Module → (func : ℕ) → Text → EditFault → Type 0
HasTextFault m func code e =
    ((f : ReadFault) × IsReplaceFault m func code f × (code_fault f ≡ e)) ⊎ ((n : Module) × IsReplaced m func code n × (wants_shapes n ≡ true) × (fault.ShapesWanted ≡ e))

-- the code of a function has this fault; or it has none, and the section with it has
abbrev pub HasCodeFault : Module → (func : ℕ) → (code text : Text) → EditFault → Type 0
HasCodeFault m func code text e = HasTextFault m func code e ⊎ ((n : Module) × IsCode m func code n × HasSectionFault n func text e)

-- the texts of an edit of one function have this fault first
abbrev pub IsFaultAt : State → (func : ℕ) → Edit → EditFault → Type 0
IsFaultAt s func (edit.Code name code) e = HasCodeFault (module_in s) func code (kept_text s func) e
IsFaultAt s func (edit.Cert name section) e = HasSectionFault (module_in s) func section e
IsFaultAt s func (edit.Both name code section) e = HasCodeFault (module_in s) func code section e

-- An edit has this fault first: it names no function; or its texts have it.
abbrev pub IsEditFault : State → Edit → EditFault → Type 0
IsEditFault s e f =
    ((function_named (module_in s) (name_in e) ≡ None) × (no_function e ≡ f)) ⊎ ((func : ℕ) × (function_named (module_in s) (name_in e) ≡ Some func) × IsFaultAt s func e f)
