-- One function with its section in a program, and what an edit gives beside them.
use Rattle.std.specs.Prelude.{◌≡◌, ◌≢◌, ℕ, List, slice_get, slice_set, Option, Some, None}
use Rattle.ir_ast.specs.declared.function.Function.{Function}
use Rattle.ir_ast.specs.declared.module.Module.{Module}
use Rattle.ir_tokens.specs.Bytes.{Text}
use Rattle.copies.specs.Tables.{tables_of}
use Rattle.ir_text.specs.Replaced.{IsReplaced}
use Rattle.copies.specs.declared.tables.Tables.{Tables}
use Rattle.certs.specs.declared.certs.Certs.{Certs}
use Rattle.certs.specs.declared.section.Section.{Section}
use Rattle.layout.specs.Functions.{with_functions, laid_with}
use Rattle.layout.specs.Layouts.{LaidOut, AreLayouts, AreSizes}
use Rattle.answers.specs.KeptRows.{AreKept}
use Rattle.recheck.specs.Edits.{AreRead, IsShapedSection}
use Rattle.recheck.specs.Session.{State, IsAnswered}
use Rattle.recheck.specs.Interface.{rechecked_by}
use Rattle.recheck.specs.declared.kept.KeptWork.{KeptWork}

-- a session of these parts, whose certificates are other ones but for their sections
abbrev pub state : LaidOut → (others : Certs) → (sections : List Section) → (rechecked : ℕ) → State
state program others sections rechecked = record { program = program; certs = record others { sections = sections }; rechecked = rechecked }

-- the module with this function in the place of the one with this number
abbrev pub with_function : Module → (func : ℕ) → Function → Module
with_function m func f = with_functions m (slice_set m.functions func f)

-- the program has the tables and functions of another one, but for this function, which had this code there
pub record IsWithCode (p q : LaidOut) (func : ℕ) (old : Function) : Type 0 where
  pub tables : q ≡ laid_with p q.of_module.functions
  pub others : (other : ℕ) → other ≢ func → slice_get q.of_module.functions other ≡ slice_get p.of_module.functions other
  pub code : slice_get p.of_module.functions func ≡ Some old

-- the certificates are other ones, but for that of this function, which was this one there
pub record IsWithSection (certs others : List Section) (func : ℕ) (past : Section) : Type 0 where
  pub others_same : (other : ℕ) → other ≢ func → slice_get others other ≡ slice_get certs other
  pub section : slice_get certs func ≡ Some past

-- `section` is in the place of the function's section, and `count` functions were checked again
pub record IsPutWith (p : LaidOut) (certs : List Section) (func : ℕ) (section : Section) (q : LaidOut) (others : List Section) (count : ℕ) : Type 0 where
  pub certs_are : others ≡ slice_set certs func section
  pub rechecked : count ≡ rechecked_by q.of_module others func (slice_get p.of_module.functions func) (slice_get certs func)

-- the section of this text is in the place of the function's, and `count` functions were checked again
abbrev pub IsTextPut : (p : LaidOut) (certs : List Section) (func : ℕ) → Text → (q : LaidOut) (others : List Section) → (count : ℕ) → Type 0
IsTextPut p certs func text q others count = (section : Section) × IsShapedSection text q.of_module func section × IsPutWith p certs func section q others count

-- The function of this code and the section of this text are in the place of the function's, and `count` functions were checked again. The program is laid out.
pub record IsBothPut (p : LaidOut) (certs : List Section) (func : ℕ) (code text : Text) (q : LaidOut) (others : List Section) (count : ℕ) : Type 0 where
  pub of_code : IsReplaced p.of_module func code q.of_module
  pub laid_out : AreLayouts q.of_module q.layouts
  pub sized : AreSizes q.of_module q.sizes
  pub of_text : IsTextPut p certs func text q others count

-- The function of this code and the section of this text are those of this program, which is laid out, and of this section.
pub record IsReadAnew (m : Module) (func : ℕ) (code text : Text) (q : LaidOut) (section : Section) : Type 0 where
  pub are_read : AreRead m func code text q.of_module section
  pub laid_out : AreLayouts q.of_module q.layouts
  pub sized : AreSizes q.of_module q.sizes

-- tables that are ready for the reader of the next code are those of the module
abbrev pub AreReady : Module → Option Tables → Type 0
AreReady m None = Unit {0}
AreReady m (Some tables) = tables ≡ tables_of m

-- what a session keeps beside its program and its certificates goes with them
pub record IsKept (program : LaidOut) (certs : List Section) (kept : KeptWork) : Type 0 where
  pub answered : IsAnswered program certs kept.functions.answers
  pub rows : AreKept program certs kept.functions.rows
  pub ready : AreReady program.of_module kept.tables
