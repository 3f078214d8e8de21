-- The forms of sections, and a certificate's text.
use Rattle.std.specs.Prelude.{◌≡◌, ℕ, ◌+◌, Bool, true, false, not, ◌||◌, if◌then◌else◌, List, [], ◌∷◌, Option, Some, None, slice_get, codes}
use Rattle.ir_ast.specs.declared.function.Function.{Function}
use Rattle.ir_ast.specs.declared.module.Module.{Module}
use Rattle.ir_ast.specs.declared.outside.Outside.{Outside}
use Rattle.ir_ast.specs.declared.shapes.Shapes.{Shapes}
use Rattle.grammar.specs.Grammar.{pure, ◌>>=◌, ◌>>◌, step, checked, look, refuse}
use Rattle.grammar.specs.Many.{many}
use Rattle.grammar.specs.Takes.{Takes}
use Rattle.ir_tokens.specs.Bytes.{Text as Bytes}
use Rattle.name_text.specs.Numbers.{is_number}
use Rattle.certs.specs.Families.{family_of_type, family_of_value, is_opaque_text}
use Rattle.certs.specs.declared.certs.Certs.{Certs}
use Rattle.certificate.specs.Drafts.{first_unlisted}
use Rattle.name_text.specs.Reader.{left, ended, word, begins, recorded, recorded_falls}
use Rattle.name_text.specs.Forms.{skip, taken, expect, expect_takes, line_end, update}
use Rattle.certificate.specs.Input.{Progress, Input, Form, start_of, with_promise, with_block, with_section, emptied}
use Rattle.certificate.specs.Forms.{unknown, marked, new_function, new_parameter, new_block, begin}
use Rattle.certificate.specs.Lines.{promise, line}
use Rattle.certificate.specs.Ends.{line_takes}
use Rattle.certificate.specs.ForeignForms.{foreign_names}
use Rattle.certificate.specs.NumberForms.{layout_numbers}
use Rattle.certificate.specs.ShapeForms.{shape_lines, taken_shapes, none_missing}
use Rattle.certificate.specs.Starts.{goes_with, AreStart}
use Rattle.certificate.specs.declared.shape_draft.ShapeDraft.{ShapeDraft}
use Rattle.certificate.specs.declared.progress.Kept.{Kept}
use Rattle.certs.specs.declared.section.Promise.{Promise}
use Rattle.certs.specs.declared.section.Section.{Section}
use Rattle.name_text.specs.declared.found.WordFault.{WordFault}
use Rattle.name_text.specs.declared.found.WordFault.TheVariants.{Syntax, Wrong, Memory}
use Rattle.certificate.specs.declared.mistake.Mistake.{Mistake}
use Rattle.certificate.specs.declared.mistake.Mistake.TheVariants.{Version, UnknownName, ListedTwice, MissingWord, MissingGlobal, MissingRoot, Missing, MissingBlock}
use Rattle.certificate.specs.declared.fault.CertFault.{CertFault}
use Rattle.certificate.specs.declared.fault.CertFault.TheVariants as fault
use Rattle.name_text.specs.Places.{place}
use Rattle.grammar.specs.Takes.{first_takes}
use Rattle.std.proofs.Common.{lit<}

-- the number of the version that goes with the module; what is read is whether it is the one with shapes
unfoldable pub version : Module → Form Bool
version m = do
  checked (λ i. is_number (word i)) (λ i. Syntax (left i))
  checked (λ i. goes_with m (word i)) (λ i. Wrong (Version (left i)))
  look (begins (50 ∷ [])) taken

-- ---- parameters and the result

-- what is promised of a parameter, after its first word
abbrev pub parameter_after : Module → Function → Form (Unit {0})
parameter_after m f = do
  place ← new_parameter f
  promise ← promise m (family_of_value m f place)
  update (with_promise place promise)

-- what is promised of a parameter
unfoldable pub parameter : Module → Function → Form (Unit {0})
parameter m f = expect (codes "param") >> parameter_after m f

-- no parameter comes here
abbrev pub past_parameters : Input → Bool
past_parameters i = not (begins (codes "param") i)

-- what is promised of a parameter takes bytes
pub parameter_takes : (m : Module) (f : Function) → Takes (parameter m f)
unfolding parameter
parameter_takes m f = first_takes (expect (codes "param")) (λ _. parameter_after m f) (expect_takes Progress Mistake (codes "param") (lit< tt))

-- what is promised of parameters
unfoldable pub parameters : Module → Function → Form (Unit {0})
parameters m f = many past_parameters (parameter m f) (parameter_takes m f) >> pure tt

-- what is promised of the result, if its word is there
abbrev pub result_by : Module → Function → Bool → Form (Option Promise)
result_by m f true = skip >> promise m (family_of_type m f.returned) >>= λ promise. pure (Some promise)
result_by m f false = pure None

-- what is promised of the result, or nothing
unfoldable pub result_line : Module → Function → Form (Option Promise)
result_line m f = look (begins (codes "result")) (result_by m f)

-- ---- blocks

-- a block or the section ends here
abbrev pub past_lines : Input → Bool
past_lines i = begins (codes "block") i || begins (codes "end") i

-- the claims of a block
unfoldable pub lines : Module → Function → (block : ℕ) → Form (Unit {0})
lines m f block = many past_lines (line m f block) (line_takes m f block) >> pure tt

-- the name of a value that is not listed is unknown
abbrev pub listed_by : Option ℕ → Form (Unit {0})
listed_by None = pure tt
listed_by (Some left) = refuse (λ _. Wrong (UnknownName left))

-- the block lists each value that it has to list
unfoldable pub all_listed : (block : ℕ) → Form (Unit {0})
all_listed block = look (λ i. first_unlisted block i.read.draft.values i.read.draft.wanted) listed_by

-- a block after its first word
abbrev pub block_after : Module → Function → Form (Unit {0})
block_after m f = do
  block ← new_block f
  line_end
  lines m f block
  all_listed block
  update (with_block block)

-- a block and its claims
unfoldable pub block : Module → Function → Form (Unit {0})
block m f = expect (codes "block") >> block_after m f

-- no block comes here
abbrev pub past_blocks : Input → Bool
past_blocks i = not (begins (codes "block") i)

-- a block takes bytes
pub block_takes : (m : Module) (f : Function) → Takes (block m f)
unfolding block
block_takes m f = first_takes (expect (codes "block")) (λ _. block_after m f) (expect_takes Progress Mistake (codes "block") (lit< tt))

-- the blocks of a section
unfoldable pub blocks : Module → Function → Form (Unit {0})
blocks m f = many past_blocks (block m f) (block_takes m f) >> pure tt

-- ---- sections

-- a section between its first line and its end
unfoldable pub body : Module → Function → Form (Option Promise)
body m f = do
  begin m f
  parameters m f
  promise ← result_line m f
  blocks m f
  pure promise

-- a section after its function's name
unfoldable pub section_of : Module → (function : ℕ) → Function → Form (Unit {0})
section_of m function f = do
  mark ← marked
  line_end
  promise ← body m f
  expect (codes "end")
  line_end
  update (with_section function mark promise)

-- the section of this function, if it is defined
abbrev pub section_by : Module → (function : ℕ) → Option Function → Form (Unit {0})
section_by m function None = unknown
section_by m function (Some f) = section_of m function f

-- a section after its first word
unfoldable pub section_after : Module → Form (Unit {0})
section_after m = new_function m >>= λ function. section_by m function (slice_get m.functions function)

-- a section
unfoldable pub section : Module → Form (Unit {0})
section m = expect (codes "function") >> section_after m

-- a section takes bytes
pub section_takes : (m : Module) → Takes (section m)
unfolding section
section_takes m = first_takes (expect (codes "function")) (λ _. section_after m) (expect_takes Progress Mistake (codes "function") (lit< tt))

-- ---- the whole

-- sections up to the text's end
unfoldable pub sections : Module → Form (Unit {0})
sections m = many ended (section m) (section_takes m) >> pure tt

-- the block that is missing of a function, if there is one
abbrev pub gap_in : (function : ℕ) → Option ℕ → Option Mistake
gap_in function None = None
gap_in function (Some block) = Some (MissingBlock function block)

-- what is missing of a function
abbrev pub gap_of : (function : ℕ) → Option Kept → Option Mistake
gap_of function None = Some (Missing function)
gap_of function (Some kept) = gap_in function kept.missing

-- the first of what is missing
abbrev pub gap_or : Option Mistake → Option Mistake → Option Mistake
gap_or (Some gap) others = Some gap
gap_or None others = others

-- the first function or block without a section, from this function on
abbrev pub first_gap : (function : ℕ) → List (Option Kept) → Option Mistake
first_gap function [] = None
first_gap function (kept ∷ more) = gap_or (gap_of function kept) (first_gap (function + 1) more)

-- the sections that are there
abbrev pub sections_in : List (Option Kept) → List Section
sections_in [] = []
sections_in (None ∷ more) = sections_in more
sections_in (Some kept ∷ more) = kept.section ∷ sections_in more

-- the sections, if nothing is missing
abbrev pub finished_by : Option Mistake → Form (List Section)
finished_by None = step (λ i. sections_in i.read.sections) (recorded emptied) (recorded_falls emptied)
finished_by (Some gap) = refuse (λ _. Wrong gap)

-- each function and each of its blocks has a section
unfoldable pub finished : Form (List Section)
finished = look (λ i. first_gap 0 i.read.sections) finished_by

-- the shapes that go with a module: none with a typed text
abbrev pub shapes_of : Module → Shapes → Option Shapes
shapes_of m shapes = if is_opaque_text m then Some shapes else None

-- what is said of the code outside: numbers of layouts, and functions that are trusted
unfoldable pub outside_lines : Module → Form Outside
outside_lines m = do
  numbers ← layout_numbers m
  functions ← foreign_names m
  pure (record { functions = functions; numbers = numbers })

-- certificates after what is said of the code outside, without shapes
unfoldable pub without_shapes : Module → (foreign : Outside) → Form Certs
without_shapes m foreign = do
  sections m
  own ← finished
  pure (record { sections = own; shapes = None; foreign = foreign })

-- certificates after what is said of the code outside, with shapes, of which none is missing
unfoldable pub with_shapes : Module → (foreign : Outside) → Form Certs
with_shapes m foreign = do
  shape_lines m
  draft ← taken_shapes
  sections m
  none_missing m draft
  own ← finished
  pure (record { sections = own; shapes = shapes_of m draft.shapes; foreign = foreign })

-- with shapes or without them
abbrev pub certs_by : Module → (foreign : Outside) → (shaped : Bool) → Form Certs
certs_by m foreign true = with_shapes m foreign
certs_by m foreign false = without_shapes m foreign

-- a text of certificates
unfoldable pub file : Module → Form Certs
file m = do
  expect (codes "cert")
  shaped ← version m
  line_end
  foreign ← outside_lines m
  certs_by m foreign shaped

-- the text is one of these certificates
abbrev pub IsCert : Bytes → Module → Certs → Type 0
IsCert bytes m certs = (shapes : ShapeDraft) × AreStart m shapes × (o : Input) × (file m).says (start_of m shapes bytes) certs o

-- a fault with its place
abbrev pub placed : Bytes → WordFault Mistake → CertFault
placed bytes (Syntax rest) = fault.Syntax (place bytes rest)
placed bytes (Wrong (Version rest)) = fault.Version (place bytes rest)
placed bytes (Wrong (UnknownName rest)) = fault.UnknownName (place bytes rest)
placed bytes (Wrong (ListedTwice rest)) = fault.ListedTwice (place bytes rest)
placed bytes (Wrong (MissingWord layout word)) = fault.MissingWord layout word
placed bytes (Wrong (MissingGlobal symbol)) = fault.MissingGlobal symbol
placed bytes (Wrong (MissingRoot function slot)) = fault.MissingRoot function slot
placed bytes (Wrong (Missing function)) = fault.Missing function
placed bytes (Wrong (MissingBlock function block)) = fault.MissingBlock function block
placed bytes Memory = fault.Memory

-- the text is of the format up to a place, where it has this fault
abbrev pub IsFault : Bytes → Module → CertFault → Type 0
IsFault bytes m fault = (shapes : ShapeDraft) × AreStart m shapes × (found : WordFault Mistake) × (file m).stuck (start_of m shapes bytes) found × (placed bytes found ≡ fault)
