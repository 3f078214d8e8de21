-- The section of one function, read anew from a text of its own.
use Rattle.std.specs.Prelude.{◌≡◌, ℕ, Bool, false, ◌==◌, List, [], ◌∷◌, Option, Some, None, slice_get, codes}
use Rattle.ir_ast.specs.declared.function.Function.{Function}
use Rattle.ir_ast.specs.declared.module.Module.{Module}
use Rattle.grammar.specs.Grammar.{◌>>◌, step, checked, look, refuse}
use Rattle.ir_tokens.specs.Bytes.{Text as Bytes}
use Rattle.name_text.specs.Words.{past_lines}
use Rattle.name_text.specs.Reader.{left, ended, word, recorded, recorded_falls}
use Rattle.name_text.specs.Forms.{skip, expect}
use Rattle.name_text.specs.declared.found.WordFault.{WordFault}
use Rattle.name_text.specs.declared.found.WordFault.TheVariants.{Syntax, Wrong}
use Rattle.certs.specs.declared.section.Section.{Section}
use Rattle.certificate.specs.Drafts.{no_draft}
use Rattle.certificate.specs.Forms.{unknown}
use Rattle.certificate.specs.Input.{Input, Form, emptied}
use Rattle.certificate.specs.Names.{function_of_word}
use Rattle.certificate.specs.ShapeDrafts.{no_shapes}
use Rattle.certificate.specs.Text.{section_of, gap_in, placed}
use Rattle.certificate.specs.declared.fault.CertFault.{CertFault}
use Rattle.certificate.specs.declared.mistake.Mistake.{Mistake}
use Rattle.certificate.specs.declared.mistake.Mistake.TheVariants.{Missing}
use Rattle.certificate.specs.declared.naming.Naming.{Naming}
use Rattle.certificate.specs.declared.naming.Naming.TheVariants.{Named}
use Rattle.certificate.specs.declared.progress.Kept.{Kept}

-- the state before a text: the one function has no section
abbrev pub start_anew : Bytes → Input
start_anew bytes = record { rest = past_lines false bytes; read = record { sections = None ∷ []; draft = no_draft; shapes = no_shapes; foreign = []; numbers = [] } }

-- whether a word names this function
abbrev pub is_function : (function : ℕ) → Naming → Bool
is_function function (Named named) = named == function
is_function function _ = false

-- the name of this function
unfoldable pub own_name : Module → (function : ℕ) → Form (Unit {0})
own_name m function = checked (λ i. is_function function (function_of_word m (word i))) (λ i. Syntax (left i)) >> skip

-- the section of this function after its name, if it is defined
abbrev pub own_section : Module → Option Function → Form (Unit {0})
own_section m None = unknown
own_section m (Some f) = section_of m 0 f

-- what is kept of the one function
abbrev pub only_kept : List (Option Kept) → Option Kept
only_kept [] = None
only_kept (kept ∷ more) = kept

-- the section, if nothing of it is missing
abbrev pub whole_by : Option Mistake → Section → Form Section
whole_by None section = step (λ _. section) (recorded emptied) (recorded_falls emptied)
whole_by (Some gap) section = refuse (λ _. Wrong gap)

-- the section that is kept of this function
abbrev pub kept_by : (function : ℕ) → Option Kept → Form Section
kept_by function None = refuse (λ _. Wrong (Missing function))
kept_by function (Some kept) = whole_by (gap_in function kept.missing) kept.section

-- each of the function's blocks has its claims
unfoldable pub finished_anew : (function : ℕ) → Form Section
finished_anew function = look (λ i. only_kept i.read.sections) (kept_by function)

-- a text of one section, of the function with this number
unfoldable pub file_anew : Module → (function : ℕ) → Form Section
file_anew m function = do
  expect (codes "function")
  own_name m function
  own_section m (slice_get m.functions function)
  checked ended (λ i. Syntax (left i))
  finished_anew function

-- the text is one of this section, of the function with this number
abbrev pub IsSection : Bytes → Module → (function : ℕ) → Section → Type 0
IsSection bytes m function section = (o : Input) × (file_anew m function).says (start_anew bytes) section o

-- the text is a section of the function up to a place, where it has this fault
abbrev pub IsSectionFault : Bytes → Module → (function : ℕ) → CertFault → Type 0
IsSectionFault bytes m function fault = (found : WordFault Mistake) × (file_anew m function).stuck (start_anew bytes) found × (placed bytes found ≡ fault)
