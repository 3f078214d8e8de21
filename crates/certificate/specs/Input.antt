-- What a certificate is read from, and what is read so far.
use Rattle.std.specs.Prelude.{ℕ, false, List, [], ◌∷◌, ◌++◌, Option, Some, None, map, slice_set}
use Rattle.ir_ast.specs.declared.function.Function.{Function}
use Rattle.ir_ast.specs.declared.module.Module.{Module}
use Rattle.ir_ast.specs.declared.outside.LayoutNumber.{LayoutNumber}
use Rattle.ir_tokens.specs.Bytes.{Text}
use Rattle.name_text.specs.Words.{past_lines}
use Rattle.name_text.specs.Reader as reader
use Rattle.name_text.specs.declared.reader.Reader.{Reader}
use Rattle.certificate.specs.Drafts.{no_draft, draft_of, promised, wanting, listing, listing_slot, block_ended, first_missing}
use Rattle.certificate.specs.ShapeDrafts.{no_shapes}
use Rattle.certificate.specs.declared.draft.SectionDraft.{SectionDraft}
use Rattle.certificate.specs.declared.mistake.Mistake.{Mistake}
use Rattle.certificate.specs.declared.shape_draft.ShapeDraft.{ShapeDraft}
use Rattle.certificate.specs.declared.progress.Kept.{Kept}
use Rattle.certs.specs.declared.section.Claim.{Claim}
use Rattle.certs.specs.declared.section.Mark.{Mark}
use Rattle.certs.specs.declared.section.Promise.{Promise}

-- what is read so far
pub record Progress : Type 0 where
  pub sections : List (Option Kept)  -- by the numbers of the functions
  pub draft : SectionDraft  -- of the section that is read
  pub shapes : ShapeDraft
  pub foreign : List ℕ  -- the functions outside that are trusted
  pub numbers : List LayoutNumber  -- the numbers of layouts

-- a certificate's text, and what is read of it so far
abbrev pub Input : Type 0
Input = Reader Progress

-- a form of a certificate's text
abbrev pub Form : Type 0 → Type 1
Form A = reader.Form Progress Mistake A

-- nothing is read so far: no function has a section
abbrev pub nothing_read : Module → ShapeDraft → Progress
nothing_read m shapes = record { sections = map (λ _. None) m.functions; draft = no_draft; shapes = shapes; foreign = []; numbers = [] }

-- the state before a text
abbrev pub start_of : Module → ShapeDraft → Text → Input
start_of m shapes bytes = record { rest = past_lines false bytes; read = nothing_read m shapes }

-- at the beginning of this function's section
unfoldable pub begun : Module → Function → Progress → Progress
begun m f p = record p { draft = draft_of m f }

-- with this promise of the parameter at this place
unfoldable pub with_promise : (place : ℕ) → Promise → Progress → Progress
with_promise place promise p = record p { draft = promised place promise p.draft }

-- with this value that the block has to list, named where this much of the text is left
unfoldable pub wants : (value left : ℕ) → Progress → Progress
wants value left p = record p { draft = wanting value left p.draft }

-- with this claim about a value
unfoldable pub with_claim : (block value : ℕ) → Claim → Progress → Progress
with_claim block value line p = record p { draft = listing block value line p.draft }

-- with this claim about a slot
unfoldable pub with_slot_claim : (block slot : ℕ) → Claim → Progress → Progress
with_slot_claim block slot line p = record p { draft = listing_slot block slot line p.draft }

-- after the claims of this block
unfoldable pub with_block : (block : ℕ) → Progress → Progress
with_block block p = record p { draft = block_ended block p.draft }

-- what is kept of the section that is read
abbrev pub kept : Mark → (result : Option Promise) → SectionDraft → Kept
kept mark promise draft = record { section = record { mark = mark; parameters = draft.parameters; result = promise; blocks = draft.blocks }; missing = first_missing draft }

-- after the section of this function
unfoldable pub with_section : (function : ℕ) → Mark → (result : Option Promise) → Progress → Progress
with_section function mark promise p = record p { sections = slice_set p.sections function (Some (kept mark promise p.draft)); draft = no_draft }

-- with no section left
unfoldable pub emptied : Progress → Progress
emptied p = record p { sections = [] }

-- with this change of the shapes
unfoldable pub shaping : (change : ShapeDraft → ShapeDraft) → Progress → Progress
shaping change p = record p { shapes = change p.shapes }

-- with no shapes left
unfoldable pub unshaped : Progress → Progress
unshaped p = record p { shapes = no_shapes }

-- with one more function outside
unfoldable pub with_foreign : (symbol : ℕ) → Progress → Progress
with_foreign symbol p = record p { foreign = p.foreign ++ symbol ∷ [] }

-- with no function outside left
unfoldable pub without_foreign : Progress → Progress
without_foreign p = record p { foreign = [] }

-- with the number of one more layout
unfoldable pub with_number : LayoutNumber → Progress → Progress
with_number line p = record p { numbers = p.numbers ++ line ∷ [] }

-- with no number of a layout left
unfoldable pub without_numbers : Progress → Progress
without_numbers p = record p { numbers = [] }
