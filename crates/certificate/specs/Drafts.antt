-- The section that is read.
use Rattle.std.specs.Prelude.{ℕ, ◌==◌, Bool, true, false, not, if◌then◌else◌, List, [], ◌∷◌, ◌++◌, length, map, position, replicate, slice_get, slice_set, Option, Some, None}
use Rattle.ir_ast.specs.declared.function.Function.{Function}
use Rattle.ir_ast.specs.declared.module.Module.{Module}
use Rattle.certs.specs.RootNames.{root_names}
use Rattle.certificate.specs.declared.draft.SectionDraft.{SectionDraft}
use Rattle.certificate.specs.declared.draft.RequiredValue.{RequiredValue}
use Rattle.certs.specs.declared.section.Claim.{Claim}
use Rattle.certs.specs.declared.section.Promise.{Promise}

-- ---- drafts

-- no section is read
abbrev pub no_draft : SectionDraft
no_draft = record { roots = []; parameters = []; given = []; blocks = []; lines = []; values = []; slots = []; wanted = [] }

-- nothing is read so far; the entry has no claims to come
abbrev pub draft_of : Module → Function → SectionDraft
draft_of m f = record {
  roots = root_names m f;
  parameters = replicate (length f.parameters) None;
  given = slice_set (replicate (length f.blocks) false) 0 true;
  blocks = map (λ _. []) f.blocks;
  lines = [];
  values = replicate (length f.locals) None;
  slots = replicate (length f.locals) None;
  wanted = [];
}

-- with this promise of the parameter at this place
abbrev pub promised : (place : ℕ) → Promise → SectionDraft → SectionDraft
promised place promise draft = record draft { parameters = slice_set draft.parameters place (Some promise) }

-- a value is named that the block has to list
abbrev pub wanting : (value left : ℕ) → SectionDraft → SectionDraft
wanting value left draft = record draft { wanted = draft.wanted ++ record { value = value; left = left } ∷ [] }

-- the block lists this value
abbrev pub listing : (block value : ℕ) → Claim → SectionDraft → SectionDraft
listing block value line draft = record draft { lines = draft.lines ++ line ∷ []; values = slice_set draft.values value (Some block) }

-- the block lists this slot
abbrev pub listing_slot : (block slot : ℕ) → Claim → SectionDraft → SectionDraft
listing_slot block slot line draft = record draft { lines = draft.lines ++ line ∷ []; slots = slice_set draft.slots slot (Some block) }

-- the block that is read has had its claims
abbrev pub block_ended : (block : ℕ) → SectionDraft → SectionDraft
block_ended block draft = record draft { given = slice_set draft.given block true; blocks = slice_set draft.blocks block draft.lines; lines = []; wanted = [] }

-- the block at hand lists it
abbrev pub is_in : (block : ℕ) → Option (Option ℕ) → Bool
is_in block (Some (Some last)) = last == block
is_in block _ = false

-- how much of the text is left where the first value is named that the block does not list
abbrev pub first_unlisted : (block : ℕ) → (values : List (Option ℕ)) → List RequiredValue → Option ℕ
first_unlisted block values [] = None
first_unlisted block values (wanted ∷ more) = if is_in block (slice_get values wanted.value) then first_unlisted block values more else Some wanted.left

-- the first block that has not had its claims
abbrev pub first_missing : SectionDraft → Option ℕ
first_missing draft = position not draft.given
