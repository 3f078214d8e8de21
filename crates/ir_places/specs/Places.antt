-- The body of a function, read by the forms of the reader, with how many tokens are left before each instruction.
use Rattle.std.specs.Prelude.{◌≡◌, ℕ, ◌+◌, ◌-◌, Bool, ◌&&◌, ◌==◌, if◌then◌else◌, nat_lt, List, length, slice_get, Option, Some, None}
use Rattle.grammar.specs.Grammar.{pure, look, ◌>>=◌, ◌>>◌}
use Rattle.grammar.specs.Many.{many}
use Rattle.grammar.specs.Takes.{Takes, first_takes, second_takes}
use Rattle.ir_tokens.specs.declared.token.Kind.TheVariants as k
use Rattle.ir_forms.specs.declared.input.Input.{Input}
use Rattle.ir_forms.specs.Cursor.{kind, sees}
use Rattle.ir_forms.specs.Input.{Form, left, expect}
use Rattle.ir_forms.specs.Choices.{phi, phi_takes, at_no_phi}
use Rattle.ir_forms.specs.Ends.{block_end, block_end_takes, ends_block}
use Rattle.ir_forms.specs.Instructions.{placed, placed_takes}
use Rattle.ir_forms.specs.ManyWith.{many_with}
use Rattle.ir_forms.specs.Records.{debug_records}
use Rattle.ir_forms.specs.Sites.{first_of}
use Rattle.ir_text.specs.Blocks.{block_label}
use Rattle.ir_text.specs.ItemsOfText.{open_body}
use Rattle.ir_places.specs.declared.places.BlockPlaces.{BlockPlaces}
use Rattle.ir_places.specs.declared.places.BlocksSoFar.{BlocksSoFar}
use Rattle.ir_places.specs.declared.places.SoFar.{SoFar}

-- this form, of which only the number of tokens left before it is kept
abbrev pub place_of : {A : Type 0} → Form A → Form ℕ
place_of g = look left (λ n. g >>= λ _. pure n)

pub place_takes : {A : Type 0} (g : Form A) → Takes g → Takes (place_of g)
place_takes g takes i a o h = first_takes g (λ _. pure (left i)) takes i a o h

-- ---- phis

-- how many tokens are left before a phi
unfoldable pub phi_place : Form ℕ
phi_place = place_of phi

pub phi_place_takes : Takes phi_place
unfolding phi_place
phi_place_takes = place_takes phi phi_takes

-- the same of each phi of a block
abbrev pub phi_places : Form (List ℕ)
phi_places = many at_no_phi phi_place phi_place_takes

-- ---- the instructions of a body

-- how many tokens are left before an instruction of a body
abbrev pub instruction_place : SoFar → Form ℕ
instruction_place s = place_of (placed s.site)

pub instruction_place_takes : (s : SoFar) → Takes (instruction_place s)
instruction_place_takes s = place_takes (placed s.site) (placed_takes s.site)

-- the instruction that ends the block begins here
abbrev pub at_end : SoFar → Input → Bool
at_end s i = ends_block (kind i.cursor)

-- after a further instruction
abbrev pub after_instruction : SoFar → ℕ → SoFar
after_instruction s n = record s { site = record s.site { place = s.site.place + 1 } }

-- how many tokens are left before each instruction of the body of the block with this number
unfoldable pub instruction_places : ℕ → Form (List ℕ)
instruction_places number = many_with at_end instruction_place instruction_place_takes after_instruction (record { site = first_of number })

-- ---- blocks

-- a block whose phis and instructions have these places, after its body
abbrev pub ended_with : (phis body : List ℕ) → Form BlockPlaces
ended_with ps xs = place_of block_end >>= λ e. pure (record { phis = ps; body = xs; end = e })

-- a block whose phis have these places, after them
abbrev pub places_after_phis : (number : ℕ) → List ℕ → Form BlockPlaces
places_after_phis number ps = instruction_places number >>= ended_with ps

-- a block after the debug records before its phis
abbrev pub places_after_records : (number : ℕ) → Form BlockPlaces
places_after_records number = phi_places >>= places_after_phis number

-- a block after its label
abbrev pub places_after_label : (number : ℕ) → Form BlockPlaces
places_after_label number = debug_records >> places_after_records number

-- the block with this number: its label, its phis, its body and its end
unfoldable pub block_places : ℕ → Form BlockPlaces
block_places number = block_label number >> places_after_label number

block_places_takes : (number : ℕ) → Takes (block_places number)
unfolding block_places
block_places_takes number =
    second_takes (block_label number) (λ _. places_after_label number) (λ _. second_takes debug_records (λ _. places_after_records number) (λ _. second_takes phi_places (places_after_phis number) (λ ps. second_takes (instruction_places number) (ended_with ps) (λ xs. first_takes (place_of block_end) (λ e. pure (record { phis = ps; body = xs; end = e })) (place_takes block_end block_end_takes)))))

-- how many tokens are left before an instruction of a block, where its phis are counted first and its end is the last one
abbrev pub place_in : BlockPlaces → (place : ℕ) → Option ℕ
place_in b place = if nat_lt place (length b.phis) then slice_get b.phis place else (if nat_lt place (length b.phis + length b.body) then slice_get b.body (place - length b.phis) else (if place == length b.phis + length b.body then Some b.end else None))

-- ---- the body of a function

-- the block after those so far
abbrev pub further : BlocksSoFar → Form BlockPlaces
further s = block_places s.count

pub further_takes : (s : BlocksSoFar) → Takes (further s)
further_takes s = block_places_takes s.count

-- a function has a block at least
abbrev pub at_close : BlocksSoFar → Input → Bool
at_close s i = nat_lt 0 s.count && sees k.CloseBrace i.cursor

-- one block more
abbrev pub after_block : BlocksSoFar → BlockPlaces → BlocksSoFar
after_block s b = record s { count = s.count + 1 }

-- the places of the blocks of a function, up to the brace after them
abbrev pub all_places : Form (List BlockPlaces)
all_places = many_with at_close further further_takes after_block (record { count = 0 })

-- the body of a function in its braces
unfoldable pub body_places : Form (List BlockPlaces)
body_places = do
  open_body
  bs ← all_places
  expect k.CloseBrace
  pure bs
