-- The blocks of a function.
use Rattle.std.specs.Prelude.{ℕ, ◌+◌, Bool, ◌&&◌, nat_lt, List}
use Rattle.grammar.specs.Grammar.{pure, checked, look, ◌>>=◌, ◌>>◌}
use Rattle.grammar.specs.Takes.{Takes, first_takes, second_takes}
use Rattle.ir_tokens.specs.declared.token.Kind.{Kind}
use Rattle.ir_tokens.specs.declared.token.Kind.TheVariants as k
use Rattle.ir_ast.specs.declared.block.Block.{Block}
use Rattle.ir_ast.specs.declared.choices.Phi.{Phi}
use Rattle.ir_ast.specs.declared.instr.Instr.{Instr}
use Rattle.ir_forms.specs.declared.input.Input.{Input}
use Rattle.ir_forms.specs.Cursor.{kind, sees}
use Rattle.ir_forms.specs.Input.{Form, limit}
use Rattle.ir_forms.specs.Names.{new_label, numbered_label, unnamed_label}
use Rattle.ir_forms.specs.Choices.{phis}
use Rattle.ir_forms.specs.Records.{debug_records}
use Rattle.ir_forms.specs.Ends.{block_end, block_end_takes}
use Rattle.ir_forms.specs.Instructions.{body}
use Rattle.ir_forms.specs.ManyWith.{many_with}
use Rattle.ir_text.specs.declared.blocks.Blocks.{Blocks}

-- a function has at most 65,535 blocks
abbrev pub has_room : ℕ → Form (Unit {0})
has_room number = checked (λ _. nat_lt number 65535) limit

-- the label of a block with this number, written or not
abbrev pub label_by : ℕ → Kind → Form ℕ
label_by number k.LabelName = new_label number
label_by number k.LabelNumber = numbered_label number
label_by number _ = unnamed_label number

-- the label of the block with this number, or its number among the names, which may be left out
unfoldable pub block_label : ℕ → Form ℕ
block_label number = has_room number >> look (λ i. kind i.cursor) (label_by number)

-- the end of the block with this label, these phis and this body
abbrev pub ended_by : ℕ → List Phi → List Instr → Form Block
ended_by l ps xs = block_end >>= λ e. pure (record { label = l; phis = ps; body = xs; end = e })

-- what follows the phis of a block
abbrev pub after_phis : (number label : ℕ) → List Phi → Form Block
after_phis number l ps = body number >>= ended_by l ps

-- what follows the debug records before a block's phis
abbrev pub records_after : (number label : ℕ) → Form Block
records_after number l = phis >>= after_phis number l

-- what follows the label of a block
abbrev pub after_label : (number label : ℕ) → Form Block
after_label number l = debug_records >> records_after number l

-- the block with this number: its label, its phis, its body and its end
unfoldable pub block : ℕ → Form Block
block number = block_label number >>= after_label number

block_takes : (number : ℕ) → Takes (block number)
unfolding block
block_takes number =
    second_takes (block_label number) (after_label number) (λ l. second_takes debug_records (λ _. records_after number l) (λ _. second_takes phis (after_phis number l) (λ ps. second_takes (body number) (ended_by l ps) (λ xs. first_takes block_end (λ e. pure (record { label = l; phis = ps; body = xs; end = e })) block_end_takes))))

-- ---- the blocks of a function

-- the block after those so far
abbrev pub further : Blocks → Form Block
further b = block b.count

pub further_takes : (b : Blocks) → Takes (further b)
further_takes b = block_takes b.count

-- a function has a block at least
abbrev pub at_close : Blocks → Input → Bool
at_close b i = nat_lt 0 b.count && sees k.CloseBrace i.cursor

-- one block more
abbrev pub after_block : Blocks → Block → Blocks
after_block b x = record b { count = b.count + 1 }

-- the blocks of a function, up to the brace after them
unfoldable pub blocks : Form (List Block)
blocks = many_with at_close further further_takes after_block (record { count = 0 })
