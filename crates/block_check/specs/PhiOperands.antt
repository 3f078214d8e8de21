-- The operands that come in to the phis of a block, in a table by the place of the phi and the block that it is entered from.
use Rattle.std.specs.Prelude.{◌≡◌, ℕ, ◌==◌, ◌&&◌, if◌then◌else◌, List, [], slice_get, Option, Some, None}
use Rattle.std.specs.List.{AllZip}
use Rattle.std.specs.Map.{lookup}
use Rattle.std.specs.Option.{option_or}
use Rattle.ir_ast.specs.declared.block.Block.{Block}
use Rattle.ir_ast.specs.declared.choices.Incoming.{Incoming}
use Rattle.ir_ast.specs.declared.choices.Phi.{Phi}
use Rattle.ir_ast.specs.declared.function.Function.{Function}
use Rattle.ir_ast.specs.declared.operand.Operand.{Operand}
use Rattle.block_rules.specs.Edges.{operand_from}

-- a table: an operand for each place and block
abbrev pub OperandTable : Type 0
OperandTable = List ((ℕ × ℕ) × Operand)

-- the operand that is recorded for a place and a block
abbrev pub operand_at : OperandTable → (place from : ℕ) → Option Operand
operand_at operands place from = lookup (λ key. (place == key.0) && (from == key.1)) operands

-- the entries of a phi, if there is one
abbrev pub entries_in : Option Phi → List Incoming
entries_in None = []
entries_in (Some phi) = phi.incoming

-- the entries of the phi at a place
abbrev pub entries_at : List Phi → (place : ℕ) → List Incoming
entries_at phis place = entries_in (slice_get phis place)

-- at one place operands were added for the blocks for which none was recorded there, and nothing else changed
abbrev pub AddsAt : (old new : OperandTable) → (place : ℕ) → (added : ℕ → Option Operand) → Type 0
AddsAt old new place added = (p from : ℕ) → operand_at new p from ≡ option_or (operand_at old p from) (if p == place then added from else None)

-- what is recorded is what comes in to these phis
abbrev pub AreOperands : Function → List Phi → OperandTable → Type 0
AreOperands f phis operands = (place from : ℕ) → operand_at operands place from ≡ operand_from f from (entries_at phis place)

-- a table for each block
abbrev pub AreOperandTables : Function → List Block → List OperandTable → Type 0
AreOperandTables f blocks tables = AllZip (λ block operands. AreOperands f block.phis operands) blocks tables
