-- K16 by what is found of a function once: its predecessors, and what comes in to its phis.
use Rattle.std.specs.Prelude.{ℕ, Bool, true, false, ◌&&◌, [], slice_index_or, Option, Some, None}
use Rattle.std.specs.List.{list_all}
use Rattle.ir_ast.specs.declared.choices.Incoming.{Incoming}
use Rattle.ir_ast.specs.declared.operand.Operand.{Operand}
use Rattle.types.specs.ValueTypes.{target_of}
use Rattle.block_rules.specs.Edges.{is_operand, is_there}
use Rattle.block_check.specs.Predecessors.{is_listed}
use Rattle.block_check.specs.PhiOperands.{operand_at}
use Rattle.block_check.specs.declared.under_check.FunctionUnderCheck.{FunctionUnderCheck}

-- the operand that is recorded for a block, at a place of another
abbrev pub recorded_from : FunctionUnderCheck → (to place from : ℕ) → Option Operand
recorded_from s to place from = operand_at (slice_index_or s.operands.now to []) place from

-- a block that exists is listed
abbrev pub is_target_listed : FunctionUnderCheck → (to : ℕ) → (from : Option ℕ) → Bool
is_target_listed s to None = false
is_target_listed s to (Some from) = is_listed s.predecessors.now to from

-- an operand is the one that is recorded
abbrev pub is_recorded : FunctionUnderCheck → (to place : ℕ) → Operand → (from : Option ℕ) → Bool
is_recorded s to place operand None = true
is_recorded s to place operand (Some from) = is_operand operand (recorded_from s to place from)

-- an entry of a phi is for a block that is listed, and its operand is the one that is recorded
abbrev pub is_entry_recorded : FunctionUnderCheck → (to place : ℕ) → Incoming → Bool
is_entry_recorded s to place entry = is_target_listed s to (target_of s.context.function.now entry.from) && is_recorded s to place entry.operand (target_of s.context.function.now entry.from)

-- an operand is recorded for each block that is listed
abbrev pub has_each_recorded : FunctionUnderCheck → (to place : ℕ) → Bool
has_each_recorded s to place = list_all (λ from. is_there (recorded_from s to place from)) (slice_index_or s.predecessors.now to [])
