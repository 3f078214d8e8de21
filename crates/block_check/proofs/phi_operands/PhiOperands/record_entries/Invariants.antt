use Rattle.std.proofs.Common.{take}
use Rattle.block_rules.specs.Edges.{operand_from}
use Rattle.block_check.specs.PhiOperands.{AddsAt}
use Rattle.block_check.proofs.phi_operands.PhiOperands.record_entries.Given as goal

abbrev pub invariant-loop-entry : goal.invariant-loop-entry
invariant-loop-entry l = AddsAt l.fn.self l.self l.fn.place (λ from. operand_from l.fn.function from (take l.entry-index l.fn.incoming))
