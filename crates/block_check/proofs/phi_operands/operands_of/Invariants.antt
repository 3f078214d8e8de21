use Rattle.std.proofs.Common.{take}
use Rattle.block_check.specs.PhiOperands.{AreOperandTables}
use Rattle.block_check.proofs.phi_operands.operands_of.Given as goal

abbrev pub invariant-loop-block : goal.invariant-loop-block
invariant-loop-block l = AreOperandTables l.fn.function (take l.block-index l.fn.function.blocks) l.tables.items
