use Rattle.std.proofs.Common.{take}
use Rattle.block_check.specs.PhiOperands.{AreOperands}
use Rattle.block_check.proofs.phi_operands.PhiOperands.of.Given as goal

abbrev pub invariant-loop-place : goal.invariant-loop-place
invariant-loop-place l = AreOperands l.fn.function (take l.place l.fn.phis) l.operands
