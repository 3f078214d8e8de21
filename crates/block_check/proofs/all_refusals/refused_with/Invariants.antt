use Rattle.block_check.specs.RefusedBlocks.{AreOfBlocks}
use Rattle.block_check.proofs.all_refusals.refused_with.Given as goal

abbrev pub invariant-loop-number : goal.invariant-loop-number
invariant-loop-number l = AreOfBlocks l.under_check.context.program.now l.under_check.context.certs.now.sections l.under_check.func l.number l.found.items
