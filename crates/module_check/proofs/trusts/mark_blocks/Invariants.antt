use Rattle.std.proofs.Common.{◌≡◌, drop}
use Rattle.module_check.specs.Trusts.{mark_blocks}
use Rattle.module_check.proofs.trusts.mark_blocks.Given as goal

abbrev pub invariant-loop-block : goal.invariant-loop-block
invariant-loop-block l = mark_blocks l.blocks l.fn.called ≡ mark_blocks (drop l.block-index l.blocks) l.called
