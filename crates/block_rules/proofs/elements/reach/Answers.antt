use Rattle.std.proofs.Common.{rules}
use Rattle.block_rules.proofs.Strides.{stride_fits}
use Rattle.block_rules.proofs.elements.reach.Goals as goal

pub loop-number-preserved : goal.loop-number-preserved
loop-number-preserved c =
    stride_fits c.args.stride.now c.args.word c.loop-number.number _ c.loop-number.words c.add.new.self _ c.loop-number-test.true (search rules) c.if-reached.false c.add.ensures c.loop-number.invariant
