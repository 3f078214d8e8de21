use Rattle.std.proofs.Common.{◌≡◌, length, arith}
use Rattle.recheck.proofs.Lists.{same_each}
use Rattle.recheck.proofs.tables.same_types.Goals as goal

pub returns : goal.returns
returns c = λ e.
    let count : length c.args.other.now ≡ length c.args.one.now = omega (arith, c.if-count.false, c.count.ensures.count, c.count-2.ensures.count) in
    same_each c.args.one.now c.args.other.now count (λ n less. c.loop-number.invariant n (omega (arith, less, c.loop-number-test.false, c.count-number-end.ensures.count)))
