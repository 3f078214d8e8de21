use Rattle.std.proofs.Common.{◌≡◌, subst, arith}
use Rattle.block_check.proofs.Leads.{ListsBelow, none_below, all_below}
use Rattle.block_check.proofs.predecessors.record_blocks.Goals as goal

pub loop-number-init : goal.loop-number-init
loop-number-init c = none_below c.args.function.now c.args.lists.now c.requires.none

pub returns : goal.returns
returns c =
    let whole : c.loop-number.number ≡ c.args.count = omega arith in
    all_below c.args.function.now c.loop-number.lists c.args.count c.requires.blocks (subst (λ n. ListsBelow c.args.function.now c.loop-number.lists n) whole c.loop-number.invariant)
