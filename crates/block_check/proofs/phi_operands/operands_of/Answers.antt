use Rattle.std.proofs.Common.{◌∙◌, length, get_or, ap, subst, arith}
use Rattle.block_check.specs.PhiOperands.{AreOperands}
use Rattle.block_check.proofs.Operands.{tables_more}
use Rattle.block_check.proofs.phi_operands.operands_of.Goals as goal

pub loop-block-preserved : goal.loop-block-preserved
loop-block-preserved c =
    let f = c.args.function.now in
    let i = c.loop-block.block-index in
    let block = c.block-item.result in
    let operands = c.in_ok-operands.operands in
    let all = c.as_slice-block-items.ensures in
    let is = c.block-item.is ∙ ap (λ blocks. get_or blocks i block) all in
    let recorded = subst (λ phis. AreOperands f phis operands) c.as_slice.ensures c.in_ok-operands.ensures in
    tables_more f f.blocks i block c.loop-block.tables.items c.push.new.self.items operands (omega (arith, ap length all)) is c.loop-block.invariant recorded c.in_ok-push.ensures.items
