use Rattle.std.proofs.Common.{subst, arith}
use Rattle.block_rules.specs.Edges.{operand_from}
use Rattle.block_check.specs.PhiOperands.{AddsAt}
use Rattle.block_check.proofs.Operands.{operands_more}
use Rattle.block_check.proofs.phi_operands.PhiOperands.of.Goals as goal

pub loop-place-preserved : goal.loop-place-preserved
loop-place-preserved c =
    let f = c.args.function.now in
    let i = c.loop-place.place in
    let recorded = subst (λ entries. AddsAt c.loop-place.operands c.record_entries.new.self i (λ from. operand_from f from entries)) c.as_slice.ensures c.in_ok-record_entries.ensures in
    operands_more f c.args.phis.now i c.index-phis-place.result c.loop-place.operands c.record_entries.new.self (omega arith) c.index-phis-place.is c.loop-place.invariant recorded
