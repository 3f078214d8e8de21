use Rattle.std.proofs.Common.{arith, [], ◌∙◌}
use Rattle.heap_table.proofs.Allocs.{still_running, may_claim, won, none, first_next, second_next, second_all, lost_more, none_tried, first_done}
use Rattle.heap_table.proofs.heap.Heap.alloc.Goals as goal

pub loop-cell-init : goal.loop-cell-init
loop-cell-init c = none_tried c.args.me.now c.tries-first.result.hinted

pub try_claim-requires-clause-running : goal.try_claim-requires-clause-running
try_claim-requires-clause-running c = let n = first_next _ _ _ _ _ c.tries-first.ensures.pool c.loop-cell.cell c.loop-cell.auto.cell c.loop-cell-test.true in
    still_running _ _ _ _ _ c.requires.token n.0.2 c.loop-cell.invariant

pub try_claim-requires-clause-may : goal.try_claim-requires-clause-may
try_claim-requires-clause-may c = let n = first_next _ _ _ _ _ c.tries-first.ensures.pool c.loop-cell.cell c.loop-cell.auto.cell c.loop-cell-test.true in
    may_claim _ _ _ _ _ c.requires.token n.0.2 c.loop-cell.invariant _ n.0 n.1

pub returns-then-try_claim-clause-token : goal.returns-then-try_claim-clause-token
returns-then-try_claim-clause-token c = let n = first_next _ _ _ _ _ c.tries-first.ensures.pool c.loop-cell.cell c.loop-cell.auto.cell c.loop-cell-test.true in
    (won _ _ _ _ _ c.requires.token n.0.2 c.loop-cell.invariant c.loop-cell.cell c.try_claim.result _ n.0 n.1 (c.set_hint.ensures ∙ c.try_claim.ensures.log) c.if-try_claim.true).0

pub returns-then-try_claim-clause-log : goal.returns-then-try_claim-clause-log
returns-then-try_claim-clause-log c = let n = first_next _ _ _ _ _ c.tries-first.ensures.pool c.loop-cell.cell c.loop-cell.auto.cell c.loop-cell-test.true in
    (won _ _ _ _ _ c.requires.token n.0.2 c.loop-cell.invariant c.loop-cell.cell c.try_claim.result _ n.0 n.1 (c.set_hint.ensures ∙ c.try_claim.ensures.log) c.if-try_claim.true).1

pub loop-cell-preserved : goal.loop-cell-preserved
loop-cell-preserved c = lost_more _ _ _ c.loop-cell.cell _ _ [] c.loop-cell.auto.cell c.loop-cell.invariant c.try_claim.ensures.log c.if-try_claim.false

pub loop-cell-2-init : goal.loop-cell-2-init
loop-cell-2-init c = first_done _ _ c.loop-cell.cell c.tries-first.result.end c.tries-first.result.hinted c.tries-first.result.first (let p = c.tries-first.ensures.pool in let high = p.high in let e = c.loop-cell.auto.cell-end high in let t = c.loop-cell-test.false in omega (arith, e, t)) c.loop-cell.invariant

pub try_claim-requires-in-loop-cell-2-clause-running : goal.try_claim-requires-in-loop-cell-2-clause-running
try_claim-requires-in-loop-cell-2-clause-running c = let n = second_next _ _ _ _ _ c.tries-first.ensures.pool c.loop-cell-2.cell c.loop-cell-2.auto.cell c.loop-cell-2-test.true in
    still_running _ _ _ _ _ c.requires.token n.0.2 c.loop-cell-2.invariant

pub try_claim-requires-in-loop-cell-2-clause-may : goal.try_claim-requires-in-loop-cell-2-clause-may
try_claim-requires-in-loop-cell-2-clause-may c = let n = second_next _ _ _ _ _ c.tries-first.ensures.pool c.loop-cell-2.cell c.loop-cell-2.auto.cell c.loop-cell-2-test.true in
    may_claim _ _ _ _ _ c.requires.token n.0.2 c.loop-cell-2.invariant _ n.0 n.1

pub returns-then-try_claim-2-clause-token : goal.returns-then-try_claim-2-clause-token
returns-then-try_claim-2-clause-token c = let n = second_next _ _ _ _ _ c.tries-first.ensures.pool c.loop-cell-2.cell c.loop-cell-2.auto.cell c.loop-cell-2-test.true in
    (won _ _ _ _ _ c.requires.token n.0.2 c.loop-cell-2.invariant c.loop-cell-2.cell c.try_claim-in-loop-cell-2.result _ n.0 n.1 (c.set_hint-then-try_claim-2.ensures ∙ c.try_claim-in-loop-cell-2.ensures.log) c.if-try_claim-2.true).0

pub returns-then-try_claim-2-clause-log : goal.returns-then-try_claim-2-clause-log
returns-then-try_claim-2-clause-log c = let n = second_next _ _ _ _ _ c.tries-first.ensures.pool c.loop-cell-2.cell c.loop-cell-2.auto.cell c.loop-cell-2-test.true in
    (won _ _ _ _ _ c.requires.token n.0.2 c.loop-cell-2.invariant c.loop-cell-2.cell c.try_claim-in-loop-cell-2.result _ n.0 n.1 (c.set_hint-then-try_claim-2.ensures ∙ c.try_claim-in-loop-cell-2.ensures.log) c.if-try_claim-2.true).1

pub loop-cell-2-preserved : goal.loop-cell-2-preserved
loop-cell-2-preserved c = lost_more _ _ _ c.loop-cell-2.cell _ _ _ c.loop-cell-2.auto.cell c.loop-cell-2.invariant c.try_claim-in-loop-cell-2.ensures.log c.if-try_claim-2.false

pub returns-clause-token : goal.returns-clause-token
returns-clause-token c = let p = c.tries-first.ensures.pool in let low = p.low in let e = c.loop-cell-2.auto.cell-end low in let t = c.loop-cell-2-test.false in
    let all = second_all _ _ _ _ _ p c.loop-cell-2.cell (omega (arith, e, t)) in (none _ _ _ _ _ c.requires.token all.0 c.loop-cell-2.invariant all.1).0

pub returns-clause-log : goal.returns-clause-log
returns-clause-log c = let p = c.tries-first.ensures.pool in let low = p.low in let e = c.loop-cell-2.auto.cell-end low in let t = c.loop-cell-2-test.false in
    let all = second_all _ _ _ _ _ p c.loop-cell-2.cell (omega (arith, e, t)) in (none _ _ _ _ _ c.requires.token all.0 c.loop-cell-2.invariant all.1).1
