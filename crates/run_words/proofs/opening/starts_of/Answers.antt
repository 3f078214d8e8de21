use Rattle.std.proofs.Common.{arith, ◌<◌, ap}
use Rattle.pools.specs.Heap.{Setup, cells}
use Rattle.heap_rule.specs.Places.{stages_before}
use Rattle.run_words.proofs.Beginning.{start_within, start_next, starts_more}
use Rattle.run_words.proofs.opening.starts_of.Goals as goal

pub overflow_add-next : goal.overflow_add-next
overflow_add-next c = let k = stages_before c.args.plan.now (cells c.args.plan.now) in let e = ap (λ (s : Setup). s.threads) c.plan.view_is in omega (arith, k, e, c.requires)

pub overflow_add-next-in-loop-cell : goal.overflow_add-next-in-loop-cell
overflow_add-next-in-loop-cell c = let e = ap (λ (s : Setup). cells s) c.plan.view_is in let l : c.loop-cell.cell < cells c.args.plan.now = omega (arith, e, c.cells-cells.ensures.cells) in
    let k = start_within c.args.plan.now c.loop-cell.cell l in omega (arith, k, c.count_words.ensures, c.requires)

pub overflow_add-next-in-loop-cell-2 : goal.overflow_add-next-in-loop-cell-2
overflow_add-next-in-loop-cell-2 c = let e = ap (λ (s : Setup). cells s) c.plan.view_is in let l : c.loop-cell.cell < cells c.args.plan.now = omega (arith, e, c.cells-cells.ensures.cells) in
    let k = start_within c.args.plan.now c.loop-cell.cell l in omega (arith, k, c.count_words.ensures, c.requires, c.loop-cell.invariant.next)

pub loop-cell-preserved : goal.loop-cell-preserved
loop-cell-preserved c = let i = c.loop-cell.invariant in
    let k = starts_more c.args.plan.now c.loop-cell.starts.items c.push.new.self.items c.loop-cell.cell c.loop-cell.next i.next i.count i.each c.in_ok-push.ensures.items in
    record { next = start_next c.args.plan.now c.loop-cell.cell c.loop-cell.next c.count_words.result i.next c.count_words.ensures; count = k.0; each = k.1 }
