use Rattle.std.proofs.Common.{◌+◌, drop, ◌∙◌}
use Rattle.thread_order.proofs.Tests.{root_next, roots_end, empty_test}
use Rattle.thread_order.proofs.marks.are_marked.Goals as goal

pub loop-root-preserved : goal.loop-root-preserved
loop-root-preserved c = let roots = c.args.roots.now in let i = c.loop-root.root-index in
    root_next c.loop-root.left.now c.in-Some.rest.now c.args.marked.now roots i c.loop-root-test.true c.loop-root.invariant (c.in-Some.ensures.some (drop (i + 1) roots))

pub returns : goal.returns
returns c = c.is_empty.ensures ∙ (empty_test c.loop-root.left.now ∙ roots_end c.loop-root.left.now c.args.marked.now c.args.roots.now c.loop-root.root-index c.loop-root-test.false c.loop-root.invariant)
