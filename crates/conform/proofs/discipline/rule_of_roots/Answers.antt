use Rattle.std.proofs.Common.{ℕ, ◌≤◌, get_or, arith, true, false}
use Rattle.colours.specs.Mutator.{MayUse}
use Rattle.conform.proofs.Items.{in_list, each_in}
use Rattle.conform.proofs.discipline.rule_of_roots.Goals as goal

pub returns : goal.returns
returns c = λ s log k root is. each_in (λ r. MayUse s log r) c.args.roots.now (λ i lt. c.loop-root.invariant s log k i (omega (arith, lt, c.loop-root-test.false))) root is

pub returns-then-not-may_use : goal.returns-then-not-may_use
returns-then-not-may_use c = λ s log k all. absurd (let used = all (get_or c.args.roots.now c.loop-root.root-index 0) (in_list c.args.roots.now c.loop-root.root-index c.loop-root-test.true) in
    cc ((c.may_use.ensures s log k).1 used, c.if-not-may_use.true))
