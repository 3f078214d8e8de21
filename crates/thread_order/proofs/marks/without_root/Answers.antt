use Rattle.thread_order.proofs.Tests.{zero_root}
use Rattle.thread_order.proofs.marks.without_root.Goals as goal

pub returns-then-root-eq0-clause-some : goal.returns-then-root-eq0-clause-some
returns-then-root-eq0-clause-some c = λ more. zero_root c.args.marked.now c.args.root more c.if-root-eq0.true
