use Rattle.std.proofs.Common.{◌≡◌, true}
use Rattle.record_text.specs.Records.{step_with}
use Rattle.conform.proofs.RuleLemmas.{order_asked}
use Rattle.conform.proofs.thread_check.CheckedThread.broken_rule.Goals as goal

pub returns-then-not-may_follow-clause-some : goal.returns-then-not-may_follow-clause-some
returns-then-not-may_follow-clause-some c = λ thread log at asks.
    let next = order_asked c.rule_of_order.result c.args.plan.now thread log (step_with c.args.roots.now c.args.step) (c.rule_of_order.ensures c.args.roots.now) asks in
    let t : c.may_follow.result ≡ true = (c.may_follow.ensures.tells c.args.plan.now thread log at.order).1 next in
    absurd (cc (t, c.if-not-may_follow.true))
