use Rattle.std.proofs.Common.{sym, ◌∙◌, arith}
use Rattle.certs.proofs.ClaimRuns.{listed_twice, compared}
use Rattle.certs.proofs.runs.lists_once.Goals as goal

pub returns-then-not-list_others : goal.returns-then-not-list_others
returns-then-not-list_others c = listed_twice c.args.claims.now c.split_at.result.0.now c.split_at.result.1.now c.cut.result.0.now c.cut.result.1.now c.loop-before.before c.split_at.ensures.front c.split_at.ensures.back c.cut.ensures.both
    (sym c.list_others.ensures ∙ c.if-not-list_others.true)

pub loop-before-preserved : goal.loop-before-preserved
loop-before-preserved c = compared c.args.claims.now c.split_at.result.0.now c.split_at.result.1.now c.cut.result.0.now c.cut.result.1.now c.loop-before.before c.split_at.ensures.front c.split_at.ensures.back c.cut.ensures.both
    c.loop-before.invariant.0 c.loop-before.invariant.1 c.cut.ensures.run (sym c.list_others.ensures ∙ c.if-not-list_others.false)

pub loop-before-smaller : goal.loop-before-smaller
loop-before-smaller c = omega (arith, c.loop-before-test.true, c.loop-before.invariant.0, c.split_at.ensures.back_len, c.cut.ensures.some)
