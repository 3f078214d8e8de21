use Rattle.std.proofs.Common.{rules, arith}
use Rattle.std.proofs.lemmas.Grind.{common_steps}
use Rattle.ir_tokens.specs.Form.{quoted_from}
use Rattle.grammar.specs.Turns.{one_more, no_more}
use Rattle.ir_tokens.proofs.bytes.past_quoted.Goals as goal

pub returns-in-None : goal.returns-in-None
unfolding quoted_from
returns-in-None c =
    let e = one_more (λ n. quoted_from n c.loop-turn.rest.now) _ c.loop-turn._turn c.loop-turn-test.true c.loop-turn.invariant in
    first_of (search rules, grind (arith, common_steps))

pub loop-turn-preserved : goal.loop-turn-preserved
unfolding quoted_from
loop-turn-preserved c =
    let e = one_more (λ n. quoted_from n c.loop-turn.rest.now) _ c.loop-turn._turn c.loop-turn-test.true c.loop-turn.invariant in
    first_of (search rules, grind (arith, common_steps))

pub returns : goal.returns
unfolding quoted_from
returns c =
    let e = no_more (λ n. quoted_from n c.loop-turn.rest.now) _ c.loop-turn._turn c.loop-turn-test.false c.loop-turn.invariant in
    first_of (search rules, grind (arith, common_steps))
