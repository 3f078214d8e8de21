use Rattle.std.proofs.Common.{rules, arith}
use Rattle.std.proofs.lemmas.Grind.{common_steps}
use Rattle.grammar.specs.Many.{many_from}
use Rattle.grammar.specs.Turns.{one_more, no_more}
use Rattle.ir_forms.proofs.listed.many.Goals as goal

pub returns-then-ends : goal.returns-then-ends
unfolding many_from
returns-then-ends g c =
    let e = one_more (λ n. many_from g.F.Listed.ends g.F.Listed.form n c.loop-turn.found c.loop-turn.input) _ c.loop-turn._turn c.loop-turn-test.true c.loop-turn.invariant in
    first_of (search rules, grind (arith, common_steps))

pub returns-in_err-read : goal.returns-in_err-read
unfolding many_from
returns-in_err-read g c =
    let e = one_more (λ n. many_from g.F.Listed.ends g.F.Listed.form n c.loop-turn.found c.loop-turn.input) _ c.loop-turn._turn c.loop-turn-test.true c.loop-turn.invariant in
    first_of (search rules, grind (arith, common_steps))

pub loop-turn-preserved : goal.loop-turn-preserved
unfolding many_from
loop-turn-preserved g c =
    let e = one_more (λ n. many_from g.F.Listed.ends g.F.Listed.form n c.loop-turn.found c.loop-turn.input) _ c.loop-turn._turn c.loop-turn-test.true c.loop-turn.invariant in
    first_of (search rules, grind (arith, common_steps))

pub returns : goal.returns
unfolding many_from
returns g c =
    let e = no_more (λ n. many_from g.F.Listed.ends g.F.Listed.form n c.loop-turn.found c.loop-turn.input) _ c.loop-turn._turn c.loop-turn-test.false c.loop-turn.invariant in
    first_of (search rules, grind (arith, common_steps))
