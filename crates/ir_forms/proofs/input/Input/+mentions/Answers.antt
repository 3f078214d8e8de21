use Rattle.std.proofs.Common.{rules, arith}
use Rattle.std.proofs.lemmas.Grind.{common_steps}
use Rattle.ir_forms.specs.Written.{fields_again, again_within}
use Rattle.ir_forms.proofs.Stars.{again_more}
use Rattle.grammar.specs.Turns.{one_more, no_more}
use Rattle.ir_forms.proofs.input.Input.+mentions.Goals as goal

pub again_within-returns-in_err-again_by : goal.again_within-returns-in_err-again_by
again_within-returns-in_err-again_by t c = rw (again_more c.args.levels c.args.id c.args.self.now (omega arith)) (first_of (search rules, grind (arith, common_steps)))

pub again_within-returns : goal.again_within-returns
again_within-returns t c = rw (again_more c.args.levels c.args.id c.args.self.now (omega arith)) (first_of (search rules, grind (arith, common_steps)))

pub fields_again-returns-in_default : goal.fields_again-returns-in_default
unfolding fields_again
fields_again-returns-in_default t c =
    let e = one_more (λ n. (fields_again (again_within c.args.levels) n c.loop-turn.rest).read c.loop-turn.self) _ c.loop-turn._turn c.loop-turn-test.true c.loop-turn.invariant in
    first_of (search rules, grind (arith, common_steps))

pub fields_again-returns-in_err-expect-in-Some-Struct : goal.fields_again-returns-in_err-expect-in-Some-Struct
unfolding fields_again
fields_again-returns-in_err-expect-in-Some-Struct t c =
    let e = one_more (λ n. (fields_again (again_within c.args.levels) n c.loop-turn.rest).read c.loop-turn.self) _ c.loop-turn._turn c.loop-turn-test.true c.loop-turn.invariant in
    first_of (search rules, grind (arith, common_steps))

pub fields_again-returns-in_err-again_within-in-Some-Struct : goal.fields_again-returns-in_err-again_within-in-Some-Struct
unfolding fields_again
fields_again-returns-in_err-again_within-in-Some-Struct t c =
    let e = one_more (λ n. (fields_again (again_within c.args.levels) n c.loop-turn.rest).read c.loop-turn.self) _ c.loop-turn._turn c.loop-turn-test.true c.loop-turn.invariant in
    first_of (search rules, grind (arith, common_steps))

pub fields_again-loop-turn-preserved : goal.fields_again-loop-turn-preserved
unfolding fields_again
fields_again-loop-turn-preserved t c =
    let e = one_more (λ n. (fields_again (again_within c.args.levels) n c.loop-turn.rest).read c.loop-turn.self) _ c.loop-turn._turn c.loop-turn-test.true c.loop-turn.invariant in
    first_of (search rules, grind (arith, common_steps))

pub fields_again-returns : goal.fields_again-returns
unfolding fields_again
fields_again-returns t c =
    let e = no_more (λ n. (fields_again (again_within c.args.levels) n c.loop-turn.rest).read c.loop-turn.self) _ c.loop-turn._turn c.loop-turn-test.false c.loop-turn.invariant in
    first_of (search rules, grind (arith, common_steps))
