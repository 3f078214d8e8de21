use Rattle.std.proofs.Common.{rules, arith}
use Rattle.std.proofs.lemmas.Grind.{common_steps}
use Rattle.grammar.specs.Many.{many_from}
use Rattle.ir_forms.specs.Written.{at_brace, field, firm}
use Rattle.ir_forms.proofs.Stars.{part_more}
use Rattle.grammar.specs.Turns.{one_more, no_more}
use Rattle.ir_forms.proofs.input.Input.+types.Goals as goal

pub part-returns : goal.part-returns
part-returns t c = rw (part_more c.args.levels c.args.self.now (omega arith)) (first_of (search rules, grind (arith, common_steps)))

pub fields-returns-then-sees : goal.fields-returns-then-sees
unfolding many_from
fields-returns-then-sees t c =
    let e = one_more (λ n. many_from at_brace (field (firm c.args.levels)).read n c.loop-turn.found c.loop-turn.self) _ c.loop-turn._turn c.loop-turn-test.true c.loop-turn.invariant in
    first_of (search rules, grind (arith, common_steps))

pub fields-returns-in_err-field : goal.fields-returns-in_err-field
unfolding many_from
fields-returns-in_err-field t c =
    let e = one_more (λ n. many_from at_brace (field (firm c.args.levels)).read n c.loop-turn.found c.loop-turn.self) _ c.loop-turn._turn c.loop-turn-test.true c.loop-turn.invariant in
    first_of (search rules, grind (arith, common_steps))

pub fields-loop-turn-preserved : goal.fields-loop-turn-preserved
unfolding many_from
fields-loop-turn-preserved t c =
    let e = one_more (λ n. many_from at_brace (field (firm c.args.levels)).read n c.loop-turn.found c.loop-turn.self) _ c.loop-turn._turn c.loop-turn-test.true c.loop-turn.invariant in
    first_of (search rules, grind (arith, common_steps))

pub fields-returns : goal.fields-returns
unfolding many_from
fields-returns t c =
    let e = no_more (λ n. many_from at_brace (field (firm c.args.levels)).read n c.loop-turn.found c.loop-turn.self) _ c.loop-turn._turn c.loop-turn-test.false c.loop-turn.invariant in
    first_of (search rules, grind (arith, common_steps))
