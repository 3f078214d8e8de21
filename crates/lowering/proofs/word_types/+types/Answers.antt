use Rattle.std.proofs.Common.{rules, arith, ◌++◌}
use Rattle.std.proofs.lemmas.Grind.{common_steps}
use Rattle.ir_print.specs.Types.{fields_text}
use Rattle.lowering.specs.Types.{words_within}
use Rattle.grammar.specs.Turns.{one_more, no_more}
use Rattle.lowering.proofs.word_types.+types.Goals as goal

pub put_fields-returns-in_default : goal.put_fields-returns-in_default
unfolding fields_text
put_fields-returns-in_default t c =
    let e = one_more (λ n. c.loop-turn.out.items ++ fields_text (words_within c.args.levels c.args.module.now) c.args.module.now n c.loop-turn.fields) _ c.loop-turn._turn c.loop-turn-test.true c.loop-turn.invariant in
    first_of (search rules, grind (arith, common_steps))

pub put_fields-returns-in_default-2 : goal.put_fields-returns-in_default-2
unfolding fields_text
put_fields-returns-in_default-2 t c =
    let e = one_more (λ n. c.loop-turn.out.items ++ fields_text (words_within c.args.levels c.args.module.now) c.args.module.now n c.loop-turn.fields) _ c.loop-turn._turn c.loop-turn-test.true c.loop-turn.invariant in
    first_of (search rules, grind (arith, common_steps))

pub put_fields-loop-turn-preserved : goal.put_fields-loop-turn-preserved
unfolding fields_text
put_fields-loop-turn-preserved t c =
    let e = one_more (λ n. c.loop-turn.out.items ++ fields_text (words_within c.args.levels c.args.module.now) c.args.module.now n c.loop-turn.fields) _ c.loop-turn._turn c.loop-turn-test.true c.loop-turn.invariant in
    first_of (search rules, grind (arith, common_steps))

pub put_fields-returns : goal.put_fields-returns
unfolding fields_text
put_fields-returns t c =
    let e = no_more (λ n. c.loop-turn.out.items ++ fields_text (words_within c.args.levels c.args.module.now) c.args.module.now n c.loop-turn.fields) _ c.loop-turn._turn c.loop-turn-test.false c.loop-turn.invariant in
    first_of (search rules, grind (arith, common_steps))
