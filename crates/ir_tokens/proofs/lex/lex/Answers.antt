use Rattle.std.proofs.Common.{rules, arith, length}
use Rattle.std.proofs.lemmas.Grind.{common_steps}
use Rattle.ir_tokens.specs.Tokens.{lex_from}
use Rattle.grammar.specs.Turns.{one_more, no_more}
use Rattle.ir_tokens.proofs.lex.lex.Goals as goal

pub loop-turn-preserved : goal.loop-turn-preserved
unfolding lex_from
loop-turn-preserved c =
    let e = one_more (λ n. lex_from n (length c.args.bytes.now) c.loop-turn.is_first c.loop-turn.tokens c.loop-turn.rest.now) _ c.loop-turn._turn c.loop-turn-test.true c.loop-turn.invariant in
    first_of (search rules, grind (arith, common_steps))

pub returns-then-is_empty : goal.returns-then-is_empty
unfolding lex_from
returns-then-is_empty c =
    let e = one_more (λ n. lex_from n (length c.args.bytes.now) c.loop-turn.is_first c.loop-turn.tokens c.loop-turn.rest.now) _ c.loop-turn._turn c.loop-turn-test.true c.loop-turn.invariant in
    first_of (search rules, grind (arith, common_steps))

pub returns-in_default : goal.returns-in_default
unfolding lex_from
returns-in_default c =
    let e = one_more (λ n. lex_from n (length c.args.bytes.now) c.loop-turn.is_first c.loop-turn.tokens c.loop-turn.rest.now) _ c.loop-turn._turn c.loop-turn-test.true c.loop-turn.invariant in
    first_of (search rules, grind (arith, common_steps))

pub returns : goal.returns
unfolding lex_from
returns c =
    let e = no_more (λ n. lex_from n (length c.args.bytes.now) c.loop-turn.is_first c.loop-turn.tokens c.loop-turn.rest.now) _ c.loop-turn._turn c.loop-turn-test.false c.loop-turn.invariant in
    first_of (search rules, grind (arith, common_steps))
