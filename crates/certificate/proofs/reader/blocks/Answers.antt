use Rattle.std.proofs.Common.{◌∙◌, sym, rules, arith}
use Rattle.std.proofs.lemmas.Grind.{common_steps}
use Rattle.certificate.specs.Text.{blocks, past_blocks, block}
use Rattle.grammar.specs.Turns.{loop_ends, loop_goes, loop_breaks, loop_done}
use Rattle.certificate.proofs.reader.blocks.Goals as goal

pub returns-then-past_blocks : goal.returns-then-past_blocks
unfolding blocks
returns-then-past_blocks c = loop_ends past_blocks (block c.args.module.now c.args.function.now).read c.loop-turn-test.true c.loop-turn.invariant (sym c.past_blocks.ensures ∙ c.if-past_blocks.true)

pub returns-in_err-block : goal.returns-in_err-block
unfolding blocks
returns-in_err-block c =
    let breaks = loop_breaks past_blocks (block c.args.module.now c.args.function.now).read c.loop-turn-test.true c.loop-turn.invariant (sym c.past_blocks.ensures ∙ c.if-past_blocks.false) in
    first_of (search rules, grind (arith, common_steps))

pub loop-turn-preserved : goal.loop-turn-preserved
loop-turn-preserved c = loop_goes past_blocks (block c.args.module.now c.args.function.now).read c.loop-turn-test.true c.loop-turn.invariant (sym c.past_blocks.ensures ∙ c.if-past_blocks.false) tt c.block.new.input c.in_ok-block.ensures

pub returns : goal.returns
unfolding blocks
returns c = loop_done past_blocks (block c.args.module.now c.args.function.now).read c.loop-turn-test.false c.loop-turn.invariant
