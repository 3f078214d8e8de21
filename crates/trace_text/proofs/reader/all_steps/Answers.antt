use Rattle.std.proofs.Common.{◌∙◌, sym, rules, arith}
use Rattle.std.proofs.lemmas.Grind.{common_steps}
use Rattle.trace_text.specs.Text.{steps_line, past_steps, all_steps}
use Rattle.grammar.specs.Turns.{loop_ends, loop_goes, loop_breaks, loop_done}
use Rattle.trace_text.proofs.reader.all_steps.Goals as goal

pub returns-then-past_steps : goal.returns-then-past_steps
unfolding all_steps
returns-then-past_steps c = loop_ends past_steps steps_line.read c.loop-turn-test.true c.loop-turn.invariant (sym c.past_steps.ensures ∙ c.if-past_steps.true)

pub returns-in_err-steps_line : goal.returns-in_err-steps_line
unfolding all_steps
returns-in_err-steps_line c =
    let breaks = loop_breaks past_steps steps_line.read c.loop-turn-test.true c.loop-turn.invariant (sym c.past_steps.ensures ∙ c.if-past_steps.false) in
    first_of (search rules, grind (arith, common_steps))

pub loop-turn-preserved : goal.loop-turn-preserved
loop-turn-preserved c = loop_goes past_steps steps_line.read c.loop-turn-test.true c.loop-turn.invariant (sym c.past_steps.ensures ∙ c.if-past_steps.false) tt c.steps_line.new.input c.in_ok-steps_line.ensures

pub returns : goal.returns
unfolding all_steps
returns c = loop_done past_steps steps_line.read c.loop-turn-test.false c.loop-turn.invariant
