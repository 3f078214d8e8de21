use Rattle.std.proofs.Common.{◌∙◌, sym, rules, arith}
use Rattle.std.proofs.lemmas.Grind.{common_steps}
use Rattle.certificate.specs.NumberForms.{number_lines, past_numbers, number_line}
use Rattle.grammar.specs.Turns.{loop_ends, loop_goes, loop_breaks, loop_done}
use Rattle.certificate.proofs.number_forms.number_lines.Goals as goal

pub returns-then-past_numbers : goal.returns-then-past_numbers
unfolding number_lines
returns-then-past_numbers c = loop_ends past_numbers (number_line c.args.module.now).read c.loop-turn-test.true c.loop-turn.invariant (sym c.past_numbers.ensures ∙ c.if-past_numbers.true)

pub returns-in_err-number_line : goal.returns-in_err-number_line
unfolding number_lines
returns-in_err-number_line c =
    let breaks = loop_breaks past_numbers (number_line c.args.module.now).read c.loop-turn-test.true c.loop-turn.invariant (sym c.past_numbers.ensures ∙ c.if-past_numbers.false) in
    first_of (search rules, grind (arith, common_steps))

pub loop-turn-preserved : goal.loop-turn-preserved
loop-turn-preserved c = loop_goes past_numbers (number_line c.args.module.now).read c.loop-turn-test.true c.loop-turn.invariant (sym c.past_numbers.ensures ∙ c.if-past_numbers.false) tt c.number_line.new.input c.in_ok-number_line.ensures

pub returns : goal.returns
unfolding number_lines
returns c = loop_done past_numbers (number_line c.args.module.now).read c.loop-turn-test.false c.loop-turn.invariant
