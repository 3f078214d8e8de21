use Rattle.std.proofs.Common.{◌∙◌, sym, rules, arith}
use Rattle.std.proofs.lemmas.Grind.{common_steps}
use Rattle.certificate.specs.Text.{lines, past_lines}
use Rattle.certificate.specs.Lines.{line}
use Rattle.grammar.specs.Turns.{loop_ends, loop_goes, loop_breaks, loop_done}
use Rattle.certificate.proofs.reader.lines.Goals as goal

pub returns-then-past_lines : goal.returns-then-past_lines
unfolding lines
returns-then-past_lines c = loop_ends past_lines (line c.args.module.now c.args.function.now c.args.block).read c.loop-turn-test.true c.loop-turn.invariant (sym c.past_lines.ensures ∙ c.if-past_lines.true)

pub returns-in_err-line : goal.returns-in_err-line
unfolding lines
returns-in_err-line c =
    let breaks = loop_breaks past_lines (line c.args.module.now c.args.function.now c.args.block).read c.loop-turn-test.true c.loop-turn.invariant (sym c.past_lines.ensures ∙ c.if-past_lines.false) in
    first_of (search rules, grind (arith, common_steps))

pub loop-turn-preserved : goal.loop-turn-preserved
loop-turn-preserved c = loop_goes past_lines (line c.args.module.now c.args.function.now c.args.block).read c.loop-turn-test.true c.loop-turn.invariant (sym c.past_lines.ensures ∙ c.if-past_lines.false) tt c.line.new.input c.in_ok-line.ensures

pub returns : goal.returns
unfolding lines
returns c = loop_done past_lines (line c.args.module.now c.args.function.now c.args.block).read c.loop-turn-test.false c.loop-turn.invariant
