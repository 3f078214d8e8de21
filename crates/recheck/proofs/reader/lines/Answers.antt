use Rattle.std.proofs.Common.{◌∙◌, sym, rules, arith}
use Rattle.std.proofs.lemmas.Grind.{common_steps}
use Rattle.grammar.specs.Turns.{loop_ends, loop_goes, loop_breaks, loop_done}
use Rattle.recheck.specs.Lines.{is_dot}
use Rattle.recheck.specs.Forms.{line, lines}
use Rattle.recheck.proofs.reader.lines.Goals as goal

pub returns-then-is_dot : goal.returns-then-is_dot
unfolding lines
returns-then-is_dot c = loop_ends is_dot line.read c.loop-turn-test.true c.loop-turn.invariant (sym c.is_dot.ensures ∙ c.if-is_dot.true)

pub returns-in_err-line : goal.returns-in_err-line
unfolding lines
returns-in_err-line c =
    let breaks = loop_breaks is_dot line.read c.loop-turn-test.true c.loop-turn.invariant (sym c.is_dot.ensures ∙ c.if-is_dot.false) in
    first_of (search rules, grind (arith, common_steps))

pub loop-turn-preserved : goal.loop-turn-preserved
loop-turn-preserved c = loop_goes is_dot line.read c.loop-turn-test.true c.loop-turn.invariant (sym c.is_dot.ensures ∙ c.if-is_dot.false) tt c.line.new.input c.in_ok-line.ensures

pub returns : goal.returns
unfolding lines
returns c = loop_done is_dot line.read c.loop-turn-test.false c.loop-turn.invariant
