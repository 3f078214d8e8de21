use Rattle.std.proofs.Common.{◌∙◌, sym, rules, arith}
use Rattle.std.proofs.lemmas.Grind.{common_steps}
use Rattle.certificate.specs.ShapeForms.{shape_lines, past_shapes, shape_line}
use Rattle.grammar.specs.Turns.{loop_ends, loop_goes, loop_breaks, loop_done}
use Rattle.certificate.proofs.shape_forms.shape_lines.Goals as goal

pub returns-then-past_shapes : goal.returns-then-past_shapes
unfolding shape_lines
returns-then-past_shapes c = loop_ends past_shapes (shape_line c.args.module.now).read c.loop-turn-test.true c.loop-turn.invariant (sym c.past_shapes.ensures ∙ c.if-past_shapes.true)

pub returns-in_err-shape_line : goal.returns-in_err-shape_line
unfolding shape_lines
returns-in_err-shape_line c =
    let breaks = loop_breaks past_shapes (shape_line c.args.module.now).read c.loop-turn-test.true c.loop-turn.invariant (sym c.past_shapes.ensures ∙ c.if-past_shapes.false) in
    first_of (search rules, grind (arith, common_steps))

pub loop-turn-preserved : goal.loop-turn-preserved
loop-turn-preserved c = loop_goes past_shapes (shape_line c.args.module.now).read c.loop-turn-test.true c.loop-turn.invariant (sym c.past_shapes.ensures ∙ c.if-past_shapes.false) tt c.shape_line.new.input c.in_ok-shape_line.ensures

pub returns : goal.returns
unfolding shape_lines
returns c = loop_done past_shapes (shape_line c.args.module.now).read c.loop-turn-test.false c.loop-turn.invariant
