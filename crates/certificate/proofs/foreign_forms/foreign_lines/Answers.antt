use Rattle.std.proofs.Common.{◌∙◌, sym, rules, arith}
use Rattle.std.proofs.lemmas.Grind.{common_steps}
use Rattle.certificate.specs.ForeignForms.{foreign_lines, past_foreign, foreign_line}
use Rattle.grammar.specs.Turns.{loop_ends, loop_goes, loop_breaks, loop_done}
use Rattle.certificate.proofs.foreign_forms.foreign_lines.Goals as goal

pub returns-then-past_foreign : goal.returns-then-past_foreign
unfolding foreign_lines
returns-then-past_foreign c = loop_ends past_foreign (foreign_line c.args.module.now).read c.loop-turn-test.true c.loop-turn.invariant (sym c.past_foreign.ensures ∙ c.if-past_foreign.true)

pub returns-in_err-foreign_line : goal.returns-in_err-foreign_line
unfolding foreign_lines
returns-in_err-foreign_line c =
    let breaks = loop_breaks past_foreign (foreign_line c.args.module.now).read c.loop-turn-test.true c.loop-turn.invariant (sym c.past_foreign.ensures ∙ c.if-past_foreign.false) in
    first_of (search rules, grind (arith, common_steps))

pub loop-turn-preserved : goal.loop-turn-preserved
loop-turn-preserved c = loop_goes past_foreign (foreign_line c.args.module.now).read c.loop-turn-test.true c.loop-turn.invariant (sym c.past_foreign.ensures ∙ c.if-past_foreign.false) tt c.foreign_line.new.input c.in_ok-foreign_line.ensures

pub returns : goal.returns
unfolding foreign_lines
returns c = loop_done past_foreign (foreign_line c.args.module.now).read c.loop-turn-test.false c.loop-turn.invariant
