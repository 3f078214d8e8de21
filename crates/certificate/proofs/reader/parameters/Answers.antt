use Rattle.std.proofs.Common.{◌∙◌, sym, rules, arith}
use Rattle.std.proofs.lemmas.Grind.{common_steps}
use Rattle.certificate.specs.Text.{parameters, past_parameters, parameter}
use Rattle.grammar.specs.Turns.{loop_ends, loop_goes, loop_breaks, loop_done}
use Rattle.certificate.proofs.reader.parameters.Goals as goal

pub returns-then-past_parameters : goal.returns-then-past_parameters
unfolding parameters
returns-then-past_parameters c = loop_ends past_parameters (parameter c.args.module.now c.args.function.now).read c.loop-turn-test.true c.loop-turn.invariant (sym c.past_parameters.ensures ∙ c.if-past_parameters.true)

pub returns-in_err-parameter : goal.returns-in_err-parameter
unfolding parameters
returns-in_err-parameter c =
    let breaks = loop_breaks past_parameters (parameter c.args.module.now c.args.function.now).read c.loop-turn-test.true c.loop-turn.invariant (sym c.past_parameters.ensures ∙ c.if-past_parameters.false) in
    first_of (search rules, grind (arith, common_steps))

pub loop-turn-preserved : goal.loop-turn-preserved
loop-turn-preserved c = loop_goes past_parameters (parameter c.args.module.now c.args.function.now).read c.loop-turn-test.true c.loop-turn.invariant (sym c.past_parameters.ensures ∙ c.if-past_parameters.false) tt c.parameter.new.input c.in_ok-parameter.ensures

pub returns : goal.returns
unfolding parameters
returns c = loop_done past_parameters (parameter c.args.module.now c.args.function.now).read c.loop-turn-test.false c.loop-turn.invariant
