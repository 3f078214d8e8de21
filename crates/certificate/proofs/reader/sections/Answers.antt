use Rattle.std.proofs.Common.{◌∙◌, sym, rules, arith}
use Rattle.std.proofs.lemmas.Grind.{common_steps}
use Rattle.name_text.specs.Reader.{ended}
use Rattle.certificate.specs.Text.{section, sections}
use Rattle.grammar.specs.Turns.{loop_ends, loop_goes, loop_breaks, loop_done}
use Rattle.certificate.proofs.reader.sections.Goals as goal

pub returns-then-ended : goal.returns-then-ended
unfolding sections
returns-then-ended c = loop_ends ended (section c.args.module.now).read c.loop-turn-test.true c.loop-turn.invariant (sym c.ended.ensures ∙ c.if-ended.true)

pub returns-in_err-section : goal.returns-in_err-section
unfolding sections
returns-in_err-section c =
    let breaks = loop_breaks ended (section c.args.module.now).read c.loop-turn-test.true c.loop-turn.invariant (sym c.ended.ensures ∙ c.if-ended.false) in
    first_of (search rules, grind (arith, common_steps))

pub loop-turn-preserved : goal.loop-turn-preserved
loop-turn-preserved c = loop_goes ended (section c.args.module.now).read c.loop-turn-test.true c.loop-turn.invariant (sym c.ended.ensures ∙ c.if-ended.false) tt c.section.new.input c.in_ok-section.ensures

pub returns : goal.returns
unfolding sections
returns c = loop_done ended (section c.args.module.now).read c.loop-turn-test.false c.loop-turn.invariant
