use Rattle.std.proofs.Common.{◌∙◌, sym, rules, arith}
use Rattle.std.proofs.lemmas.Grind.{common_steps}
use Rattle.trace_text.specs.Arrivals.{past_starts}
use Rattle.trace_text.specs.Text.{start, starts}
use Rattle.grammar.specs.Turns.{loop_ends, loop_goes, loop_breaks, loop_done}
use Rattle.trace_text.proofs.reader.starts.Goals as goal

pub returns-then-past_starts : goal.returns-then-past_starts
unfolding starts
returns-then-past_starts c = loop_ends (past_starts c.args.version) (start c.args.module.now c.args.version).read c.loop-turn-test.true c.loop-turn.invariant (sym c.past_starts.ensures ∙ c.if-past_starts.true)

pub returns-in_err-start : goal.returns-in_err-start
unfolding starts
returns-in_err-start c =
    let breaks = loop_breaks (past_starts c.args.version) (start c.args.module.now c.args.version).read c.loop-turn-test.true c.loop-turn.invariant (sym c.past_starts.ensures ∙ c.if-past_starts.false) in
    first_of (search rules, grind (arith, common_steps))

pub loop-turn-preserved : goal.loop-turn-preserved
loop-turn-preserved c = loop_goes (past_starts c.args.version) (start c.args.module.now c.args.version).read c.loop-turn-test.true c.loop-turn.invariant (sym c.past_starts.ensures ∙ c.if-past_starts.false) tt c.start.new.input c.in_ok-start.ensures

pub returns : goal.returns
unfolding starts
returns c = loop_done (past_starts c.args.version) (start c.args.module.now c.args.version).read c.loop-turn-test.false c.loop-turn.invariant
