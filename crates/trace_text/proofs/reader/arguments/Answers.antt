use Rattle.std.proofs.Common.{◌+◌, ◌-◌, ◌∙◌, sym, rules, arith, ap, List, ℕ}
use Rattle.std.proofs.lemmas.Grind.{common_steps}
use Rattle.grammar.specs.Many.{many_from}
use Rattle.name_text.specs.Reader.{line_ends}
use Rattle.trace_text.specs.Forms.{argument}
use Rattle.trace_text.specs.Text.{arguments}
use Rattle.name_text.specs.declared.found.WordFault.{WordFault}
use Rattle.trace_text.specs.declared.mistake.TraceMistake.{TraceMistake}
use Rattle.grammar.specs.Collected.{list_ends, list_goes, list_breaks, no_list}
use Rattle.grammar.specs.Turns.{one_more, no_more}
use Rattle.trace_text.proofs.reader.arguments.Goals as goal

pub returns-then-line_ends : goal.returns-then-line_ends
unfolding arguments
returns-then-line_ends c =
    one_more (λ n. many_from line_ends argument.read n c.loop-turn.arguments c.loop-turn.input) _ c.loop-turn._turn c.loop-turn-test.true c.loop-turn.invariant
    ∙ list_ends line_ends argument.read _ c.loop-turn.arguments c.loop-turn.input (sym c.line_ends.ensures ∙ c.if-line_ends.true)

pub returns-in_err-argument : goal.returns-in_err-argument
unfolding arguments
returns-in_err-argument c =
    let e = one_more (λ n. many_from line_ends argument.read n c.loop-turn.arguments c.loop-turn.input) _ c.loop-turn._turn c.loop-turn-test.true c.loop-turn.invariant in
    let breaks = λ (x : WordFault TraceMistake). list_breaks line_ends argument.read (c.left-turn-end.result + 1 - (c.loop-turn._turn + 1)) c.loop-turn.arguments c.loop-turn.input x (sym c.line_ends.ensures ∙ c.if-line_ends.false) in
    first_of (search rules, grind (arith, common_steps))

pub loop-turn-preserved : goal.loop-turn-preserved
loop-turn-preserved c =
    one_more (λ n. many_from line_ends argument.read n c.loop-turn.arguments c.loop-turn.input) _ c.loop-turn._turn c.loop-turn-test.true c.loop-turn.invariant
    ∙ list_goes line_ends argument.read _ c.loop-turn.arguments c.loop-turn.input c.in_ok-argument.field-0 c.argument.new.input (sym c.line_ends.ensures ∙ c.if-line_ends.false) c.in_ok-argument.ensures
    ∙ ap (λ (found : List ℕ). many_from line_ends argument.read (c.left-turn-end.result + 1 - (c.loop-turn._turn + 1)) found c.argument.new.input) (sym c.in_ok-push.ensures.ok)

pub returns : goal.returns
unfolding arguments
returns c =
    no_more (λ n. many_from line_ends argument.read n c.loop-turn.arguments c.loop-turn.input) _ c.loop-turn._turn c.loop-turn-test.false c.loop-turn.invariant
    ∙ no_list line_ends argument.read c.loop-turn.arguments c.loop-turn.input
