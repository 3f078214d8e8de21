use Rattle.std.proofs.Common.{◌+◌, ◌-◌, ◌∙◌, List, sym, rules, arith, ap}
use Rattle.std.proofs.lemmas.Grind.{common_steps}
use Rattle.grammar.specs.Many.{many_from}
use Rattle.grammar.specs.Turns.{one_more, no_more}
use Rattle.name_text.specs.Numbers.{is_nil}
use Rattle.recheck.specs.Text.{edit, edits}
use Rattle.recheck.specs.declared.edit.Edit.{Edit}
use Rattle.recheck.specs.declared.frame_fault.FrameFault.{FrameFault}
use Rattle.grammar.specs.Collected.{list_ends, list_goes, list_breaks, no_list}
use Rattle.recheck.proofs.reader.edits.Goals as goal

pub returns-then-ended : goal.returns-then-ended
unfolding edits
returns-then-ended c =
    one_more (λ n. many_from is_nil edit.read n c.loop-turn.edits c.loop-turn.input) _ c.loop-turn._turn c.loop-turn-test.true c.loop-turn.invariant
    ∙ list_ends is_nil edit.read _ c.loop-turn.edits c.loop-turn.input (sym c.ended.ensures ∙ c.if-ended.true)

pub returns-in_err-edit : goal.returns-in_err-edit
unfolding edits
returns-in_err-edit c =
    let e = one_more (λ n. many_from is_nil edit.read n c.loop-turn.edits c.loop-turn.input) _ c.loop-turn._turn c.loop-turn-test.true c.loop-turn.invariant in
    let breaks = λ (x : FrameFault). list_breaks is_nil edit.read (c.left-turn-end.result + 1 - (c.loop-turn._turn + 1)) c.loop-turn.edits c.loop-turn.input x (sym c.ended.ensures ∙ c.if-ended.false) in
    first_of (search rules, grind (arith, common_steps))

pub loop-turn-preserved : goal.loop-turn-preserved
loop-turn-preserved c =
    one_more (λ n. many_from is_nil edit.read n c.loop-turn.edits c.loop-turn.input) _ c.loop-turn._turn c.loop-turn-test.true c.loop-turn.invariant
    ∙ list_goes is_nil edit.read _ c.loop-turn.edits c.loop-turn.input c.in_ok-edit.field-0 c.edit.new.input (sym c.ended.ensures ∙ c.if-ended.false) c.in_ok-edit.ensures
    ∙ ap (λ (found : List Edit). many_from is_nil edit.read (c.left-turn-end.result + 1 - (c.loop-turn._turn + 1)) found c.edit.new.input) (sym c.in_ok-push.ensures.ok)

pub returns : goal.returns
unfolding edits
returns c =
    no_more (λ n. many_from is_nil edit.read n c.loop-turn.edits c.loop-turn.input) _ c.loop-turn._turn c.loop-turn-test.false c.loop-turn.invariant
    ∙ no_list is_nil edit.read c.loop-turn.edits c.loop-turn.input
