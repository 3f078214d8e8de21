use Rattle.std.proofs.Common.{◌≡◌, ◌+◌, Some, slice_get, get_or, arith}
use Rattle.std.proofs.lemmas.Option.{slice_get-get_or}
use Rattle.moves.specs.declared.actor.Actor.TheVariants as actor
use Rattle.trace_text.specs.declared.trace.Steps.{Steps}
use Rattle.hunting.proofs.Sums.{sum_more, sum_take}
use Rattle.hunting.proofs.steps.total.Goals as goal

-- no steps, for the places past the end of a list
abbrev none : Steps
none = record { actor = actor.Thread 0; count = 0 }

pub overflow_add-total : goal.overflow_add-total
overflow_add-total c =
    let lines = c.args.lines.now in
    let i = c.loop-line.line-index in
    let line = get_or lines i none in
    let there : slice_get lines i ≡ Some line = slice_get-get_or lines i none (omega (arith, c.loop-line-test.true)) in
    let more = sum_more lines i line there in
    let few = sum_take (i + 1) lines in
    omega (arith, more, few, c.loop-line.invariant, c.requires)
