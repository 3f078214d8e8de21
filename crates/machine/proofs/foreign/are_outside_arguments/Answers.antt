use Rattle.std.proofs.Common.{arith, sym, ◌∙◌}
use Rattle.std.proofs.lemmas.List.{at_drop_all}
use Rattle.machine.specs.Asks.{are_outside_arguments}
use Rattle.machine.proofs.ForeignArguments.{none_left}
use Rattle.machine.proofs.foreign.are_outside_arguments.Goals as goal

pub returns : goal.returns
returns c =
    let m = c.args.context.now.program.now.of_module in
    let f = c.args.context.now.function.now in
    let slots = c.args.context.now.slots.now in
    let registers = c.args.context.now.registers.now in
    let types = c.loop-argument.rest.now in
    c.is_empty.ensures
    ∙ none_left m f slots registers types
    ∙ sym (at_drop_all (are_outside_arguments m f slots registers types) c.args.arguments.now c.loop-argument.argument-index (omega (arith, c.loop-argument-test.false)))
    ∙ c.loop-argument.invariant
