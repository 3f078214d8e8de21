use Rattle.std.proofs.Common.{◌≡◌, drop}
use Rattle.machine.specs.Asks.{are_outside_arguments}
use Rattle.machine.proofs.foreign.are_outside_arguments.Given as goal

abbrev pub invariant-loop-argument : goal.invariant-loop-argument
invariant-loop-argument l =
    are_outside_arguments l.context.program.now.of_module l.context.function.now l.context.slots.now l.context.registers.now l.rest (drop l.argument-index l.arguments)
    ≡ are_outside_arguments l.context.program.now.of_module l.context.function.now l.context.slots.now l.context.registers.now l.fn.types l.arguments
