use Rattle.std.proofs.Common.{◌≡◌, length}
use Rattle.machine.specs.Asks.{arguments_pass}
use Rattle.machine.proofs.calls.arguments_pass.Given as goal

abbrev pub invariant-loop-parameter : goal.invariant-loop-parameter
invariant-loop-parameter l =
    (arguments_pass l.context.program.now.of_module l.context.function.now l.context.slots.now l.context.registers.now l.parameter-iterator.a.rest.now l.parameter-iterator.b.rest.now
    ≡ arguments_pass l.context.program.now.of_module l.context.function.now l.context.slots.now l.context.registers.now l.fn.parameters l.fn.arguments)
    × (length l.parameter-iterator.a.rest.now ≡ length l.parameter-iterator.b.rest.now)
