use Rattle.std.proofs.Common.{◌≡◌, length}
use Rattle.machine.specs.Start.{arguments_fit}
use Rattle.machine.proofs.thread.arguments_fit.Given as goal

abbrev pub invariant-loop-parameter : goal.invariant-loop-parameter
invariant-loop-parameter l =
    (arguments_fit l.of_module l.parameter-iterator.a.rest.now l.parameter-iterator.b.rest.now ≡ arguments_fit l.of_module l.fn.parameters l.fn.arguments)
    × (length l.parameter-iterator.a.rest.now ≡ length l.parameter-iterator.b.rest.now)
