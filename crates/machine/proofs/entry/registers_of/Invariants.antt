use Rattle.std.proofs.Common.{◌≡◌, length}
use Rattle.std.specs.Prelude.{replicate}
use Rattle.machine.specs.declared.value.Value.TheVariants as value
use Rattle.machine.specs.Machine.{with_arguments}
use Rattle.machine.proofs.entry.registers_of.Given as goal

abbrev pub invariant-loop-parameter : goal.invariant-loop-parameter
invariant-loop-parameter l =
    with_arguments l.parameter-iterator.a.rest.now l.parameter-iterator.b.rest.now l.registers
    ≡ with_arguments l.function.parameters l.arguments (replicate (length l.function.locals) value.Unset)
