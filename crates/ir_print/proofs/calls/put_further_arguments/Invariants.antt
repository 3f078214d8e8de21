use Rattle.std.proofs.Common.{◌≡◌, ◌++◌, take}
use Rattle.std.specs.List.{flat_map}
use Rattle.std.specs.Prelude.{codes}
use Rattle.ir_print.specs.Operands.{argument_text}
use Rattle.ir_print.proofs.calls.put_further_arguments.Given as goal

abbrev pub invariant-loop-argument : goal.invariant-loop-argument
invariant-loop-argument l = l.out.items ≡ l.fn.out.items ++ flat_map (λ argument. codes ", " ++ argument_text l.«module» l.locals argument) (take l.argument-index l.arguments)
