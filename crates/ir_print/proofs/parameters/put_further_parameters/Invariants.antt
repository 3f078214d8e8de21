use Rattle.std.proofs.Common.{◌≡◌, ◌++◌, take}
use Rattle.std.specs.List.{flat_map}
use Rattle.std.specs.Prelude.{codes}
use Rattle.ir_print.specs.Items.{parameter_text}
use Rattle.ir_print.proofs.parameters.put_further_parameters.Given as goal

abbrev pub invariant-loop-parameter : goal.invariant-loop-parameter
invariant-loop-parameter l = l.out.items ≡ l.fn.out.items ++ flat_map (λ parameter. codes ", " ++ parameter_text l.«module» l.locals parameter) (take l.parameter-index l.parameters)
