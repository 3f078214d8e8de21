use Rattle.std.proofs.Common.{◌≡◌, ◌++◌, take}
use Rattle.std.specs.List.{flat_map}
use Rattle.std.specs.Prelude.{codes}
use Rattle.ir_print.specs.Types.{type_text}
use Rattle.ir_print.proofs.parameters.put_further_types.Given as goal

abbrev pub invariant-loop-written : goal.invariant-loop-written
invariant-loop-written l = l.out.items ≡ l.fn.out.items ++ flat_map (λ written. codes ", " ++ type_text l.«module» written) (take l.written-index l.types)
