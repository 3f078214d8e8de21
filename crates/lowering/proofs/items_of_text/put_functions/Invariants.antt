use Rattle.std.proofs.Common.{◌≡◌, ◌++◌, take}
use Rattle.std.specs.List.{flat_map}
use Rattle.lowering.specs.Items.{function_text}
use Rattle.lowering.proofs.items_of_text.put_functions.Given as goal

abbrev pub invariant-loop-function : goal.invariant-loop-function
invariant-loop-function l = l.out.items ≡ l.fn.out.items ++ flat_map (function_text l.recorded l.«module») (take l.function-index l.functions)
