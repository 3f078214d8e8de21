use Rattle.std.proofs.Common.{◌≡◌, ◌++◌, take}
use Rattle.std.specs.List.{flat_map}
use Rattle.ir_print.specs.Items.{function_text}
use Rattle.ir_print.proofs.items_of_text.put_functions.Given as goal

abbrev pub invariant-loop-function : goal.invariant-loop-function
invariant-loop-function l = l.out.items ≡ l.fn.out.items ++ flat_map (function_text l.«module») (take l.function-index l.functions)
