use Rattle.std.proofs.Common.{◌≡◌, ◌++◌, take}
use Rattle.std.specs.List.{flat_map}
use Rattle.ir_print.specs.Instructions.{instruction_line}
use Rattle.ir_print.proofs.instructions.put_instructions.Given as goal

abbrev pub invariant-loop-instruction : goal.invariant-loop-instruction
invariant-loop-instruction l = l.out.items ≡ l.fn.out.items ++ flat_map (instruction_line l.«module» l.locals) (take l.instruction-index l.instructions)
