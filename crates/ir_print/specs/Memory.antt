-- How operations on memory are printed.
use Rattle.std.specs.Prelude.{List, [], ◌++◌, Option, Some, None, codes}
use Rattle.ir_ast.specs.declared.argument.Argument.{Argument}
use Rattle.ir_ast.specs.declared.memory.MemoryOp.{MemoryOp}
use Rattle.ir_ast.specs.declared.memory.MemoryOp.TheVariants as memory
use Rattle.ir_ast.specs.declared.module.Module.{Module}
use Rattle.ir_tokens.specs.Bytes.{Text}
use Rattle.ir_print.specs.Types.{type_text}
use Rattle.ir_print.specs.Operands.{typed_text, argument_text}
use Rattle.ir_print.specs.Parts.{typed, placed_text}

-- how many elements are counted, `, T N`, if they are
abbrev pub count_text : Module → (locals : List Text) → Option Argument → Text
count_text m locals None = []
count_text m locals (Some count) = codes ", " ++ argument_text m locals count

-- an operation on memory
abbrev pub memory_op_text : Module → (locals : List Text) → MemoryOp → Text
memory_op_text m locals (memory.Alloca held) = codes "alloca " ++ type_text m held
memory_op_text m locals (memory.Buffer held count) = codes "alloca " ++ type_text m held ++ count_text m locals count
memory_op_text m locals (memory.Load loaded place_type place) = codes "load " ++ placed_text m locals loaded (typed place_type place)
memory_op_text m locals (memory.Store stored value place_type place) = codes "store " ++ typed_text m locals stored value ++ codes ", " ++ typed_text m locals place_type place
