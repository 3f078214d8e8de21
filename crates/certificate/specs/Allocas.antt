-- Which functions make slots.
use Rattle.std.specs.Prelude.{Bool, true, false, List}
use Rattle.std.specs.List.{list_any}
use Rattle.ir_ast.specs.declared.block.Block.{Block}
use Rattle.ir_ast.specs.declared.instr.Instr.{Instr}
use Rattle.ir_ast.specs.declared.memory.MemoryOp.TheVariants.{Alloca}
use Rattle.ir_ast.specs.declared.op.Op.{Op}
use Rattle.ir_ast.specs.declared.op.Op.TheVariants.{Memory}

-- the operation makes a slot
abbrev pub is_alloca : Op → Bool
is_alloca (Memory (Alloca held)) = true
is_alloca _ = false

-- one of these instructions does
abbrev pub has_alloca : List Instr → Bool
has_alloca body = list_any (λ instr. is_alloca instr.op) body

-- an instruction of one of these blocks does
abbrev pub makes_slots : List Block → Bool
makes_slots blocks = list_any (λ block. has_alloca block.body) blocks
