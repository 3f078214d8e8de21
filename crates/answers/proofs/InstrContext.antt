-- Where an instruction stands does not depend on functions.
use Rattle.std.specs.List.{list_any, take_while}
use Rattle.std.specs.Prelude.{List, [], false, length, nat_lt, not, refl, true, ◌==◌, ◌||◌, ◌∷◌, ◌≡◌}
use Rattle.block_rules.specs.InstrContext.{begins_collected, block_moves, body_of, function_moves, head_in, head_of, instruction_moves, is_collected_type, is_gcroot, is_head_instruction, is_of_head, is_shadow_stack, keeps_shadow_stack, memory_moves, moves_reference, phi_moves, phis_of, instr_context}
use Rattle.type_kinds.specs.TypeKinds.{may_be_reference}
use Rattle.ir_ast.specs.declared.choices.Phi.{Phi}
use Rattle.ir_ast.specs.declared.function.Function.{Function}
use Rattle.ir_ast.specs.declared.instr.Instr.{Instr}
use Rattle.ir_ast.specs.declared.memory.MemoryOp.{MemoryOp}
use Rattle.ir_ast.specs.declared.module.Module.{Module}
use Rattle.ir_ast.specs.declared.op.Op.{Op}
use Rattle.shadow_stack.specs.Slots.{SlotTable}
use Rattle.answers.proofs.Operands.{kind_of_same}
use Rattle.answers.proofs.Types.{runtime_called_same}
use Rattle.answers.specs.Local.{with_functions}
use Rattle.ir_ast.specs.declared.memory.MemoryOp.TheVariants as memory
use Rattle.ir_ast.specs.declared.op.Op.TheVariants as op

is_of_head_by : (m : Module) (fs : List Function) (f : Function) (slots : SlotTable) (x : Op) → is_of_head (with_functions m fs) f slots x ≡ is_of_head m f slots x
is_of_head_by m fs f slots (op.Memory x) = refl
is_of_head_by m fs f slots (op.Cast x) = refl
is_of_head_by m fs f slots (op.Call x) = λ along. is_gcroot (runtime_called_same m fs along x.callee)
is_of_head_by m fs f slots _ = refl

pub is_of_head_same : (m : Module) (fs : List Function) → is_of_head (with_functions m fs) ≡ is_of_head m
is_of_head_same m fs = λ along f slots x. is_of_head_by m fs f slots x along

pub is_head_instruction_same : (m : Module) (fs : List Function) → is_head_instruction (with_functions m fs) ≡ is_head_instruction m
is_head_instruction_same m fs = λ along f slots instr. is_of_head_same m fs along f slots instr.op

head_of_by : (m : Module) (fs : List Function) (f : Function) (slots : SlotTable) (phis : List Phi) (body : List Instr) → head_of (with_functions m fs) f slots phis body ≡ head_of m f slots phis body
head_of_by m fs f slots [] body = λ along. length (take_while (is_head_instruction_same m fs along f slots) body)
head_of_by m fs f slots (phi ∷ phis) body = refl

pub head_of_same : (m : Module) (fs : List Function) → head_of (with_functions m fs) ≡ head_of m
head_of_same m fs = λ along f slots phis body. head_of_by m fs f slots phis body along

pub is_collected_type_same : (m : Module) (fs : List Function) → is_collected_type (with_functions m fs) ≡ is_collected_type m
is_collected_type_same m fs = λ along written. may_be_reference (kind_of_same m fs along written)

memory_moves_by : (m : Module) (fs : List Function) (x : MemoryOp) → memory_moves (with_functions m fs) x ≡ memory_moves m x
memory_moves_by m fs (memory.Alloca held) = refl
memory_moves_by m fs (memory.Buffer held count) = refl
memory_moves_by m fs (memory.Load loaded place_type place) = λ along. is_collected_type_same m fs along loaded
memory_moves_by m fs (memory.Store stored value place_type place) = λ along. is_collected_type_same m fs along stored

pub memory_moves_same : (m : Module) (fs : List Function) → memory_moves (with_functions m fs) ≡ memory_moves m
memory_moves_same m fs = λ along x. memory_moves_by m fs x along

moves_reference_by : (m : Module) (fs : List Function) (x : Op) → moves_reference (with_functions m fs) x ≡ moves_reference m x
moves_reference_by m fs (op.Memory x) = λ along. memory_moves_same m fs along x
moves_reference_by m fs (op.Choice x) = λ along. is_collected_type_same m fs along x.written
moves_reference_by m fs (op.Call x) = λ along. is_collected_type_same m fs along x.returned || list_any (λ argument. is_collected_type_same m fs along argument.written) x.arguments
moves_reference_by m fs _ = refl

pub moves_reference_same : (m : Module) (fs : List Function) → moves_reference (with_functions m fs) ≡ moves_reference m
moves_reference_same m fs = λ along x. moves_reference_by m fs x along

pub instruction_moves_same : (m : Module) (fs : List Function) → instruction_moves (with_functions m fs) ≡ instruction_moves m
instruction_moves_same m fs = λ along instr. moves_reference_same m fs along instr.op

pub phi_moves_same : (m : Module) (fs : List Function) → phi_moves (with_functions m fs) ≡ phi_moves m
phi_moves_same m fs = λ along phi. is_collected_type_same m fs along phi.written

pub block_moves_same : (m : Module) (fs : List Function) → block_moves (with_functions m fs) ≡ block_moves m
block_moves_same m fs = λ along block. list_any (phi_moves_same m fs along) block.phis || list_any (instruction_moves_same m fs along) block.body

pub function_moves_same : (m : Module) (fs : List Function) → function_moves (with_functions m fs) ≡ function_moves m
function_moves_same m fs = λ along f. is_collected_type_same m fs along f.returned || list_any (λ parameter. is_collected_type_same m fs along parameter.written) f.parameters || list_any (block_moves_same m fs along) f.blocks

pub keeps_shadow_stack_same : (m : Module) (fs : List Function) → keeps_shadow_stack (with_functions m fs) ≡ keeps_shadow_stack m
keeps_shadow_stack_same m fs = λ along f. is_shadow_stack f.collector || not (function_moves_same m fs along f)

pub head_in_same : (m : Module) (fs : List Function) → head_in (with_functions m fs) ≡ head_in m
head_in_same m fs = λ along f slots block. elim (block == 0) [ true ↦ head_of_same m fs along f slots (phis_of f block) (body_of f block) | false ↦ 0 ]

pub begins_collected_same : (m : Module) (fs : List Function) → begins_collected (with_functions m fs) ≡ begins_collected m
begins_collected_same m fs = λ along f block. not (block == 0) || keeps_shadow_stack_same m fs along f

pub instr_context_same : (m : Module) (fs : List Function) → instr_context (with_functions m fs) ≡ instr_context m
instr_context_same m fs = λ along f slots promised mark block place. record {
  in_entry = block == 0;
  in_head = nat_lt place (head_in_same m fs along f slots block);
  may_move_references = not (place == 0) || begins_collected_same m fs along f block;
  promised = promised;
  mark = mark;
}
