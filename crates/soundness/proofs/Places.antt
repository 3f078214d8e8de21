-- Where a frame is after an instruction, and which of its slots are roots.
use Rattle.std.proofs.Common.{◌≡◌, ℕ, zero, suc, ◌<◌, List, [], ◌∷◌, length, drop, refl, ap, subst, arith, true, false, Bool, Option, Some, None, slice_get}
use Rattle.std.proofs.lemmas.List.{length-set}
use Rattle.std.specs.Prelude.{if◌then◌else◌}
use Rattle.ir_ast.specs.declared.block.Block.{Block}
use Rattle.ir_ast.specs.declared.function.Function.{Function}
use Rattle.ir_ast.specs.declared.instr.Instr.{Instr}
use Rattle.ir_ast.specs.declared.module.Module.{Module}
use Rattle.ir_ast.specs.declared.argument.Argument.{Argument}
use Rattle.ir_ast.specs.declared.memory.MemoryOp.{MemoryOp}
use Rattle.ir_ast.specs.declared.memory.MemoryOp.TheVariants as memory
use Rattle.ir_ast.specs.declared.op.Op.{Op}
use Rattle.ir_ast.specs.declared.op.Op.TheVariants as op
use Rattle.ir_ast.specs.declared.operand.Operand.{Operand}
use Rattle.ir_ast.specs.declared.operand.Operand.TheVariants as operand
use Rattle.ir_ast.specs.declared.runtime.Runtime.{Runtime}
use Rattle.ir_ast.specs.declared.runtime.Runtime.TheVariants as runtime
use Rattle.layout.specs.Layouts.{LaidOut}
use Rattle.types.specs.RuntimeCall.{runtime_called}
use Rattle.shadow_stack.specs.Slots.{SlotTable, held_type, is_among, is_reference_held, operand_slot}
use Rattle.certs.specs.declared.section.Section.{Section}
use Rattle.facts.specs.Facts.{FactSet}
use Rattle.block_rules.specs.declared.instr_context.InstrContext.{InstrContext}
use Rattle.block_rules.specs.FirstFailing.{first_failing}
use Rattle.block_rules.specs.InstrContext.{block_phis, block_body, block_end}
use Rattle.block_rules.specs.Rules.{op_conditions, conditions, may_hold}
use Rattle.block_rules.specs.Certified.{Follows, stands}
use Rattle.block_rules.specs.Edges.{RuleContext}
use Rattle.machine.specs.declared.answer.Answer.{Answer}
use Rattle.machine.specs.declared.frame.Frame.{Frame}
use Rattle.machine.specs.declared.value.Value.{Value}
use Rattle.machine.specs.Jumps as j
use Rattle.machine.specs.Kinds as k
use Rattle.machine.specs.Machine as mc
use Rattle.soundness.proofs.RulesHold.{rules_hold, unbroken}
use Rattle.block_rules.specs.declared.rule.Rule.TheVariants.{K8}
use Rattle.soundness.proofs.Slots.{AllocaIs, AllNamed, BlocksNamed, NamesRoots, AreRooted, rooted_set}

-- ---- the instruction at a place

-- the rest of a list from a place on begins with what is there
drop_some : {X : Type 0} (xs : List X) (i : ℕ) (x : X) → slice_get xs i ≡ Some x → drop i xs ≡ x ∷ drop (suc i) xs
drop_some [] i x e = absurd cc
drop_some (y ∷ xs) zero x e = let same : y ≡ x = cc in ap (λ z. z ∷ xs) same
drop_some (y ∷ xs) (suc i) x e = drop_some xs i x e

pub instruction_in : (q : Option Block) (place : ℕ) (instr : Instr) → mc.instr_in place q ≡ Some instr → drop place (block_body q) ≡ instr ∷ drop (suc place) (block_body q)
instruction_in None place instr e = absurd cc
instruction_in (Some block) place instr e = drop_some block.body place instr e

-- from a place on where there is nothing, a list has no rest
drop_none : {X : Type 0} (xs : List X) (i : ℕ) → slice_get xs i ≡ None → drop i xs ≡ []
drop_none [] zero e = refl
drop_none [] (suc i) e = refl
drop_none (y ∷ xs) zero e = absurd cc
drop_none (y ∷ xs) (suc i) e = drop_none xs i e

pub no_instruction_in : (q : Option Block) (place : ℕ) → mc.instr_in place q ≡ None → drop place (block_body q) ≡ []
no_instruction_in None zero e = refl
no_instruction_in None (suc place) e = refl
no_instruction_in (Some block) place e = drop_none block.body place e

-- the rules and the machine read the same phis, and the same end
pub same_phis : (q : Option Block) → block_phis q ≡ j.phis_of q
same_phis None = refl
same_phis (Some block) = refl

pub same_end : (q : Option Block) → block_end q ≡ mc.end_of q
same_end None = refl
same_end (Some block) = refl

-- ---- the allocas of a certified function

module _ (p : LaidOut) (certs : List Section) (f : Function) (table : SlotTable) where
  alloca_allowed : (here : InstrContext) (facts : FactSet) (result : Option ℕ) (x : Op) → first_failing (op_conditions p certs f table here facts result x) ≡ None → AllocaIs (λ w held. may_hold p.of_module table (Some w) held ≡ true) result x
  alloca_allowed here facts result (op.Memory (memory.Alloca held)) e = λ w is. subst (λ name. may_hold p.of_module table name held ≡ true) is (rules_hold (op_conditions p certs f table here facts result (op.Memory (memory.Alloca held))) e K8)
  alloca_allowed here facts result _ e = tt

-- each alloca of instructions that obey the rules is allowed
pub follows_named : (s : RuleContext) (block place : ℕ) (facts : FactSet) (instrs : List Instr) (last : FactSet) → Follows s block place facts instrs last → AllNamed (λ w held. may_hold s.program.of_module s.slots (Some w) held ≡ true) instrs
follows_named s block place facts [] last follows = tt
follows_named s block place facts (instr ∷ instrs) last follows = (
  alloca_allowed s.program s.certs s.function s.slots (stands s block place) facts instr.result instr.op (unbroken (first_failing (conditions s.program s.certs s.function s.slots (stands s block place) facts instr)) follows.1.keeps),
  follows_named s block (suc place) follows.0 instrs last follows.2,
)

-- and so is each of the blocks
pub blocks_named : (P : (name held : ℕ) → Type 0) (blocks : List Block) → ((i : ℕ) → i < length blocks → AllNamed P (block_body (slice_get blocks i))) → BlocksNamed P blocks
blocks_named P [] each = tt
blocks_named P (block ∷ blocks) each = (each 0 (omega arith), blocks_named P blocks (λ i lt. each (suc i) (omega (arith, lt))))

-- ---- what an instruction leaves

-- after an instruction a frame is where it was, with as many registers, and has written no slots but roots
pub record SamePlace (m : Module) (table : SlotTable) (before afterwards : Frame) : Type 0 where
  pub function : afterwards.function ≡ before.function
  pub into : afterwards.into ≡ before.into
  pub block : afterwards.block ≡ before.block
  pub place : afterwards.place ≡ before.place
  pub size : length afterwards.registers ≡ length before.registers
  pub rooted : AreRooted m table before.slots → AreRooted m table afterwards.slots

module _ (p : LaidOut) (f : Function) (table : SlotTable) (names : NamesRoots p.of_module table) where
  same_place : (frame : Frame) → SamePlace p.of_module table frame frame
  same_place frame = record { function = refl; into = refl; block = refl; place = refl; size = refl; rooted = λ r. r }

  register_place : (name : Option ℕ) (v : Value) (frame : Frame) → SamePlace p.of_module table frame (mc.set_register name v frame)
  register_place None v frame = record { function = refl; into = refl; block = refl; place = refl; size = refl; rooted = λ r. r }
  register_place (Some n) v frame = record { function = refl; into = refl; block = refl; place = refl; size = length-set frame.registers n v; rooted = λ r. r }

  slot_place : (name : Option ℕ) (v : Value) (frame : Frame) → ((s : ℕ) → name ≡ Some s → is_reference_held p.of_module (held_type table s) ≡ true → is_among table.roots s ≡ true) → SamePlace p.of_module table frame (mc.set_slot name v frame)
  slot_place None v frame root = same_place frame
  slot_place (Some n) v frame root = record { function = refl; into = refl; block = refl; place = refl; size = refl; rooted = rooted_set p.of_module table frame.slots n v (root n refl) }

  cast_place : (name : Option ℕ) (v : Value) (slot : Option ℕ) (frame : Frame) → SamePlace p.of_module table frame (mc.cast_from name v slot frame)
  cast_place name v None frame = register_place name v frame
  cast_place name v (Some slot) frame = same_place frame

  -- the slot at a place has a name
  place_root : (written : ℕ) (x : Operand) (s : ℕ) → k.slot_at_place p.of_module f table written x ≡ Some s → is_reference_held p.of_module (held_type table s) ≡ true → is_among table.roots s ≡ true
  place_root written x s e reference = pick (k.is_local_of p.of_module f written x) e where
    by : (x : Operand) → operand_slot table.names x ≡ Some s → is_among table.roots s ≡ true
    by (operand.Constant c) e = absurd cc
    by (operand.Local v) e = names v s e reference
    by (operand.Global g) e = absurd cc
    by (operand.CastGlobal a g b) e = absurd cc

    pick : (b : Bool) → (if b then operand_slot table.names x else None) ≡ Some s → is_among table.roots s ≡ true
    pick true e = by x e
    pick false e = absurd cc

  call_root : (arguments : List Argument) (s : ℕ) → mc.root_of_call p.of_module f table arguments ≡ Some s → is_reference_held p.of_module (held_type table s) ≡ true → is_among table.roots s ≡ true
  call_root [] s e reference = absurd cc
  call_root (argument ∷ arguments) s e reference = place_root argument.written argument.operand s e reference

  call_place : (name : Option ℕ) (arguments : List Argument) (called : Option Runtime) (given : Answer) (frame : Frame) → SamePlace p.of_module table frame (mc.after_call p f table name arguments called given frame)
  call_place name arguments None given frame = register_place name _ frame
  call_place name arguments (Some runtime.Alloc) given frame = register_place name _ frame
  call_place name arguments (Some runtime.Safepoint) given frame = same_place frame
  call_place name arguments (Some runtime.GcRoot) given frame = slot_place _ _ frame (call_root arguments)
  call_place name arguments (Some runtime.GcRead) given frame = register_place name _ frame
  call_place name arguments (Some runtime.GcWrite) given frame = same_place frame
  call_place name arguments (Some (runtime.Integer function bits)) given frame = register_place name _ frame
  call_place name arguments (Some (runtime.Float function bits)) given frame = register_place name _ frame

  memory_place : (name : Option ℕ) (x : MemoryOp) (given : Answer) (frame : Frame) → SamePlace p.of_module table frame (mc.after_memory p f table name x given frame)
  memory_place name (memory.Alloca held) given frame = same_place frame
  memory_place name (memory.Buffer held count) given frame = register_place name _ frame
  memory_place name (memory.Load loaded place_type place) given frame = register_place name _ frame
  memory_place name (memory.Store stored x place_type place) given frame = slot_place _ _ frame (place_root place_type place)

  pub op_place : (name : Option ℕ) (x : Op) (given : Answer) (frame : Frame) → SamePlace p.of_module table frame (mc.after_op p f table name x given frame)
  op_place name (op.Number x) given frame = register_place name _ frame
  op_place name (op.Memory x) given frame = memory_place name x given frame
  op_place name (op.Element x) given frame = register_place name _ frame
  op_place name (op.Cast x) given frame = cast_place name _ (operand_slot table.names x.operand) frame
  op_place name (op.Choice x) given frame = register_place name _ frame
  op_place name (op.Call x) given frame = call_place name x.arguments (runtime_called p.of_module x.callee) given frame
