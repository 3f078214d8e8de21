-- Each instruction keeps it, by what it does: a slot holds a fresh class only while some value is of it, and each value has a class for itself.
use Rattle.std.proofs.Common.{ℕ, List, length, Option, Some, None}
use Rattle.ir_ast.specs.declared.op.Op.{Op}
use Rattle.ir_ast.specs.declared.op.Op.TheVariants as op
use Rattle.layout.specs.Layouts.{LaidOut}
use Rattle.shadow_stack.specs.Slots.{SlotTable}
use Rattle.certs.specs.declared.section.Section.{Section}
use Rattle.facts.specs.Facts.{FactSet}
use Rattle.block_rules.specs.Signature.{callee_of}
use Rattle.type_kinds.specs.TypeKinds.{kind_of}
use Rattle.block_rules.specs.Rules.{after_op}
use Rattle.soundness.proofs.Members.{call_members, cast_members, after_element_members, select_members}
use Rattle.soundness.proofs.Memory.{memory_members}
use Rattle.soundness.proofs.Numbers.{named_number}
use Rattle.soundness.specs.Goes.{HaveMembers, MembersStay}

module _ (p : LaidOut) (certs : List Section) (table : SlotTable) (facts : FactSet) (members : HaveMembers facts) where
  -- by what an instruction does
  op_members : (result : Option ℕ) (x : Op) → HaveMembers (after_op p certs table result x facts)
  op_members result (op.Memory x) = memory_members p table facts members result x
  op_members result (op.Call x) = call_members facts members p certs table result x.returned x.arguments (callee_of p.of_module x.callee (length x.arguments))
  op_members None (op.Number x) = members
  op_members None (op.Element x) = members
  op_members None (op.Cast x) = members
  op_members None (op.Choice x) = members
  op_members (Some v) (op.Number x) = named_number p.of_module facts members v x
  op_members (Some v) (op.Element x) = after_element_members facts members p v x.source x.base x.indices
  op_members (Some v) (op.Cast x) = cast_members facts members p.of_module table v x.from x.to x.operand
  op_members (Some v) (op.Choice x) = select_members p.of_module v (kind_of p.of_module x.written) x.chosen x.other facts members

pub members_stay : MembersStay
members_stay p certs table facts instr members = op_members p certs table facts members instr.result instr.op
