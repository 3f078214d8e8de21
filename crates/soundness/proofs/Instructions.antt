-- The step of any instruction that the rules allow, and that calls no defined function.
use Rattle.std.proofs.Common.{◌≡◌, ℕ, List, true, Option, None, Bool}
use Rattle.ir_ast.specs.declared.function.Function.{Function}
use Rattle.ir_ast.specs.declared.op.Op.{Op}
use Rattle.ir_ast.specs.declared.op.Op.TheVariants as op
use Rattle.pools.specs.Heap.{Setup}
use Rattle.layout.specs.Globals.{IsHeapFor}
use Rattle.layout.specs.Layouts.{LaidOut}
use Rattle.safepoints.specs.Marks.{is_may}
use Rattle.shadow_stack.specs.Slots.{SlotTable, slots_of}
use Rattle.certs.specs.declared.section.Section.{Section}
use Rattle.facts.specs.Facts.{FactSet}
use Rattle.block_rules.specs.declared.instr_context.InstrContext.{InstrContext}
use Rattle.block_rules.specs.FirstFailing.{first_failing}
use Rattle.block_rules.specs.Rules.{op_conditions}
use Rattle.machine.specs.declared.frame.Frame.{Frame}
use Rattle.machine.specs.Machine as mc
use Rattle.machine.specs.Log.{Log, IsFresh}
use Rattle.soundness.specs.Meaning.{Cells, Guarded, Holds}
use Rattle.soundness.specs.Goes.{HaveMembers, InstructionsGo}
use Rattle.soundness.proofs.Steps.{OpGoes}
use Rattle.soundness.proofs.AnyCall.{call_goes}
use Rattle.soundness.proofs.Casts.{cast_goes}
use Rattle.soundness.proofs.Choices.{choice_goes}
use Rattle.soundness.proofs.Elements.{element_goes}
use Rattle.soundness.proofs.Memory.{memory_goes}
use Rattle.soundness.proofs.Numbers.{number_goes}

module _ (heap : Setup) (p : LaidOut) (certs : List Section) (reaches : Bool) (f : Function) (table : SlotTable) (guarded : Guarded) (log : Log) (guards : (cell : ℕ) → guarded cell → IsFresh log cell) (fits : IsHeapFor heap p) (here : InstrContext) (marked : is_may here.mark ≡ true → reaches ≡ true) (cells : Cells) (facts : FactSet) (frame : Frame)
    (h : Holds heap p table guarded log cells facts frame.registers frame.slots) (members : HaveMembers facts) where
  -- by what an instruction does
  pub op_goes : (result : Option ℕ) (x : Op) → mc.function_called p.of_module x ≡ None → first_failing (op_conditions p certs f table here facts result x) ≡ None → OpGoes heap p certs reaches f table guarded log facts frame result x
  op_goes result (op.Number x) inside e = number_goes heap p certs reaches f table guarded log cells facts frame h here result x e
  op_goes result (op.Memory x) inside e = memory_goes heap p certs reaches f table guarded log guards fits here cells facts frame h members result x e
  op_goes result (op.Element x) inside e = element_goes heap p certs reaches f table guarded log cells facts frame h here result x e
  op_goes result (op.Cast x) inside e = cast_goes heap p certs reaches f table guarded log cells facts frame h fits here result x e
  op_goes result (op.Choice x) inside e = choice_goes heap p certs reaches f table guarded log cells facts frame h here result x e
  op_goes result (op.Call x) inside e = call_goes heap p certs reaches f table guarded log guards fits here marked cells facts frame h members result x.returned x.callee x.arguments inside e

-- whatever frames below know to be fresh
pub instructions_go : (guarded : Guarded) → InstructionsGo guarded
instructions_go guarded heap p certs f log cells facts frame here instr guards fits size h members e inside =
    op_goes heap p certs (is_may here.mark) f (slots_of p.of_module f) guarded log guards fits here (λ may. may) cells facts frame h members instr.result instr.op inside e
