-- Any call that the rules allow and that is of no defined function.
use Rattle.std.proofs.Common.{◌≡◌, ℕ, List, length, refl, sym, ◌∙◌, subst, true, Bool, Option, Some, None}
use Rattle.ir_ast.specs.declared.function.Function.{Function}
use Rattle.ir_ast.specs.declared.items_of_module.Declare.{Declare}
use Rattle.ir_ast.specs.declared.argument.Argument.{Argument}
use Rattle.ir_ast.specs.declared.runtime.Runtime.{Runtime}
use Rattle.ir_ast.specs.declared.runtime.Runtime.TheVariants as runtime
use Rattle.pools.specs.Heap.{Setup}
use Rattle.layout.specs.Globals.{IsHeapFor}
use Rattle.layout.specs.Layouts.{LaidOut}
use Rattle.types.specs.RuntimeCall.{runtime_called}
use Rattle.safepoints.specs.Marks.{is_may}
use Rattle.shadow_stack.specs.Slots.{SlotTable}
use Rattle.certs.specs.declared.section.Section.{Section}
use Rattle.facts.specs.Facts.{FactSet}
use Rattle.block_rules.specs.declared.callee.Callee.{Callee}
use Rattle.block_rules.specs.declared.callee.Callee.TheVariants.{OfRuntime, OfModule, Foreign, NoFunction}
use Rattle.block_rules.specs.declared.instr_context.InstrContext.{InstrContext}
use Rattle.block_rules.specs.Calls.{call_conditions, refused_conditions, foreign_conditions, after_foreign_call, after_call}
use Rattle.block_rules.specs.FirstFailing.{first_failing}
use Rattle.block_rules.specs.Signature.{callee_of}
use Rattle.machine.specs.declared.action.Action.{Action}
use Rattle.machine.specs.declared.answer.Answer.{Answer}
use Rattle.machine.specs.declared.frame.Frame.{Frame}
use Rattle.machine.specs.Asks as a
use Rattle.machine.specs.Log.{Log, IsFresh}
use Rattle.machine.specs.Machine as mc
use Rattle.soundness.specs.Meaning.{Cells, Guarded, Holds}
use Rattle.soundness.specs.Goes.{Goes, HaveMembers}
use Rattle.soundness.proofs.Accesses.{gcread_goes, gcwrite_goes}
use Rattle.soundness.proofs.Callees.{IsCallee, IsForeign, callee_is, defined_is, foreign_is}
use Rattle.soundness.proofs.StepCalls.{alloc_goes, root_goes, safepoint_goes}
use Rattle.soundness.proofs.ForeignCalls.{foreign_goes}
use Rattle.soundness.proofs.FloatCalls.{float_goes}
use Rattle.soundness.proofs.IntegerCalls.{integer_goes}
use Rattle.soundness.proofs.RulesHold.{rules_hold}
use Rattle.block_rules.specs.declared.rule.Rule.TheVariants.{K18}

module _ (heap : Setup) (p : LaidOut) (certs : List Section) (reaches : Bool) (f : Function) (table : SlotTable) (guarded : Guarded) (log : Log) (guards : (cell : ℕ) → guarded cell → IsFresh log cell) (fits : IsHeapFor heap p) (here : InstrContext) (marked : is_may here.mark ≡ true → reaches ≡ true) (cells : Cells) (facts : FactSet)
    (frame : Frame) (h : Holds heap p table guarded log cells facts frame.registers frame.slots) (members : HaveMembers facts) (result : Option ℕ) (returned : ℕ) where
  -- what a call asks for, by its declaration
  abbrev asked : List Argument → (callee : ℕ) → Option Declare → Option Runtime → Action
  asked arguments callee declared called = a.call_action p f table frame.registers returned arguments declared (a.function_numbered p.of_module (a.number_called p.of_module callee)) called

  -- the frame after it
  abbrev afterwards : List Argument → Option Runtime → Answer → Frame
  afterwards arguments called given = mc.after_call p f table result arguments called given frame

  -- no other call is allowed
  never : (named : Option Runtime) (arguments : List Argument) → first_failing (refused_conditions p.of_module f table here facts named arguments) ≡ None → ⊥
  never named arguments e =
      let all = rules_hold (refused_conditions p.of_module f table here facts named arguments) e in
      let k18 = all K18 in
      cc

  -- by the declaration
  of_runtime : (callee : ℕ) (arguments : List Argument) (called : Runtime) (next : FactSet) → (c : IsCallee p.of_module callee (length arguments) called (a.declare_of p.of_module callee) × (runtime_called p.of_module callee ≡ Some called))
      → Goes heap p table frame.slots reaches guarded log next (asked arguments callee (Some c.0.declare) (Some called)) (afterwards arguments (Some called))
      → Goes heap p table frame.slots reaches guarded log next (asked arguments callee (a.declare_of p.of_module callee) (runtime_called p.of_module callee)) (afterwards arguments (runtime_called p.of_module callee))
  of_runtime callee arguments called next c goes =
      subst (λ x. Goes heap p table frame.slots reaches guarded log next (asked arguments callee (a.declare_of p.of_module callee) x) (afterwards arguments x)) (sym c.1)
      (subst (λ x. Goes heap p table frame.slots reaches guarded log next (asked arguments callee x (Some called)) (afterwards arguments (Some called))) (sym c.0.is_declared) goes)

  -- by the function of the runtime
  runtime_goes : (callee : ℕ) (arguments : List Argument) (called : Runtime) → IsCallee p.of_module callee (length arguments) called (a.declare_of p.of_module callee) × (runtime_called p.of_module callee ≡ Some called)
      → first_failing (call_conditions p certs f table here facts returned arguments (OfRuntime called)) ≡ None
      → Goes heap p table frame.slots reaches guarded log (after_call p certs table result returned arguments (OfRuntime called) facts) (asked arguments callee (a.declare_of p.of_module callee) (runtime_called p.of_module callee)) (afterwards arguments (runtime_called p.of_module callee))
  runtime_goes callee arguments runtime.Alloc c e =
      of_runtime callee arguments runtime.Alloc _ c (alloc_goes heap p certs reaches f table guarded log guards here marked cells facts frame h members.1 result returned (a.function_numbered p.of_module (a.number_called p.of_module callee)) c.0.declare arguments c.0.types c.0.arity e)
  runtime_goes callee arguments runtime.GcRoot c e =
      of_runtime callee arguments runtime.GcRoot _ c (root_goes heap p certs reaches f table guarded log guards here marked cells facts frame h members.1 result returned (a.function_numbered p.of_module (a.number_called p.of_module callee)) c.0.declare arguments c.0.types c.0.arity e)
  runtime_goes callee arguments runtime.Safepoint c e =
      of_runtime callee arguments runtime.Safepoint _ c (safepoint_goes heap p certs reaches f table guarded log guards here marked cells facts frame h members.1 result returned (a.function_numbered p.of_module (a.number_called p.of_module callee)) c.0.declare arguments c.0.types c.0.arity e)
  runtime_goes callee arguments runtime.GcRead c e =
      of_runtime callee arguments runtime.GcRead _ c (gcread_goes heap p certs reaches f table guarded log guards fits here cells facts frame h members result returned (a.function_numbered p.of_module (a.number_called p.of_module callee)) c.0.declare arguments c.0.types c.0.arity e)
  runtime_goes callee arguments runtime.GcWrite c e =
      of_runtime callee arguments runtime.GcWrite _ c (gcwrite_goes heap p certs reaches f table guarded log guards fits here cells facts frame h members result returned (a.function_numbered p.of_module (a.number_called p.of_module callee)) c.0.declare arguments c.0.types c.0.arity e)
  runtime_goes callee arguments (runtime.Integer function bits) c e =
      of_runtime callee arguments (runtime.Integer function bits) _ c (integer_goes heap p certs reaches f table guarded log here cells facts frame h result returned (a.function_numbered p.of_module (a.number_called p.of_module callee)) function bits c.0.declare arguments c.0.types c.0.arity e)
  runtime_goes callee arguments (runtime.Float function bits) c e =
      of_runtime callee arguments (runtime.Float function bits) _ c (float_goes heap p certs reaches f table guarded log here cells facts frame h result returned (a.function_numbered p.of_module (a.number_called p.of_module callee)) function bits c.0.declare arguments c.0.types c.0.arity e)

  -- a call of a function outside
  outside_goes : (callee : ℕ) (arguments : List Argument) (number : ℕ) → IsForeign p.of_module callee (length arguments) number → first_failing (call_conditions p certs f table here facts returned arguments (Foreign number)) ≡ None
      → Goes heap p table frame.slots reaches guarded log (after_foreign_call p.of_module result returned facts) (asked arguments callee (a.declare_of p.of_module callee) (runtime_called p.of_module callee)) (afterwards arguments (runtime_called p.of_module callee))
  outside_goes callee arguments number c e =
      subst (λ x. Goes heap p table frame.slots reaches guarded log (after_foreign_call p.of_module result returned facts) (asked arguments callee (a.declare_of p.of_module callee) x) (afterwards arguments x)) (sym c.no_runtime)
      (subst (λ x. Goes heap p table frame.slots reaches guarded log (after_foreign_call p.of_module result returned facts) (asked arguments callee x None) (afterwards arguments None)) (sym c.is_declared)
      (foreign_goes heap p certs reaches f table guarded log here cells facts frame h result returned (a.function_numbered p.of_module (a.number_called p.of_module callee)) c.declare arguments c.trusted
      (subst (λ x. first_failing (foreign_conditions p.of_module f table here facts returned arguments x) ≡ None) c.there e)))

  -- a call that the rules allow, and that is of no defined function
  pub call_goes : (callee : ℕ) (arguments : List Argument) → a.number_called p.of_module callee ≡ None → first_failing (call_conditions p certs f table here facts returned arguments (callee_of p.of_module callee (length arguments))) ≡ None
      → Goes heap p table frame.slots reaches guarded log (after_call p certs table result returned arguments (callee_of p.of_module callee (length arguments)) facts) (asked arguments callee (a.declare_of p.of_module callee) (runtime_called p.of_module callee))
      (afterwards arguments (runtime_called p.of_module callee))
  call_goes callee arguments inside e = by (callee_of p.of_module callee (length arguments)) refl e where
    by : (called : Callee) → callee_of p.of_module callee (length arguments) ≡ called → first_failing (call_conditions p certs f table here facts returned arguments called) ≡ None
        → Goes heap p table frame.slots reaches guarded log (after_call p certs table result returned arguments (callee_of p.of_module callee (length arguments)) facts) (asked arguments callee (a.declare_of p.of_module callee) (runtime_called p.of_module callee))
        (afterwards arguments (runtime_called p.of_module callee))
    by (NoFunction named) is e = absurd (never named arguments e)
    by (OfModule number) is e = absurd (let d = defined_is p.of_module callee (length arguments) number is in let x : Some number ≡ None = sym d.named ∙ inside in cc)
    by (Foreign number) is e =
        subst (λ x. Goes heap p table frame.slots reaches guarded log (after_call p certs table result returned arguments x facts) (asked arguments callee (a.declare_of p.of_module callee) (runtime_called p.of_module callee)) (afterwards arguments (runtime_called p.of_module callee))) (sym is)
        (outside_goes callee arguments number (foreign_is p.of_module callee (length arguments) number is) e)
    by (OfRuntime called) is e =
        subst (λ x. Goes heap p table frame.slots reaches guarded log (after_call p certs table result returned arguments x facts) (asked arguments callee (a.declare_of p.of_module callee) (runtime_called p.of_module callee)) (afterwards arguments (runtime_called p.of_module callee))) (sym is)
        (runtime_goes callee arguments called (callee_is p.of_module callee (length arguments) called is) e)
