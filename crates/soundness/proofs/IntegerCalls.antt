-- Calls of functions of integers.
use Rattle.std.proofs.Common.{◌≡◌, ℕ, Bool, List, [], ◌∷◌, length, refl, arith, true, Option, Some, None}
use Rattle.std.specs.Prelude.{◌==◌, map}
use Rattle.std.specs.List.{list_all, zip}
use Rattle.lemmas.specs.Numbers.{test_true}
use Rattle.lemmas.specs.Bools.{and_parts}
use Rattle.ir_ast.specs.IntegerFunctions.{widths}
use Rattle.ir_ast.specs.declared.argument.Argument.{Argument}
use Rattle.ir_ast.specs.declared.function.Function.{Function}
use Rattle.ir_ast.specs.declared.integer_function.IntegerFunction.{IntegerFunction}
use Rattle.ir_ast.specs.declared.items_of_module.Declare.{Declare}
use Rattle.ir_ast.specs.declared.runtime.Runtime.TheVariants as runtime
use Rattle.pools.specs.Heap.{Setup}
use Rattle.layout.specs.Layouts.{LaidOut}
use Rattle.shadow_stack.specs.Slots.{SlotTable}
use Rattle.certs.specs.declared.section.Section.{Section}
use Rattle.facts.specs.Facts.{FactSet}
use Rattle.block_rules.specs.declared.instr_context.InstrContext.{InstrContext}
use Rattle.block_rules.specs.declared.rule.Rule.TheVariants.{K1, K2, K10}
use Rattle.block_rules.specs.declared.signature.RuntimeType.TheVariants as types
use Rattle.type_kinds.specs.declared.type_kind.TypeKind.TheVariants.{Bits}
use Rattle.block_rules.specs.Calls.{all_available, all_values, no_slots, integer_conditions, after_integer_call}
use Rattle.block_rules.specs.FirstFailing.{first_failing}
use Rattle.block_rules.specs.Operands as o
use Rattle.block_rules.specs.Signature.{signature_of, is_runtime_type, is_argument_of, is_declared_as, is_written_as}
use Rattle.type_kinds.specs.TypeKinds.{kind_of}
use Rattle.machine.specs.declared.frame.Frame.{Frame}
use Rattle.machine.specs.Asks as a
use Rattle.machine.specs.Kinds.{number_in}
use Rattle.machine.specs.Log.{Log}
use Rattle.machine.specs.Machine as mc
use Rattle.machine.specs.WrappedFits.{wrapped_fits}
use Rattle.soundness.specs.Goes.{Goes}
use Rattle.soundness.specs.Meaning.{Cells, Guarded, Holds}
use Rattle.soundness.proofs.Callees.{integer_declared, integer_written}
use Rattle.soundness.proofs.Numbers.{defines}
use Rattle.soundness.proofs.RulesHold.{rules_hold}
use Rattle.soundness.proofs.Steps.{bits_are_so, goes_local, none_of, number_usable}
use Rattle.soundness.proofs.Values.{of_value}

module _ (heap : Setup) (p : LaidOut) (certs : List Section) (reaches : Bool) (f : Function) (table : SlotTable) (guarded : Guarded) (log : Log) (here : InstrContext) (cells : Cells) (facts : FactSet) (frame : Frame) (h : Holds heap p table guarded log cells facts frame.registers frame.slots) (result : Option ℕ) (returned : ℕ) where
  -- each argument may be used as a number
  pub all_numbers : (taken : List ℕ) (arguments : List Argument) → length arguments ≡ length (map types.Bits taken) → list_all (is_argument_of p.of_module) (zip arguments (map types.Bits taken)) ≡ true → all_available table facts arguments ≡ true
      → all_values p.of_module f table facts arguments ≡ true → no_slots table arguments ≡ true → a.are_integers p.of_module f table frame.registers arguments ≡ true
  all_numbers [] [] same written k1 k2 k10 = refl
  all_numbers [] (argument ∷ arguments) same written k1 k2 k10 = absurd (omega (arith, same))
  all_numbers (bits ∷ taken) [] same written k1 k2 k10 = absurd (omega (arith, same))
  all_numbers (bits ∷ taken) (argument ∷ arguments) same written k1 k2 k10 =
      let w = and_parts (is_runtime_type p.of_module argument.written (types.Bits bits)) (list_all (is_argument_of p.of_module) (zip arguments (map types.Bits taken))) written in
      let a = and_parts (o.is_available table facts argument.operand) (all_available table facts arguments) k1 in
      let b = and_parts (o.is_value p.of_module f table facts argument.written argument.operand) (all_values p.of_module f table facts arguments) k2 in
      let d = and_parts (o.is_no_slot table argument.operand) (no_slots table arguments) k10 in
      rw (
        number_usable heap p certs reaches f table guarded log cells facts frame h argument.written bits argument.operand (bits_are_so bits (kind_of p.of_module argument.written) w.0) a.0 (of_value p.of_module f table facts argument.written argument.operand b.0)
            (none_of (o.slot_named table argument.operand) d.0),
        all_numbers taken arguments (omega (arith, same)) w.1 a.1 b.1 d.1,
      ) refl

  -- the result is an integer of its type
  gives_integer : (function : IntegerFunction) (bits : ℕ) (arguments : List Argument) → kind_of p.of_module returned ≡ Bits bits → (name : Option ℕ)
      → (more : Cells) × Holds heap p table guarded log more (after_integer_call p.of_module name returned facts) (mc.set_register name (mc.integers_value p.of_module frame.registers function bits arguments) frame).registers
      (mc.set_register name (mc.integers_value p.of_module frame.registers function bits arguments) frame).slots
  gives_integer function bits arguments kind None = (cells, h)
  gives_integer function bits arguments kind (Some v) =
      let new = mc.integers_value p.of_module frame.registers function bits arguments in
      rw kind (cells, defines heap p certs reaches f table guarded log cells facts frame h v bits None new (record { number = number_in new; is = refl; fits = wrapped_fits bits _; under = tt }))

  -- a call of a function of integers that the rules allow
  pub integer_goes : (defined : Option Function) (function : IntegerFunction) (bits : ℕ) (d : Declare) (arguments : List Argument) → is_declared_as p.of_module d (runtime.Integer function bits) ≡ true
      → (length arguments == length (signature_of (runtime.Integer function bits)).parameters) ≡ true → first_failing (integer_conditions p.of_module f table here facts (runtime.Integer function bits) returned arguments) ≡ None
      → Goes heap p table frame.slots reaches guarded log (after_integer_call p.of_module result returned facts) (a.call_action p f table frame.registers returned arguments (Some d) defined (Some (runtime.Integer function bits)))
      (λ given. mc.after_call p f table result arguments (Some (runtime.Integer function bits)) given frame)
  integer_goes defined function bits d arguments declared arity e =
      let expected = map types.Bits (widths function bits) in
      let all = rules_hold (integer_conditions p.of_module f table here facts (runtime.Integer function bits) returned arguments) e in
      let k2 = and_parts (all_values p.of_module f table facts arguments) (is_written_as p.of_module returned arguments (runtime.Integer function bits)) (all K2) in
      let w = and_parts (is_runtime_type p.of_module returned (types.Bits bits)) (list_all (is_argument_of p.of_module) (zip arguments expected)) k2.1 in
      let same = test_true (length arguments) (length expected) arity in
      goes_local heap p table frame.slots reaches guarded log _ _ _
      (rw (integer_declared p.of_module function bits d declared, integer_written p.of_module function bits returned arguments same k2.1, all_numbers (widths function bits) arguments same w.1 (all K1) k2.0 (all K10)) refl)
      (gives_integer function bits arguments (bits_are_so bits (kind_of p.of_module returned) w.0) result)
