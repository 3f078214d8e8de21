-- Calls of functions of floating point numbers.
use Rattle.std.proofs.Common.{◌≡◌, ℕ, ◌<◌, ◌^◌, Bool, List, length, refl, sym, ap, ◌∙◌, true, Option, Some, None, slice_get}
use Rattle.std.specs.Prelude.{◌==◌, map}
use Rattle.std.specs.List.{list_all, zip}
use Rattle.lemmas.specs.Numbers.{test_true}
use Rattle.lemmas.specs.Bools.{and_parts}
use Rattle.ir_ast.specs.FloatFunctions as floats
use Rattle.ir_ast.specs.declared.argument.Argument.{Argument}
use Rattle.ir_ast.specs.declared.float_function.FloatFunction.{FloatFunction}
use Rattle.ir_ast.specs.declared.function.Function.{Function}
use Rattle.ir_ast.specs.declared.items_of_module.Declare.{Declare}
use Rattle.ir_ast.specs.declared.runtime.Runtime.TheVariants as runtime
use Rattle.pools.specs.Heap.{Setup}
use Rattle.layout.specs.Layouts.{LaidOut}
use Rattle.shadow_stack.specs.Slots.{SlotTable}
use Rattle.certs.specs.declared.section.Section.{Section}
use Rattle.facts.specs.Facts.{FactSet}
use Rattle.block_rules.specs.declared.instr_context.InstrContext.{InstrContext}
use Rattle.block_rules.specs.declared.rule.Rule.TheVariants.{K1, K2, K10}
use Rattle.block_rules.specs.declared.signature.RuntimeType.TheVariants as types
use Rattle.block_rules.specs.Calls.{all_values, integer_conditions, after_integer_call}
use Rattle.block_rules.specs.FirstFailing.{first_failing}
use Rattle.block_rules.specs.Signature.{signature_of, is_runtime_type, is_argument_of, is_declared_as, is_written_as}
use Rattle.type_kinds.specs.declared.type_kind.TypeKind.TheVariants.{Bits}
use Rattle.type_kinds.specs.TypeKinds.{kind_of, is_void, is_integer}
use Rattle.machine.specs.declared.action.Action.TheVariants.{Foreign}
use Rattle.machine.specs.declared.frame.Frame.{Frame}
use Rattle.machine.specs.declared.value.Value.TheVariants as value
use Rattle.machine.specs.Asks as a
use Rattle.machine.specs.Log.{Log}
use Rattle.machine.specs.Machine as mc
use Rattle.soundness.specs.Goes.{Goes}
use Rattle.soundness.specs.Meaning.{Cells, Guarded, Holds}
use Rattle.soundness.proofs.Callees.{float_declared, float_written}
use Rattle.soundness.proofs.IntegerCalls.{all_numbers}
use Rattle.soundness.proofs.KindLemmas.{bits_are, integer_same, void_same}
use Rattle.soundness.proofs.Numbers.{defines}
use Rattle.soundness.proofs.RulesHold.{rules_hold}
use Rattle.soundness.proofs.Steps.{bits_are_so, goes_foreign}

module _ (heap : Setup) (p : LaidOut) (certs : List Section) (reaches : Bool) (f : Function) (table : SlotTable) (guarded : Guarded) (log : Log) (here : InstrContext) (cells : Cells) (facts : FactSet) (frame : Frame) (h : Holds heap p table guarded log cells facts frame.registers frame.slots) (result : Option ℕ) (returned : ℕ) where
  -- it gives a number of its type
  asks_number : (bits : ℕ) → kind_of p.of_module returned ≡ Bits bits → a.asked_outside (slice_get p.of_module.types returned) ≡ Foreign bits
  asks_number bits kind =
      rw (sym (void_same p.of_module returned) ∙ ap is_void kind, sym (integer_same p.of_module returned) ∙ ap is_integer kind) (ap Foreign (bits_are p.of_module returned bits kind))

  gives_number : (bits : ℕ) → kind_of p.of_module returned ≡ Bits bits → (name : Option ℕ) (n : ℕ) → n < 2 ^ bits
      → (more : Cells) × Holds heap p table guarded log more (after_integer_call p.of_module name returned facts) (mc.set_register name (value.Number n) frame).registers (mc.set_register name (value.Number n) frame).slots
  gives_number bits kind None n fits = (cells, h)
  gives_number bits kind (Some v) n fits = rw kind (cells, defines heap p certs reaches f table guarded log cells facts frame h v bits None (value.Number n) (record { number = n; is = refl; fits = fits; under = tt }))

  -- a call of a function of floating point numbers that the rules allow
  pub float_goes : (defined : Option Function) (function : FloatFunction) (bits : ℕ) (d : Declare) (arguments : List Argument) → is_declared_as p.of_module d (runtime.Float function bits) ≡ true
      → (length arguments == length (signature_of (runtime.Float function bits)).parameters) ≡ true → first_failing (integer_conditions p.of_module f table here facts (runtime.Float function bits) returned arguments) ≡ None
      → Goes heap p table frame.slots reaches guarded log (after_integer_call p.of_module result returned facts) (a.call_action p f table frame.registers returned arguments (Some d) defined (Some (runtime.Float function bits)))
      (λ given. mc.after_call p f table result arguments (Some (runtime.Float function bits)) given frame)
  float_goes defined function bits d arguments declared arity e =
      let taken = floats.widths (floats.taken_by function) bits in
      let expected = map types.Bits taken in
      let all = rules_hold (integer_conditions p.of_module f table here facts (runtime.Float function bits) returned arguments) e in
      let k2 = and_parts (all_values p.of_module f table facts arguments) (is_written_as p.of_module returned arguments (runtime.Float function bits)) (all K2) in
      let w = and_parts (is_runtime_type p.of_module returned (types.Bits bits)) (list_all (is_argument_of p.of_module) (zip arguments expected)) k2.1 in
      let same = test_true (length arguments) (length expected) arity in
      let numbers = all_numbers heap p certs reaches f table guarded log here cells facts frame h result returned taken arguments same w.1 (all K1) k2.0 (all K10) in
      let kind = bits_are_so bits (kind_of p.of_module returned) w.0 in
      let asked : a.call_action p f table frame.registers returned arguments (Some d) defined (Some (runtime.Float function bits)) ≡ a.asked_outside (slice_get p.of_module.types returned) =
      rw (float_declared p.of_module function bits d declared, float_written p.of_module function bits returned arguments same k2.1, numbers) refl in
      goes_foreign heap p table frame.slots reaches guarded log _ _ _ bits
      (asked ∙ asks_number bits kind) (gives_number bits kind result)
