-- Operations on floating point numbers: their operands are numbers to the machine, and what they give is any number from outside.
use Rattle.std.proofs.Common.{◌≡◌, ℕ, ◌<◌, ◌^◌, refl, sym, ap, ◌∙◌, Bool, true, List, Option, Some, None, slice_get}
use Rattle.std.specs.Prelude.{◌&&◌}
use Rattle.lemmas.specs.Bools.{and_parts, and_true}
use Rattle.ir_ast.specs.declared.floats.FloatOp.{FloatOp}
use Rattle.ir_ast.specs.declared.floats.FloatOp.TheVariants as float
use Rattle.ir_ast.specs.declared.function.Function.{Function}
use Rattle.ir_ast.specs.declared.numbers.NumberOp.TheVariants as number
use Rattle.ir_ast.specs.declared.op.Op.TheVariants as op
use Rattle.ir_ast.specs.declared.operand.Operand.{Operand}
use Rattle.pools.specs.Heap.{Setup}
use Rattle.layout.specs.Layouts.{LaidOut}
use Rattle.shadow_stack.specs.Slots.{SlotTable}
use Rattle.certs.specs.declared.section.Section.{Section}
use Rattle.fact_tables.specs.declared.known.Known.TheVariants.{Number}
use Rattle.facts.specs.Facts.{FactSet}
use Rattle.block_rules.specs.declared.instr_context.InstrContext.{InstrContext}
use Rattle.block_rules.specs.declared.rule.Rule.TheVariants.{K1, K2, K10}
use Rattle.type_kinds.specs.declared.type_kind.TypeKind.TheVariants.{Bits}
use Rattle.block_rules.specs.FirstFailing.{first_failing}
use Rattle.block_rules.specs.Floats.{is_number_of, one_number, two_numbers, converted_number, float_conditions, float_kind}
use Rattle.block_rules.specs.Operands as o
use Rattle.block_rules.specs.Rules.{after_op}
use Rattle.type_kinds.specs.TypeKinds.{kind_of, is_integer}
use Rattle.machine.specs.declared.action.Action.TheVariants.{Foreign}
use Rattle.machine.specs.declared.frame.Frame.{Frame}
use Rattle.machine.specs.declared.value.Value.TheVariants as value
use Rattle.machine.specs.Asks as a
use Rattle.machine.specs.Kinds as k
use Rattle.machine.specs.Log.{Log}
use Rattle.machine.specs.Machine as mc
use Rattle.soundness.specs.Meaning.{Cells, Guarded, Holds}
use Rattle.soundness.proofs.Change.{define_plain}
use Rattle.soundness.proofs.KindLemmas.{bits_are, integer_same}
use Rattle.soundness.proofs.RulesHold.{rules_hold}
use Rattle.soundness.proofs.Steps.{OpGoes, goes_foreign, kind_bits, none_of, number_usable}
use Rattle.soundness.proofs.Values.{of_value}

module _ (heap : Setup) (p : LaidOut) (certs : List Section) (reaches : Bool) (f : Function) (table : SlotTable) (guarded : Guarded) (log : Log) (cells : Cells) (facts : FactSet) (frame : Frame) (h : Holds heap p table guarded log cells facts frame.registers frame.slots) where
  -- ---- operands

  -- a type of numbers has some bits
  number_kind : (written : ℕ) (x : Operand) → is_number_of p.of_module f table facts written x ≡ true → (bits : ℕ) × (kind_of p.of_module written ≡ Bits bits)
  number_kind written x k2 =
      let b = and_parts (o.is_value p.of_module f table facts written x) (is_integer (kind_of p.of_module written)) k2 in
      kind_bits heap p certs reaches f table guarded log cells facts frame h (kind_of p.of_module written) b.1

  -- an operand that the rules let be a number is one to the machine
  number_taken : (written : ℕ) (x : Operand) → o.is_available table facts x ≡ true → is_number_of p.of_module f table facts written x ≡ true → o.is_no_slot table x ≡ true → k.is_usable_number p.of_module f table frame.registers written x ≡ true
  number_taken written x k1 k2 k10 =
      let b = and_parts (o.is_value p.of_module f table facts written x) (is_integer (kind_of p.of_module written)) k2 in
      let bits = kind_bits heap p certs reaches f table guarded log cells facts frame h (kind_of p.of_module written) b.1 in
      number_usable heap p certs reaches f table guarded log cells facts frame h written bits.0 x bits.1 k1 (of_value p.of_module f table facts written x b.0) (none_of (o.slot_named table x) k10)

  -- two of one type
  pair_taken : (here : InstrContext) (written : ℕ) (first second : Operand) → first_failing (two_numbers p.of_module f table here facts written first second) ≡ None
      → (bits : ℕ) × (kind_of p.of_module written ≡ Bits bits) × (a.are_numbers p.of_module f table frame.registers written first second ≡ true)
  pair_taken here written first second e =
      let m = p.of_module in
      let all = rules_hold (two_numbers m f table here facts written first second) e in
      let k1 = and_parts (o.is_available table facts first) (o.is_available table facts second) (all K1) in
      let k2 = and_parts (is_number_of m f table facts written first) (is_number_of m f table facts written second) (all K2) in
      let k10 = and_parts (o.is_no_slot table first) (o.is_no_slot table second) (all K10) in
      let kind = number_kind written first k2.0 in (
        kind.0,
        kind.1,
        and_true (k.is_usable_number m f table frame.registers written first) (k.is_usable_number m f table frame.registers written second)
            (number_taken written first k1.0 k2.0 k10.0) (number_taken written second k1.1 k2.1 k10.1),
      )

  -- one alone
  one_taken : (here : InstrContext) (written : ℕ) (x : Operand) → first_failing (one_number p.of_module f table here facts written x) ≡ None
      → (bits : ℕ) × (kind_of p.of_module written ≡ Bits bits) × (k.is_usable_number p.of_module f table frame.registers written x ≡ true)
  one_taken here written x e =
      let all = rules_hold (one_number p.of_module f table here facts written x) e in
      let kind = number_kind written x (all K2) in
      (kind.0, kind.1, number_taken written x (all K1) (all K2) (all K10))

  -- one that becomes a number of another type
  converted_taken : (here : InstrContext) (from : ℕ) (x : Operand) (to : ℕ) → first_failing (converted_number p.of_module f table here facts from x to) ≡ None
      → (bits : ℕ) × (kind_of p.of_module to ≡ Bits bits) × ((k.is_usable_number p.of_module f table frame.registers from x && k.is_integer (slice_get p.of_module.types to)) ≡ true)
  converted_taken here from x to e =
      let m = p.of_module in
      let all = rules_hold (converted_number m f table here facts from x to) e in
      let k2 = and_parts (is_number_of m f table facts from x) (is_integer (kind_of m to)) (all K2) in
      let kind = kind_bits heap p certs reaches f table guarded log cells facts frame h (kind_of m to) k2.1 in (
        kind.0,
        kind.1,
        and_true (k.is_usable_number m f table frame.registers from x) (k.is_integer (slice_get m.types to)) (number_taken from x (all K1) k2.0 (all K10)) (sym (integer_same m to) ∙ k2.1),
      )

  -- ---- what is given

  -- whichever number of its bits an operation gets, it is known to be one
  gives_any : (bits : ℕ) (x : FloatOp) → float_kind p.of_module x ≡ Bits bits → (name : Option ℕ) (n : ℕ) → n < 2 ^ bits
      → (more : Cells) × Holds heap p table guarded log more (after_op p certs table name (op.Number (number.Float x)) facts) (mc.set_register name (value.Number n) frame).registers (mc.set_register name (value.Number n) frame).slots
  gives_any bits x kind None n fits = (cells, h)
  gives_any bits x kind (Some v) n fits =
      rw kind (cells, define_plain heap p table guarded log cells facts frame.registers frame.slots h v (Number bits None) (value.Number n) (λ c l s e. cc) (record { number = n; is = refl; fits = fits; under = tt }))

  -- an operation on numbers gets one from outside
  goes_on : (result : Option ℕ) (x : FloatOp) (bits : ℕ) → a.gives_float p.of_module f table frame.registers x ≡ true → a.float_bits p.of_module x ≡ bits → float_kind p.of_module x ≡ Bits bits
      → OpGoes heap p certs reaches f table guarded log facts frame result (op.Number (number.Float x))
  goes_on result x bits gives asked kind = goes_foreign heap p table frame.slots reaches guarded log _ _ _ bits (rw gives (ap Foreign asked)) (gives_any bits x kind result)

  -- ---- by the conditions

  -- an operation on floating point numbers whose conditions hold goes
  pub float_op_goes : (here : InstrContext) (result : Option ℕ) (x : FloatOp) → first_failing (float_conditions p.of_module f table here facts x) ≡ None → OpGoes heap p certs reaches f table guarded log facts frame result (op.Number (number.Float x))
  float_op_goes here result (float.Arithmetic kind written first second) e =
      let both = pair_taken here written first second e in
      goes_on result (float.Arithmetic kind written first second) both.0 both.2 (bits_are p.of_module written both.0 both.1) both.1
  float_op_goes here result (float.Negate written x) e =
      let one = one_taken here written x e in
      goes_on result (float.Negate written x) one.0 one.2 (bits_are p.of_module written one.0 one.1) one.1
  float_op_goes here result (float.Compare kind written first second) e = goes_on result (float.Compare kind written first second) 1 (pair_taken here written first second e).2 refl refl
  float_op_goes here result (float.Convert kind from x to) e =
      let one = converted_taken here from x to e in
      goes_on result (float.Convert kind from x to) one.0 one.2 (bits_are p.of_module to one.0 one.1) one.1
