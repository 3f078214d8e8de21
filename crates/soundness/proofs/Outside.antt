-- Addresses outside of a module: the names of what is there, and values of pointer types that are known to be numbers.
use Rattle.std.proofs.Common.{◌≡◌, ℕ, ◌<◌, ◌^◌, slice_set, List, length, refl, sym, ap, ◌∙◌, subst, true, false, Bool, Option, Some, None, slice_get, inl, inr}
use Rattle.std.proofs.lemmas.Nat.{pow_pos}
use Rattle.std.specs.Prelude.{◌&&◌, ◌||◌, is_none, if◌then◌else◌}
use Rattle.lemmas.specs.Numbers.{test_true}
use Rattle.lemmas.specs.Bools.{and_parts, and_true, or_parts, or_second, never_true}
use Rattle.ir_ast.specs.declared.function.Function.{Function}
use Rattle.ir_ast.specs.declared.module.Module.{Module}
use Rattle.ir_ast.specs.declared.operand.Constant.TheVariants as constant
use Rattle.ir_ast.specs.declared.operand.Operand.{Operand}
use Rattle.ir_ast.specs.declared.operand.Operand.TheVariants as operand
use Rattle.pools.specs.Heap.{Setup}
use Rattle.layout.specs.Layouts.{LaidOut}
use Rattle.outside_names.specs.Operands.{is_outside_operand}
use Rattle.types.specs.Globals.{global_named, points_to_global}
use Rattle.types.specs.ValueTypes.{has_type}
use Rattle.shadow_stack.specs.Slots.{SlotTable, slot_of}
use Rattle.fact_tables.specs.declared.known.Known.{Known}
use Rattle.fact_tables.specs.declared.known.Known.TheVariants.{Nothing, Number, Cell, Null, Address, GlobalAddress}
use Rattle.fact_tables.specs.Rows.{known_at}
use Rattle.facts.specs.Facts.{FactSet, define}
use Rattle.type_kinds.specs.declared.type_kind.TypeKind.{TypeKind}
use Rattle.type_kinds.specs.declared.type_kind.TypeKind.TheVariants.{NoValue, Bits, Reference, AnyReference, Address as AddressKind, Other}
use Rattle.block_rules.specs.Operands as o
use Rattle.block_rules.specs.Places.{define_given}
use Rattle.type_kinds.specs.TypeKinds.{kind_of, is_integer, is_pointer}
use Rattle.machine.specs.Asks as a
use Rattle.machine.specs.Machine as mc
use Rattle.machine.specs.declared.action.Action.{Action}
use Rattle.machine.specs.declared.action.Action.TheVariants.{Foreign}
use Rattle.machine.specs.declared.frame.Frame.{Frame}
use Rattle.machine.specs.declared.value.Value.{Value}
use Rattle.machine.specs.declared.value.Value.TheVariants as value
use Rattle.machine.specs.Kinds as k
use Rattle.machine.specs.Kinds.{register_at, value_of}
use Rattle.machine.specs.Log.{Log}
use Rattle.soundness.specs.Meaning.{Cells, Guarded, IsInteger, Means, Holds}
use Rattle.soundness.specs.Goes.{Goes}
use Rattle.soundness.proofs.Change.{define_plain}
use Rattle.soundness.proofs.KindLemmas.{bits_are, integer_same, pointer_type_same}
use Rattle.soundness.proofs.Steps.{goes_foreign, none_of}

-- a number is one whatever bound it has
pub unbound : (bits : ℕ) (below : Option ℕ) (v : Value) → IsInteger bits below v → IsInteger bits None v
unbound bits below v i = record { number = i.number; is = i.is; fits = i.fits; under = tt }

-- the address of a name outside is a number
pub address_number : IsInteger 64 None k.outside_address
address_number = record { number = 0; is = refl; fits = pow_pos 64; under = tt }

module _ (heap : Setup) (p : LaidOut) (f : Function) (table : SlotTable) (guarded : Guarded) (log : Log) (cells : Cells) (facts : FactSet) (registers slots : List Value) (h : Holds heap p table guarded log cells facts registers slots) where
  -- what the rules allow as an address outside: a number, of a pointer type, that names no slot and of which no more is known than a bound
  pub record IsOutside (written : ℕ) (x : Operand) : Type 0 where
    pub pointer : is_pointer (kind_of p.of_module written) ≡ true
    pub typed : k.is_typed p.of_module f table written x ≡ true
    pub no_slot : o.slot_named table x ≡ None
    pub below : Option ℕ
    pub number : IsInteger 64 below (value_of p.of_module registers written x)
    pub known : o.known_in p.of_module facts x ≡ Number 64 below

  -- a name of something outside
  module _ (written : ℕ) (pointer : is_pointer (kind_of p.of_module written) ≡ true) where
    outside_at : (x : Operand) → is_outside_operand p.of_module x ≡ true → k.is_outside_at p.of_module written x ≡ true
    outside_at x e = and_true (is_outside_operand p.of_module x) (k.is_pointer_type (slice_get p.of_module.types written)) e (sym (pointer_type_same p.of_module written) ∙ pointer)

    name_is : (x : Operand) → is_outside_operand p.of_module x ≡ true → IsOutside written x
    name_is (operand.Constant c) e = absurd cc
    name_is (operand.Local v) e = absurd cc
    name_is (operand.Global symbol) e = record {
      pointer = pointer;
      typed = or_second (points_to_global p.of_module written symbol) _ (outside_at (operand.Global symbol) e);
      no_slot = refl;
      below = None;
      number = subst (λ b. IsInteger 64 None (if b then k.outside_address else k.global_address (global_named p.of_module symbol))) (sym e) address_number;
      known = ap (λ b. if b then o.outside_known else GlobalAddress symbol) e;
    }
    name_is (operand.CastGlobal from symbol to) e = record {
      pointer = pointer;
      typed = or_second _ _ (outside_at (operand.CastGlobal from symbol to) e);
      no_slot = refl;
      below = None;
      number = subst (λ b. IsInteger 64 None (if b then k.outside_address else k.global_address (global_named p.of_module symbol))) (sym e) address_number;
      known = ap (λ b. if b then o.outside_known else GlobalAddress symbol) e;
    }

    -- a value of this type that is known to be a number
    value_is : (v : ℕ) (known : Known) → known_at facts.values v ≡ known → Means heap p guarded log cells (length facts.classes) registers known (register_at registers v) → has_type p.of_module f written v ≡ true → o.is_number_known known ≡ true → slot_of table v ≡ None
        → IsOutside written (operand.Local v)
    value_is v Nothing is means typed e none = absurd cc
    value_is v (Cell c l s) is means typed e none = absurd cc
    value_is v Null is means typed e none = absurd cc
    value_is v (Address b w) is means typed e none = absurd cc
    value_is v (GlobalAddress g) is means typed e none = absurd cc
    value_is v (Number bits below) is means typed e none =
        let same : bits ≡ 64 = test_true bits 64 e in
        record {
          pointer = pointer;
          typed = rw (typed, none) refl;
          no_slot = none;
          below = below;
          number = subst (λ n. IsInteger n below (register_at registers v)) same means;
          known = is ∙ ap (λ n. Number n below) same;
        }

    known_is : (x : Operand) → (o.is_number_known (o.known_of facts x) && o.is_typed p.of_module f written x && o.is_no_slot table x) ≡ true → IsOutside written x
    known_is x e =
        let a = and_parts (o.is_number_known (o.known_of facts x) && o.is_typed p.of_module f written x) (o.is_no_slot table x) e in
        let b = and_parts (o.is_number_known (o.known_of facts x)) (o.is_typed p.of_module f written x) a.0 in
        by x b.1 b.0 (none_of (o.slot_named table x) a.1) where
          by : (x : Operand) → o.is_typed p.of_module f written x ≡ true → o.is_number_known (o.known_of facts x) ≡ true → o.slot_named table x ≡ None → IsOutside written x
          by (operand.Constant c) typed e none = absurd cc
          by (operand.Local v) typed e none = value_is v (known_at facts.values v) refl (h.values v) typed e none
          by (operand.Global symbol) typed e none = absurd cc
          by (operand.CastGlobal from symbol to) typed e none = absurd cc

  -- what the rules allow as an address outside is one
  pub outside_is : (written : ℕ) (x : Operand) → o.is_outside_value p.of_module f table facts written x ≡ true → IsOutside written x
  outside_is written x e =
      let rest = o.is_number_known (o.known_of facts x) && o.is_typed p.of_module f written x && o.is_no_slot table x in
      let a = and_parts (is_pointer (kind_of p.of_module written)) (is_outside_operand p.of_module x || rest) e in
      elim (or_parts (is_outside_operand p.of_module x) rest a.1) [
        | inl name ↦ name_is written a.0 x name
        | inr known ↦ known_is written a.0 x known
      ]

  -- it is one to the machine
  pub usable_outside : (written : ℕ) (x : Operand) → IsOutside written x → k.is_usable_outside p.of_module f table registers written x ≡ true
  usable_outside written x i =
      and_true (k.is_pointer_type (slice_get p.of_module.types written)) (k.is_typed p.of_module f table written x && k.is_number (value_of p.of_module registers written x)) (sym (pointer_type_same p.of_module written) ∙ i.pointer)
      (and_true (k.is_typed p.of_module f table written x) (k.is_number (value_of p.of_module registers written x)) i.typed (ap k.is_number i.number.is))

  -- and it may be used
  pub outside_usable : (written : ℕ) (x : Operand) → IsOutside written x → k.is_usable p.of_module f table registers written x ≡ true
  outside_usable written x i = and_true (k.is_typed p.of_module f table written x) (k.is_plain (value_of p.of_module registers written x)) i.typed (ap k.is_plain i.number.is)

-- what is null to the rules is so to the machine
null_same : (x : Operand) → o.is_null x ≡ true → k.is_null_operand x ≡ true
null_same (operand.Constant constant.Null) e = refl
null_same (operand.Constant (constant.Number n)) e = absurd cc
null_same (operand.Constant (constant.Float n)) e = absurd cc
null_same (operand.Constant (constant.Truth b)) e = absurd cc
null_same (operand.Local v) e = absurd cc
null_same (operand.Global g) e = absurd cc
null_same (operand.CastGlobal from g to) e = absurd cc

-- also at a pointer type
pub null_at : (m : Module) (written : ℕ) (x : Operand) → o.is_null x ≡ true → is_pointer (kind_of m written) ≡ true → k.is_null_at m written x ≡ true
null_at m written x null pointer = and_true (k.is_null_operand x) (k.is_pointer_type (slice_get m.types written)) (null_same x null) (sym (pointer_type_same m written) ∙ pointer)

-- what is no number is no address outside
pub inside_value : (p : LaidOut) (f : Function) (table : SlotTable) (registers : List Value) (written : ℕ) (x : Operand) → k.is_number (value_of p.of_module registers written x) ≡ false → k.is_usable_outside p.of_module f table registers written x ≡ false
inside_value p f table registers written x e =
    let typed = k.is_typed p.of_module f table written x in
    let number = k.is_number (value_of p.of_module registers written x) in
    let pointer = k.is_pointer_type (slice_get p.of_module.types written) in
    never_true (pointer && (typed && number)) (λ z. let b = and_parts typed number (and_parts pointer (typed && number) z).1 in let y = sym b.1 ∙ e in absurd cc)

-- nor is what has no pointer type
pub inside_type : (p : LaidOut) (f : Function) (table : SlotTable) (registers : List Value) (written : ℕ) (x : Operand) → k.is_pointer_type (slice_get p.of_module.types written) ≡ false → k.is_usable_outside p.of_module f table registers written x ≡ false
inside_type p f table registers written x e = ap (λ b. b && (k.is_typed p.of_module f table written x && k.is_number (value_of p.of_module registers written x))) e

-- nor is a slot
pub inside_slot : (p : LaidOut) (f : Function) (table : SlotTable) (registers : List Value) (written v s : ℕ) → slot_of table v ≡ Some s → k.is_usable_outside p.of_module f table registers written (operand.Local v) ≡ false
inside_slot p f table registers written v s is =
    let typed = k.is_typed p.of_module f table written (operand.Local v) in
    let number = k.is_number (value_of p.of_module registers written (operand.Local v)) in
    let pointer = k.is_pointer_type (slice_get p.of_module.types written) in
    never_true (pointer && (typed && number)) (λ z. let t = (and_parts (has_type p.of_module f written v) _ (and_parts typed number (and_parts pointer (typed && number) z).1).0).1 in let y : false ≡ true = ap is_none (sym is) ∙ t in absurd cc)

-- ---- what is given from outside

module _ (heap : Setup) (p : LaidOut) (reaches : Bool) (table : SlotTable) (guarded : Guarded) (log : Log) (cells : Cells) (facts : FactSet) (frame : Frame) (h : Holds heap p table guarded log cells facts frame.registers frame.slots) where
  -- a value of this type that is given from outside: a number of its bits, or an address outside
  pub given_goes : (result : Option ℕ) (returned : ℕ) (next : Option ℕ → FactSet) (action : Action) → action ≡ a.asked_given (slice_get p.of_module.types returned) → (is_integer (kind_of p.of_module returned) || is_pointer (kind_of p.of_module returned)) ≡ true
      → next None ≡ facts → ((v : ℕ) → next (Some v) ≡ define_given v (kind_of p.of_module returned) facts) → Goes heap p table frame.slots reaches guarded log (next result) action (λ given. mc.set_register result (mc.given_value given) frame)
  given_goes result returned next action asked datum none some = by (kind_of p.of_module returned) refl datum where
    m : Module
    m = p.of_module

    -- a number of this many bits
    numbered : (bits : ℕ) → a.asked_given (slice_get p.of_module.types returned) ≡ Foreign bits → ((v : ℕ) → define_given v (kind_of p.of_module returned) facts ≡ define v (Number bits None) facts)
        → Goes heap p table frame.slots reaches guarded log (next result) action (λ given. mc.set_register result (mc.given_value given) frame)
    numbered bits gives defined = goes_foreign heap p table frame.slots reaches guarded log _ _ _ bits (asked ∙ gives) (λ n fits. kept result n fits) where
      kept : (result : Option ℕ) (n : ℕ) → n < 2 ^ bits → (more : Cells) × Holds heap p table guarded log more (next result) (mc.set_register result (value.Number n) frame).registers (mc.set_register result (value.Number n) frame).slots
      kept None n fits = (cells, subst (λ g. Holds heap p table guarded log cells g frame.registers frame.slots) (sym none) h)
      kept (Some v) n fits = (
        cells,
        subst (λ g. Holds heap p table guarded log cells g (slice_set frame.registers v (value.Number n)) frame.slots) (sym (some v ∙ defined v))
            (define_plain heap p table guarded log cells facts frame.registers frame.slots h v (Number bits None) (value.Number n) (λ c l s e. cc) (record { number = n; is = refl; fits = fits; under = tt })),
      )

    -- an address outside
    addressed : (kind : TypeKind) → kind_of p.of_module returned ≡ kind → is_integer kind ≡ false → is_pointer kind ≡ true → ((v : ℕ) → define_given v kind facts ≡ define v (Number 64 None) facts) → Goes heap p table frame.slots reaches guarded log (next result) action (λ given. mc.set_register result (mc.given_value given) frame)
    addressed kind is integer pointer defined =
        numbered 64 (rw (sym (integer_same p.of_module returned) ∙ ap is_integer is ∙ integer, sym (pointer_type_same p.of_module returned) ∙ ap is_pointer is ∙ pointer) refl) (λ v. ap (λ x. define_given v x facts) is ∙ defined v)

    by : (kind : TypeKind) → kind_of p.of_module returned ≡ kind → (is_integer kind || is_pointer kind) ≡ true → Goes heap p table frame.slots reaches guarded log (next result) action (λ given. mc.set_register result (mc.given_value given) frame)
    by NoValue is e = absurd cc
    by (Bits bits) is e = numbered bits (rw (sym (integer_same p.of_module returned) ∙ ap is_integer is) (ap Foreign (bits_are p.of_module returned bits is))) (λ v. ap (λ x. define_given v x facts) is)
    by (Reference l) is e = addressed (Reference l) is refl refl (λ v. refl)
    by AnyReference is e = addressed AnyReference is refl refl (λ v. refl)
    by AddressKind is e = addressed AddressKind is refl refl (λ v. refl)
    by Other is e = absurd cc
