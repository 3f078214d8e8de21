-- The conditions of instructions that are no calls, and what is known after them, do not depend on functions.
use Rattle.std.specs.List.{list_all}
use Rattle.std.specs.Prelude.{List, None, Option, Some, [], false, is_some, not, refl, slice_get, ℕ, ◌&&◌, ◌==◌, ◌||◌, ◌∷◌, ◌≡◌}
use Rattle.block_rules.specs.Calls.{no_slots}
use Rattle.block_rules.specs.Elements.{may_be_base}
use Rattle.block_rules.specs.Floats.{float_conditions, float_kind, is_number_of}
use Rattle.block_rules.specs.Integers.{after_select, arithmetic_below, below_of, choose_pointer, define_number, known_layout, may_choose, may_compare, may_resize, one_layout, resized_below}
use Rattle.block_rules.specs.Operands.{constant_fits, is_available, is_based, is_current, is_no_slot, is_null, known_of}
use Rattle.block_rules.specs.Promises.{keeps_promise, says_what_it_is}
use Rattle.block_rules.specs.Rules.{after_memory, after_named, after_number, all_come_in, are_cases, cast_conditions, casts_outside, choice_conditions, compares_outside, element_conditions, end_conditions, gives_root, is_case, is_condition, is_count, is_count_available, is_datum, is_entry, loads_outside, may_come_in, may_hold, memory_conditions, names_target, number_conditions, phi_conditions, stores_outside}
use Rattle.type_kinds.specs.TypeKinds.{is_bits, is_integer, is_pointer, is_void}
use Rattle.type_kinds.specs.declared.type_kind.TypeKind.{TypeKind}
use Rattle.type_kinds.specs.declared.type_kind.TypeKind.TheVariants.{Bits}
use Rattle.block_rules.specs.declared.rule.Rule.TheVariants.{K1, K10, K11, K12, K14, K19, K2, K3, K4, K5, K6, K8}
use Rattle.block_rules.specs.declared.instr_context.InstrContext.{InstrContext}
use Rattle.facts.specs.Facts.{FactSet}
use Rattle.ir_ast.specs.declared.argument.Argument.{Argument}
use Rattle.ir_ast.specs.declared.ends.End.{End}
use Rattle.ir_ast.specs.declared.floats.FloatOp.{FloatOp}
use Rattle.ir_ast.specs.declared.function.Function.{Function}
use Rattle.ir_ast.specs.declared.function.LocalSort.{LocalSort}
use Rattle.ir_ast.specs.declared.function.LocalSort.TheVariants.{Value, Slot, Element}
use Rattle.ir_ast.specs.declared.memory.MemoryOp.{MemoryOp}
use Rattle.ir_ast.specs.declared.module.Module.{Module}
use Rattle.ir_ast.specs.declared.numbers.NumberOp.{NumberOp}
use Rattle.ir_ast.specs.declared.op.Op.{Op}
use Rattle.ir_ast.specs.declared.operand.Operand.{Operand}
use Rattle.ir_ast.specs.declared.operand.Operand.TheVariants.{Constant as Written, Local}
use Rattle.layout.specs.Layouts.{LaidOut}
use Rattle.shadow_stack.specs.Slots.{SlotTable, slot_of, is_opaque_address}
use Rattle.answers.proofs.Casts.{after_cast_same, casts_operand_same, may_cast_same}
use Rattle.answers.proofs.Elements.{after_element_same, are_indices_same, may_lead_same}
use Rattle.answers.proofs.Operands.{is_outside_operand_same, is_outside_value_same, is_passed_same, is_typed_same, is_value_same, kind_of_same, known_in_same, place_known_same}
use Rattle.answers.proofs.Places.{is_one_layout_same, after_load_same, may_load_same, may_store_same, needs_no_barrier_same}
use Rattle.answers.proofs.Types.{has_type_same}
use Rattle.answers.specs.Local.{laid_with, with_functions}
use Rattle.ir_ast.specs.declared.ends.End.TheVariants as end
use Rattle.ir_ast.specs.declared.floats.FloatOp.TheVariants as float
use Rattle.ir_ast.specs.declared.memory.MemoryOp.TheVariants as memory
use Rattle.ir_ast.specs.declared.numbers.NumberOp.TheVariants as number
use Rattle.ir_ast.specs.declared.op.Op.TheVariants as op

pub may_hold_same : (m : Module) (fs : List Function) → may_hold (with_functions m fs) ≡ may_hold m
may_hold_same m fs = λ along slots result held. is_integer (kind_of_same m fs along held) || gives_root slots result

is_entry_by : (m : Module) (fs : List Function) (f : Function) (written v : ℕ) (sort : Option LocalSort) → is_entry (with_functions m fs) f written v sort ≡ is_entry m f written v sort
is_entry_by m fs f written v (Some (Value given)) = refl
is_entry_by m fs f written v (Some (Element block place)) = λ along. m.wide && has_type_same m fs along f written v
is_entry_by m fs f written v (Some (Slot held)) = λ along. m.wide && has_type_same m fs along f written v
is_entry_by m fs f written v _ = refl

may_come_in_by : (m : Module) (fs : List Function) (f : Function) (slots : SlotTable) (written : ℕ) (operand : Operand) → may_come_in (with_functions m fs) f slots written operand ≡ may_come_in m f slots written operand
may_come_in_by m fs f slots written (Written c) = λ along. constant_fits c (kind_of_same m fs along written)
may_come_in_by m fs f slots written (Local v) = λ along. is_entry_by m fs f written v (slice_get f.sorts v) along && not (is_some (slot_of slots v)) && (m.wide || not (is_opaque_address m slots written (Local v)))
may_come_in_by m fs f slots written operand = λ along. is_outside_operand_same m fs along operand && is_pointer (kind_of_same m fs along written)

pub may_come_in_same : (m : Module) (fs : List Function) → may_come_in (with_functions m fs) ≡ may_come_in m
may_come_in_same m fs = λ along f slots written operand. may_come_in_by m fs f slots written operand along

pub all_come_in_same : (m : Module) (fs : List Function) → all_come_in (with_functions m fs) ≡ all_come_in m
all_come_in_same m fs = λ along f slots written incoming. list_all (λ entry. may_come_in_same m fs along f slots written entry.operand) incoming

pub is_case_same : (m : Module) (fs : List Function) → is_case (with_functions m fs) ≡ is_case m
is_case_same m fs = λ along f written case. constant_fits case.constant (kind_of_same m fs along written) && names_target f case.target

pub are_cases_same : (m : Module) (fs : List Function) → are_cases (with_functions m fs) ≡ are_cases m
are_cases_same m fs = λ along f written cases. list_all (is_case_same m fs along f written) cases

pub is_condition_same : (m : Module) (fs : List Function) → is_condition (with_functions m fs) ≡ is_condition m
is_condition_same m fs = λ along f slots facts written condition. is_bits 1 (kind_of_same m fs along written) && is_value_same m fs along f slots facts written condition

pub is_number_of_same : (m : Module) (fs : List Function) → is_number_of (with_functions m fs) ≡ is_number_of m
is_number_of_same m fs = λ along f slots facts written operand. is_value_same m fs along f slots facts written operand && is_integer (kind_of_same m fs along written)

float_conditions_by : (m : Module) (fs : List Function) (f : Function) (slots : SlotTable) (here : InstrContext) (facts : FactSet) (x : FloatOp) → float_conditions (with_functions m fs) f slots here facts x ≡ float_conditions m f slots here facts x
float_conditions_by m fs f slots here facts (float.Arithmetic kind written first second) = λ along. (K1, is_available slots facts first && is_available slots facts second)
    ∷ (K2, is_number_of_same m fs along f slots facts written first && is_number_of_same m fs along f slots facts written second)
    ∷ (K10, is_no_slot slots first && is_no_slot slots second)
    ∷ (K12, here.may_move_references) ∷ []
float_conditions_by m fs f slots here facts (float.Negate written operand) = λ along. (K1, is_available slots facts operand)
    ∷ (K2, is_number_of_same m fs along f slots facts written operand)
    ∷ (K10, is_no_slot slots operand)
    ∷ (K12, here.may_move_references) ∷ []
float_conditions_by m fs f slots here facts (float.Compare kind written first second) = λ along. (K1, is_available slots facts first && is_available slots facts second)
    ∷ (K2, is_number_of_same m fs along f slots facts written first && is_number_of_same m fs along f slots facts written second)
    ∷ (K10, is_no_slot slots first && is_no_slot slots second)
    ∷ (K12, here.may_move_references) ∷ []
float_conditions_by m fs f slots here facts (float.Convert kind from operand to) = λ along. (K1, is_available slots facts operand)
    ∷ (K2, is_number_of_same m fs along f slots facts from operand && is_integer (kind_of_same m fs along to))
    ∷ (K10, is_no_slot slots operand)
    ∷ (K12, here.may_move_references) ∷ []

pub float_conditions_same : (m : Module) (fs : List Function) → float_conditions (with_functions m fs) ≡ float_conditions m
float_conditions_same m fs = λ along f slots here facts x. float_conditions_by m fs f slots here facts x along

float_kind_by : (m : Module) (fs : List Function) (x : FloatOp) → float_kind (with_functions m fs) x ≡ float_kind m x
float_kind_by m fs (float.Arithmetic kind written first second) = λ along. kind_of_same m fs along written
float_kind_by m fs (float.Negate written operand) = λ along. kind_of_same m fs along written
float_kind_by m fs (float.Compare kind written first second) = refl
float_kind_by m fs (float.Convert kind from operand to) = λ along. kind_of_same m fs along to

pub float_kind_same : (m : Module) (fs : List Function) → float_kind (with_functions m fs) ≡ float_kind m
float_kind_same m fs = λ along x. float_kind_by m fs x along

pub loads_outside_same : (m : Module) (fs : List Function) → loads_outside (with_functions m fs) ≡ loads_outside m
loads_outside_same m fs = λ along f slots facts loaded place_type place. is_outside_value_same m fs along f slots facts place_type place && is_datum (kind_of_same m fs along loaded)

pub stores_outside_same : (m : Module) (fs : List Function) → stores_outside (with_functions m fs) ≡ stores_outside m
stores_outside_same m fs = λ along f slots facts stored value place_type place. is_outside_value_same m fs along f slots facts place_type place
    && ((is_integer (kind_of_same m fs along stored) && is_value_same m fs along f slots facts stored value) || is_outside_value_same m fs along f slots facts stored value)

pub compares_outside_same : (m : Module) (fs : List Function) → compares_outside (with_functions m fs) ≡ compares_outside m
compares_outside_same m fs = λ along f slots facts written first second. (is_outside_value_same m fs along f slots facts written first && (is_outside_value_same m fs along f slots facts written second || is_null second))
    || (is_null first && is_outside_value_same m fs along f slots facts written second)

pub casts_outside_same : (m : Module) (fs : List Function) → casts_outside (with_functions m fs) ≡ casts_outside m
casts_outside_same m fs = λ along f slots facts from to operand. is_outside_value_same m fs along f slots facts from operand && is_pointer (kind_of_same m fs along to)

number_conditions_by : (p : LaidOut) (fs : List Function) (f : Function) (slots : SlotTable) (here : InstrContext) (facts : FactSet) (x : NumberOp) → number_conditions (laid_with p fs) f slots here facts x ≡ number_conditions p f slots here facts x
number_conditions_by p fs f slots here facts (number.Arithmetic kind written first second) = λ along. (K1, is_available slots facts first && is_available slots facts second)
    ∷ (K2, is_value_same p.of_module fs along f slots facts written first && is_value_same p.of_module fs along f slots facts written second && is_integer (kind_of_same p.of_module fs along written) && is_no_slot slots first && is_no_slot slots second)
    ∷ (K12, here.may_move_references) ∷ []
number_conditions_by p fs f slots here facts (number.Resize kind from operand to) = λ along. (K1, is_available slots facts operand)
    ∷ (K2, is_value_same p.of_module fs along f slots facts from operand && may_resize kind (kind_of_same p.of_module fs along from) (kind_of_same p.of_module fs along to) && is_no_slot slots operand)
    ∷ (K12, here.may_move_references) ∷ []
number_conditions_by p fs f slots here facts (number.Compare kind written first second) = λ along. (K1, is_available slots facts first && is_available slots facts second)
    ∷ (K2, (is_value_same p.of_module fs along f slots facts written first && is_value_same p.of_module fs along f slots facts written second && may_compare kind (kind_of_same p.of_module fs along written)) || compares_outside_same p.of_module fs along f slots facts written first second)
    ∷ (K3, is_current facts (known_of facts first) && is_current facts (known_of facts second))
    ∷ (K10, is_no_slot slots first && is_no_slot slots second)
    ∷ (K12, here.may_move_references) ∷ []
number_conditions_by p fs f slots here facts (number.Float x) = λ along. float_conditions_same p.of_module fs along f slots here facts x

pub number_conditions_same : (p : LaidOut) (fs : List Function) → number_conditions (laid_with p fs) ≡ number_conditions p
number_conditions_same p fs = λ along f slots here facts x. number_conditions_by p fs f slots here facts x along

is_count_by : (m : Module) (fs : List Function) (f : Function) (slots : SlotTable) (facts : FactSet) (count : Option Argument) → is_count (with_functions m fs) f slots facts count ≡ is_count m f slots facts count
is_count_by m fs f slots facts None = refl
is_count_by m fs f slots facts (Some count) = λ along. is_integer (kind_of_same m fs along count.written) && is_value_same m fs along f slots facts count.written count.operand && is_no_slot slots count.operand

pub is_count_same : (m : Module) (fs : List Function) → is_count (with_functions m fs) ≡ is_count m
is_count_same m fs = λ along f slots facts count. is_count_by m fs f slots facts count along

memory_conditions_by : (p : LaidOut) (fs : List Function) (f : Function) (slots : SlotTable) (here : InstrContext) (facts : FactSet) (result : Option ℕ) (x : MemoryOp) → memory_conditions (laid_with p fs) f slots here facts result x ≡ memory_conditions p f slots here facts result x
memory_conditions_by p fs f slots here facts result (memory.Alloca held) = λ along. (K8, may_hold_same p.of_module fs along slots result held) ∷ (K11, here.in_entry) ∷ (K12, here.may_move_references) ∷ []
memory_conditions_by p fs f slots here facts result (memory.Buffer held count) = λ along. (K1, is_count_available slots facts count)
    ∷ (K2, is_count_same p.of_module fs along f slots facts count)
    ∷ (K8, p.of_module.wide)
    ∷ (K11, here.in_entry)
    ∷ (K12, here.may_move_references) ∷ []
memory_conditions_by p fs f slots here facts result (memory.Load loaded place_type place) = λ along. (K1, is_available slots facts place)
    ∷ (K2, (is_typed_same p.of_module fs along f place_type place && may_load_same p fs along slots facts loaded place (place_known_same p.of_module fs along facts place_type place)) || loads_outside_same p.of_module fs along f slots facts loaded place_type place)
    ∷ (K3, is_current facts (place_known_same p.of_module fs along facts place_type place))
    ∷ (K4, is_based facts place (place_known_same p.of_module fs along facts place_type place))
    ∷ (K12, here.may_move_references)
    ∷ (K19, casts_operand_same p.of_module fs along place) ∷ []
memory_conditions_by p fs f slots here facts result (memory.Store stored value place_type place) = λ along. (K1, is_available slots facts value && is_available slots facts place)
    ∷ (K2, (is_value_same p.of_module fs along f slots facts stored value && is_typed_same p.of_module fs along f place_type place && may_store_same p fs along slots facts stored (known_of facts value) place (place_known_same p.of_module fs along facts place_type place) && is_one_layout_same p fs along facts stored (place_known_same p.of_module fs along facts place_type place)) || stores_outside_same p.of_module fs along f slots facts stored value place_type place)
    ∷ (K3, is_current facts (known_of facts value) && is_current facts (place_known_same p.of_module fs along facts place_type place))
    ∷ (K4, is_based facts place (place_known_same p.of_module fs along facts place_type place))
    ∷ (K6, needs_no_barrier_same p.of_module fs along slots facts stored place (place_known_same p.of_module fs along facts place_type place))
    ∷ (K10, is_no_slot slots value)
    ∷ (K12, here.may_move_references)
    ∷ (K19, casts_operand_same p.of_module fs along place) ∷ []

pub memory_conditions_same : (p : LaidOut) (fs : List Function) → memory_conditions (laid_with p fs) ≡ memory_conditions p
memory_conditions_same p fs = λ along f slots here facts result x. memory_conditions_by p fs f slots here facts result x along

pub element_conditions_same : (p : LaidOut) (fs : List Function) → element_conditions (laid_with p fs) ≡ element_conditions p
element_conditions_same p fs = λ along f slots here facts x. (K1, is_available slots facts x.base && list_all (λ index. is_available slots facts index.operand) x.indices)
    ∷ (
      K2,
      ((is_typed_same p.of_module fs along f x.base_type x.base && is_pointer (kind_of_same p.of_module fs along x.base_type) && may_be_base (known_of facts x.base)) || is_outside_value_same p.of_module fs along f slots facts x.base_type x.base)
          && are_indices_same p.of_module fs along f slots facts x.indices && no_slots slots x.indices,
    )
    ∷ (K3, is_current facts (known_of facts x.base))
    ∷ (K5, may_lead_same p fs along facts x.source x.indices (known_of facts x.base) || is_outside_value_same p.of_module fs along f slots facts x.base_type x.base)
    ∷ (K10, is_no_slot slots x.base)
    ∷ (K12, here.may_move_references)
    ∷ (K19, casts_operand_same p.of_module fs along x.base) ∷ []

pub cast_conditions_same : (p : LaidOut) (fs : List Function) → cast_conditions (laid_with p fs) ≡ cast_conditions p
cast_conditions_same p fs = λ along f slots here facts x. (K1, is_available slots facts x.operand)
    ∷ (K2, is_typed_same p.of_module fs along f x.from x.operand || is_outside_value_same p.of_module fs along f slots facts x.from x.operand)
    ∷ (K3, is_current facts (known_of facts x.operand))
    ∷ (K12, here.may_move_references)
    ∷ (K19, casts_operand_same p.of_module fs along x.operand && (may_cast_same p fs along slots facts x.from x.to x.operand || casts_outside_same p.of_module fs along f slots facts x.from x.to x.operand)) ∷ []

pub choice_conditions_same : (p : LaidOut) (fs : List Function) → choice_conditions (laid_with p fs) ≡ choice_conditions p
choice_conditions_same p fs = λ along f slots here facts x. (K1, is_available slots facts x.condition && is_available slots facts x.chosen && is_available slots facts x.other)
    ∷ (
      K2,
      is_condition_same p.of_module fs along f slots facts x.condition_type x.condition
          && ((is_value_same p.of_module fs along f slots facts x.written x.chosen && is_value_same p.of_module fs along f slots facts x.written x.other
          && may_choose (kind_of_same p.of_module fs along x.written) && one_layout (known_layout (known_of facts x.chosen)) (known_layout (known_of facts x.other)))
          || (is_outside_value_same p.of_module fs along f slots facts x.written x.chosen && is_outside_value_same p.of_module fs along f slots facts x.written x.other))
          && is_no_slot slots x.condition,
    )
    ∷ (K3, is_current facts (known_of facts x.chosen) && is_current facts (known_of facts x.other))
    ∷ (K10, is_no_slot slots x.chosen && is_no_slot slots x.other)
    ∷ (K12, here.may_move_references) ∷ []

pub phi_conditions_same : (m : Module) (fs : List Function) → phi_conditions (with_functions m fs) ≡ phi_conditions m
phi_conditions_same m fs = λ along f slots here phi. (K2, may_choose (kind_of_same m fs along phi.written) && all_come_in_same m fs along f slots phi.written phi.incoming) ∷ (K12, here.may_move_references) ∷ []

end_conditions_by : (p : LaidOut) (fs : List Function) (f : Function) (slots : SlotTable) (here : InstrContext) (facts : FactSet) (x : End) → end_conditions (laid_with p fs) f slots here facts x ≡ end_conditions p f slots here facts x
end_conditions_by p fs f slots here facts (end.Jump target) = refl
end_conditions_by p fs f slots here facts (end.Branch condition_type condition taken other) = λ along. (K1, is_available slots facts condition)
    ∷ (K2, is_condition_same p.of_module fs along f slots facts condition_type condition && names_target f taken && names_target f other && is_no_slot slots condition)
    ∷ (K12, here.may_move_references) ∷ []
end_conditions_by p fs f slots here facts (end.Switch written value otherwise cases) = λ along. (K1, is_available slots facts value)
    ∷ (K2, is_value_same p.of_module fs along f slots facts written value && is_integer (kind_of_same p.of_module fs along written) && names_target f otherwise && are_cases_same p.of_module fs along f written cases && is_no_slot slots value)
    ∷ (K12, here.may_move_references) ∷ []
end_conditions_by p fs f slots here facts end.Unreachable = refl
end_conditions_by p fs f slots here facts end.ReturnVoid = λ along. (K2, is_void (kind_of_same p.of_module fs along f.returned)) ∷ (K12, here.may_move_references) ∷ (K14, says_what_it_is false here.promised) ∷ []
end_conditions_by p fs f slots here facts (end.Return argument) = λ along. (K1, is_available slots facts argument.operand)
    ∷ (K2, is_passed_same p.of_module fs along f slots facts argument.written argument.operand && (argument.written == f.returned))
    ∷ (K3, is_current facts (known_of facts argument.operand))
    ∷ (K10, is_no_slot slots argument.operand)
    ∷ (K12, here.may_move_references)
    ∷ (K14, keeps_promise facts here.promised argument.operand && says_what_it_is (is_outside_value_same p.of_module fs along f slots facts argument.written argument.operand) here.promised) ∷ []

pub end_conditions_same : (p : LaidOut) (fs : List Function) → end_conditions (laid_with p fs) ≡ end_conditions p
end_conditions_same p fs = λ along f slots here facts x. end_conditions_by p fs f slots here facts x along

after_number_by : (m : Module) (fs : List Function) (v : ℕ) (x : NumberOp) (facts : FactSet) → after_number (with_functions m fs) v x facts ≡ after_number m v x facts
after_number_by m fs v (number.Arithmetic kind written first second) facts = λ along. define_number v (kind_of_same m fs along written) (arithmetic_below kind first second) facts
after_number_by m fs v (number.Resize kind from operand to) facts = λ along. define_number v (kind_of_same m fs along to) (resized_below kind (below_of facts operand)) facts
after_number_by m fs v (number.Compare kind written first second) facts = refl
after_number_by m fs v (number.Float x) facts = λ along. define_number v (float_kind_same m fs along x) None facts

pub after_number_same : (m : Module) (fs : List Function) → after_number (with_functions m fs) ≡ after_number m
after_number_same m fs = λ along v x facts. after_number_by m fs v x facts along

after_memory_by : (p : LaidOut) (fs : List Function) (slots : SlotTable) (result : Option ℕ) (x : MemoryOp) (facts : FactSet) → after_memory (laid_with p fs) slots result x facts ≡ after_memory p slots result x facts
after_memory_by p fs slots result (memory.Store stored value place_type place) facts = refl
after_memory_by p fs slots (Some v) (memory.Alloca held) facts = refl
after_memory_by p fs slots (Some v) (memory.Buffer held count) facts = refl
after_memory_by p fs slots (Some v) (memory.Load loaded place_type place) facts = λ along. after_load_same p fs along slots v loaded place_type place facts
after_memory_by p fs slots None _ facts = refl

pub after_memory_same : (p : LaidOut) (fs : List Function) → after_memory (laid_with p fs) ≡ after_memory p
after_memory_same p fs = λ along slots result x facts. after_memory_by p fs slots result x facts along

after_select_by : (m : Module) (fs : List Function) (v : ℕ) (kind : TypeKind) (chosen other : Operand) (facts : FactSet) → after_select (with_functions m fs) v kind chosen other facts ≡ after_select m v kind chosen other facts
after_select_by m fs v (Bits bits) chosen other facts = refl
after_select_by m fs v kind chosen other facts = λ along. choose_pointer v kind (known_in_same m fs along facts chosen) (known_in_same m fs along facts other) facts

pub after_select_same : (m : Module) (fs : List Function) → after_select (with_functions m fs) ≡ after_select m
after_select_same m fs = λ along v kind chosen other facts. after_select_by m fs v kind chosen other facts along

after_named_by : (p : LaidOut) (fs : List Function) (slots : SlotTable) (v : ℕ) (x : Op) (facts : FactSet) → after_named (laid_with p fs) slots v x facts ≡ after_named p slots v x facts
after_named_by p fs slots v (op.Number x) facts = λ along. after_number_same p.of_module fs along v x facts
after_named_by p fs slots v (op.Element x) facts = λ along. after_element_same p fs along v x.source x.base x.indices facts
after_named_by p fs slots v (op.Cast x) facts = λ along. after_cast_same p.of_module fs along slots v x.from x.to x.operand facts
after_named_by p fs slots v (op.Choice x) facts = λ along. after_select_same p.of_module fs along v (kind_of_same p.of_module fs along x.written) x.chosen x.other facts
after_named_by p fs slots v _ facts = refl

pub after_named_same : (p : LaidOut) (fs : List Function) → after_named (laid_with p fs) ≡ after_named p
after_named_same p fs = λ along slots v x facts. after_named_by p fs slots v x facts along
