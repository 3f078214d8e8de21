-- The rules: when an instruction is allowed, and what is known after it.
use Rattle.std.specs.Prelude.{ℕ, ◌==◌, Bool, true, false, not, ◌&&◌, ◌||◌, List, [], ◌∷◌, length, slice_get, nat_lt, Option, Some, None, is_some}
use Rattle.std.specs.List.{list_all}
use Rattle.ir_ast.specs.declared.argument.Argument.{Argument}
use Rattle.ir_ast.specs.declared.casts.Cast.{Cast}
use Rattle.ir_ast.specs.declared.choices.Choice.{Choice}
use Rattle.ir_ast.specs.declared.choices.Incoming.{Incoming}
use Rattle.ir_ast.specs.declared.choices.Phi.{Phi}
use Rattle.ir_ast.specs.declared.elements.Element.{Element}
use Rattle.ir_ast.specs.declared.ends.Case.{Case}
use Rattle.ir_ast.specs.declared.ends.End.{End}
use Rattle.ir_ast.specs.declared.ends.End.TheVariants as end
use Rattle.ir_ast.specs.declared.function.Function.{Function}
use Rattle.ir_ast.specs.declared.function.LocalSort.{LocalSort}
use Rattle.ir_ast.specs.declared.function.LocalSort.TheVariants.{Value, Slot as SlotName, Element as ElementName}
use Rattle.ir_ast.specs.declared.instr.Instr.{Instr}
use Rattle.ir_ast.specs.declared.memory.MemoryOp.{MemoryOp}
use Rattle.ir_ast.specs.declared.memory.MemoryOp.TheVariants as memory
use Rattle.ir_ast.specs.declared.module.Module.{Module}
use Rattle.ir_ast.specs.declared.numbers.NumberOp.{NumberOp}
use Rattle.ir_ast.specs.declared.numbers.NumberOp.TheVariants as number
use Rattle.ir_ast.specs.declared.op.Op.{Op}
use Rattle.ir_ast.specs.declared.op.Op.TheVariants as op
use Rattle.ir_ast.specs.declared.operand.Operand.{Operand}
use Rattle.ir_ast.specs.declared.operand.Operand.TheVariants.{Constant as Written, Local}
use Rattle.layout.specs.Layouts.{LaidOut}
use Rattle.outside_names.specs.Operands.{is_outside_operand}
use Rattle.types.specs.ValueTypes.{target_of, has_type}
use Rattle.shadow_stack.specs.Slots.{SlotTable, slot_of, is_opaque_address, is_among}
use Rattle.certs.specs.declared.section.Section.{Section}
use Rattle.facts.specs.Facts.{FactSet, define, end_slot}
use Rattle.block_rules.specs.declared.rule.Rule.{Rule}
use Rattle.block_rules.specs.declared.rule.Rule.TheVariants.{K1, K2, K3, K4, K5, K6, K8, K10, K11, K12, K14, K19}
use Rattle.block_rules.specs.declared.instr_context.InstrContext.{InstrContext}
use Rattle.block_rules.specs.Operands.{slot_named, known_of, outside_known, is_available, constant_fits, is_typed, is_value, is_passed, is_outside_value, is_current, is_null, place_known, is_based, is_no_slot}
use Rattle.block_rules.specs.Places.{may_load, may_store, is_one_layout, after_load, after_store}
use Rattle.block_rules.specs.Signature.{callee_of}
use Rattle.type_kinds.specs.declared.type_kind.TypeKind.{TypeKind}
use Rattle.type_kinds.specs.TypeKinds.{kind_of, is_integer, is_pointer, is_void, is_bits}
use Rattle.block_rules.specs.Barriers.{needs_no_barrier}
use Rattle.block_rules.specs.Casts.{casts_operand, may_cast, after_cast}
use Rattle.block_rules.specs.Elements.{may_be_base, are_indices, may_lead, after_element}
use Rattle.block_rules.specs.Floats.{float_conditions, float_kind}
use Rattle.block_rules.specs.Integers.{below_of, arithmetic_below, define_number, may_resize, resized_below, may_compare, after_compare, known_layout, one_layout, may_choose, after_select}
use Rattle.block_rules.specs.Promises.{keeps_promise, says_what_it_is}
use Rattle.block_rules.specs.Calls.{no_slots, call_conditions, after_call}

-- K8: an alloca is of an integer, or of a reference, and some gcroot of the function names its slot
abbrev pub names_root : SlotTable → (slot : Option ℕ) → Bool
names_root slots None = false
names_root slots (Some s) = is_among slots.roots s

-- the name that an alloca defines names a root
abbrev pub gives_root : SlotTable → (result : Option ℕ) → Bool
gives_root slots None = false
gives_root slots (Some v) = names_root slots (slot_of slots v)

-- an alloca of this type is allowed
abbrev pub may_hold : Module → SlotTable → (result : Option ℕ) → (held : ℕ) → Bool
may_hold m slots result held = is_integer (kind_of m held) || gives_root slots result

-- K1: how many elements a buffer has is available
abbrev pub is_count_available : SlotTable → FactSet → Option Argument → Bool
is_count_available slots facts None = true
is_count_available slots facts (Some count) = is_available slots facts count.operand

-- K2: how many elements a buffer has is a number
abbrev pub is_count : Module → Function → SlotTable → FactSet → Option Argument → Bool
is_count m f slots facts None = true
is_count m f slots facts (Some count) = is_integer (kind_of m count.written) && is_value m f slots facts count.written count.operand && is_no_slot slots count.operand

-- K2: an entry of a phi is a constant of its type, a value to which the text gives that type, with the wide forms the name of a getelementptr or of a buffer, or the name of something outside; a slot is none
abbrev pub is_entry : Module → Function → (written v : ℕ) → Option LocalSort → Bool
is_entry m f written v (Some (Value given)) = given == written
is_entry m f written v (Some (ElementName block place)) = m.wide && has_type m f written v
is_entry m f written v (Some (SlotName held)) = m.wide && has_type m f written v
is_entry m f written v _ = false

-- by the operand
abbrev pub may_come_in : Module → Function → SlotTable → (written : ℕ) → Operand → Bool
may_come_in m f slots written (Written c) = constant_fits c (kind_of m written)
may_come_in m f slots written (Local v) = is_entry m f written v (slice_get f.sorts v) && not (is_some (slot_of slots v)) && (m.wide || not (is_opaque_address m slots written (Local v)))
may_come_in m f slots written operand = is_outside_operand m operand && is_pointer (kind_of m written)

-- each entry of a phi
abbrev pub all_come_in : Module → Function → SlotTable → (written : ℕ) → List Incoming → Bool
all_come_in m f slots written incoming = list_all (λ entry. may_come_in m f slots written entry.operand) incoming

-- a block of a function is one that may be entered: not the first
abbrev pub is_target : Function → Option ℕ → Bool
is_target f None = false
is_target f (Some block) = not (block == 0) && nat_lt block (length f.blocks)

-- K2: a label names a block that may be entered
abbrev pub names_target : Function → (label : ℕ) → Bool
names_target f label = is_target f (target_of f label)

-- K2: a case of a switch is a constant of its type, and names a block
abbrev pub is_case : Module → Function → (written : ℕ) → Case → Bool
is_case m f written case = constant_fits case.constant (kind_of m written) && names_target f case.target

-- K2: each case
abbrev pub are_cases : Module → Function → (written : ℕ) → List Case → Bool
are_cases m f written cases = list_all (is_case m f written) cases

-- K2: an operand is a value of the type i1
abbrev pub is_condition : Module → Function → SlotTable → FactSet → (written : ℕ) → Operand → Bool
is_condition m f slots facts written condition = is_bits 1 (kind_of m written) && is_value m f slots facts written condition

-- ---- addresses outside

-- K2: a number or an address outside is read there
abbrev pub is_datum : TypeKind → Bool
is_datum kind = is_integer kind || is_pointer kind

-- K2: a load is from an address outside
abbrev pub loads_outside : Module → Function → SlotTable → FactSet → (loaded place_type : ℕ) → Operand → Bool
loads_outside m f slots facts loaded place_type place = is_outside_value m f slots facts place_type place && is_datum (kind_of m loaded)

-- K2: a number or an address outside is stored there, and no reference
abbrev pub stores_outside : Module → Function → SlotTable → FactSet → (stored : ℕ) → (value : Operand) → (place_type : ℕ) → (place : Operand) → Bool
stores_outside m f slots facts stored value place_type place =
    is_outside_value m f slots facts place_type place
    && ((is_integer (kind_of m stored) && is_value m f slots facts stored value) || is_outside_value m f slots facts stored value)

-- K2: addresses outside are compared, or one with null
abbrev pub compares_outside : Module → Function → SlotTable → FactSet → (written : ℕ) → (first second : Operand) → Bool
compares_outside m f slots facts written first second =
    (is_outside_value m f slots facts written first && (is_outside_value m f slots facts written second || is_null second))
    || (is_null first && is_outside_value m f slots facts written second)

-- K19: an address outside may have each pointer type
abbrev pub casts_outside : Module → Function → SlotTable → FactSet → (from to : ℕ) → Operand → Bool
casts_outside m f slots facts from to operand = is_outside_value m f slots facts from operand && is_pointer (kind_of m to)

-- ---- the conditions, in the order of their numbers

-- of an operation on numbers
abbrev pub number_conditions : LaidOut → Function → SlotTable → InstrContext → FactSet → NumberOp → List (Rule × Bool)
number_conditions p f slots here facts (number.Arithmetic kind written first second) =
    (K1, is_available slots facts first && is_available slots facts second)
    ∷ (K2, is_value p.of_module f slots facts written first && is_value p.of_module f slots facts written second && is_integer (kind_of p.of_module written) && is_no_slot slots first && is_no_slot slots second)
    ∷ (K12, here.may_move_references) ∷ []
number_conditions p f slots here facts (number.Resize kind from operand to) =
    (K1, is_available slots facts operand)
    ∷ (K2, is_value p.of_module f slots facts from operand && may_resize kind (kind_of p.of_module from) (kind_of p.of_module to) && is_no_slot slots operand)
    ∷ (K12, here.may_move_references) ∷ []
number_conditions p f slots here facts (number.Compare kind written first second) =
    (K1, is_available slots facts first && is_available slots facts second)
    ∷ (K2, (is_value p.of_module f slots facts written first && is_value p.of_module f slots facts written second && may_compare kind (kind_of p.of_module written)) || compares_outside p.of_module f slots facts written first second)
    ∷ (K3, is_current facts (known_of facts first) && is_current facts (known_of facts second))
    ∷ (K10, is_no_slot slots first && is_no_slot slots second)
    ∷ (K12, here.may_move_references) ∷ []
number_conditions p f slots here facts (number.Float x) = float_conditions p.of_module f slots here facts x

-- of an operation on memory
abbrev pub memory_conditions : LaidOut → Function → SlotTable → InstrContext → FactSet → (result : Option ℕ) → MemoryOp → List (Rule × Bool)
memory_conditions p f slots here facts result (memory.Alloca held) =
    (K8, may_hold p.of_module slots result held) ∷ (K11, here.in_entry) ∷ (K12, here.may_move_references) ∷ []
memory_conditions p f slots here facts result (memory.Buffer held count) =
    (K1, is_count_available slots facts count)
    ∷ (K2, is_count p.of_module f slots facts count)
    ∷ (K8, p.of_module.wide)
    ∷ (K11, here.in_entry)
    ∷ (K12, here.may_move_references) ∷ []
memory_conditions p f slots here facts result (memory.Load loaded place_type place) =
    (K1, is_available slots facts place)
    ∷ (K2, (is_typed p.of_module f place_type place && may_load p slots facts loaded place (place_known p.of_module facts place_type place)) || loads_outside p.of_module f slots facts loaded place_type place)
    ∷ (K3, is_current facts (place_known p.of_module facts place_type place))
    ∷ (K4, is_based facts place (place_known p.of_module facts place_type place))
    ∷ (K12, here.may_move_references)
    ∷ (K19, casts_operand p.of_module place) ∷ []
memory_conditions p f slots here facts result (memory.Store stored value place_type place) =
    (K1, is_available slots facts value && is_available slots facts place)
    ∷ (K2, (is_value p.of_module f slots facts stored value && is_typed p.of_module f place_type place && may_store p slots facts stored (known_of facts value) place (place_known p.of_module facts place_type place) && is_one_layout p facts stored (place_known p.of_module facts place_type place)) || stores_outside p.of_module f slots facts stored value place_type place)
    ∷ (K3, is_current facts (known_of facts value) && is_current facts (place_known p.of_module facts place_type place))
    ∷ (K4, is_based facts place (place_known p.of_module facts place_type place))
    ∷ (K6, needs_no_barrier p.of_module slots facts stored place (place_known p.of_module facts place_type place))
    ∷ (K10, is_no_slot slots value)
    ∷ (K12, here.may_move_references)
    ∷ (K19, casts_operand p.of_module place) ∷ []

-- of a getelementptr
abbrev pub element_conditions : LaidOut → Function → SlotTable → InstrContext → FactSet → Element → List (Rule × Bool)
element_conditions p f slots here facts x =
    (K1, is_available slots facts x.base && list_all (λ index. is_available slots facts index.operand) x.indices)
    ∷ (
      K2,
      ((is_typed p.of_module f x.base_type x.base && is_pointer (kind_of p.of_module x.base_type) && may_be_base (known_of facts x.base)) || is_outside_value p.of_module f slots facts x.base_type x.base)
          && are_indices p.of_module f slots facts x.indices && no_slots slots x.indices,
    )
    ∷ (K3, is_current facts (known_of facts x.base))
    ∷ (K5, may_lead p facts x.source x.indices (known_of facts x.base) || is_outside_value p.of_module f slots facts x.base_type x.base)
    ∷ (K10, is_no_slot slots x.base)
    ∷ (K12, here.may_move_references)
    ∷ (K19, casts_operand p.of_module x.base) ∷ []

-- of a bitcast
abbrev pub cast_conditions : LaidOut → Function → SlotTable → InstrContext → FactSet → Cast → List (Rule × Bool)
cast_conditions p f slots here facts x =
    (K1, is_available slots facts x.operand)
    ∷ (K2, is_typed p.of_module f x.from x.operand || is_outside_value p.of_module f slots facts x.from x.operand)
    ∷ (K3, is_current facts (known_of facts x.operand))
    ∷ (K12, here.may_move_references)
    ∷ (K19, casts_operand p.of_module x.operand && (may_cast p slots facts x.from x.to x.operand || casts_outside p.of_module f slots facts x.from x.to x.operand)) ∷ []

-- of a select
abbrev pub choice_conditions : LaidOut → Function → SlotTable → InstrContext → FactSet → Choice → List (Rule × Bool)
choice_conditions p f slots here facts x =
    (K1, is_available slots facts x.condition && is_available slots facts x.chosen && is_available slots facts x.other)
    ∷ (
      K2,
      is_condition p.of_module f slots facts x.condition_type x.condition
          && ((is_value p.of_module f slots facts x.written x.chosen && is_value p.of_module f slots facts x.written x.other
          && may_choose (kind_of p.of_module x.written) && one_layout (known_layout (known_of facts x.chosen)) (known_layout (known_of facts x.other)))
          || (is_outside_value p.of_module f slots facts x.written x.chosen && is_outside_value p.of_module f slots facts x.written x.other))
          && is_no_slot slots x.condition,
    )
    ∷ (K3, is_current facts (known_of facts x.chosen) && is_current facts (known_of facts x.other))
    ∷ (K10, is_no_slot slots x.chosen && is_no_slot slots x.other)
    ∷ (K12, here.may_move_references) ∷ []

-- of what an instruction of a body does
abbrev pub op_conditions : LaidOut → (certs : List Section) → Function → SlotTable → InstrContext → FactSet → (result : Option ℕ) → Op → List (Rule × Bool)
op_conditions p certs f slots here facts result (op.Number x) = number_conditions p f slots here facts x
op_conditions p certs f slots here facts result (op.Memory x) = memory_conditions p f slots here facts result x
op_conditions p certs f slots here facts result (op.Element x) = element_conditions p f slots here facts x
op_conditions p certs f slots here facts result (op.Cast x) = cast_conditions p f slots here facts x
op_conditions p certs f slots here facts result (op.Choice x) = choice_conditions p f slots here facts x
op_conditions p certs f slots here facts result (op.Call x) =
    call_conditions p certs f slots here facts x.returned x.arguments (callee_of p.of_module x.callee (length x.arguments))

-- of an instruction of a body
abbrev pub conditions : LaidOut → (certs : List Section) → Function → SlotTable → InstrContext → FactSet → Instr → List (Rule × Bool)
conditions p certs f slots here facts instr = op_conditions p certs f slots here facts instr.result instr.op

-- of a phi; where its entries come from is asked with the blocks
abbrev pub phi_conditions : Module → Function → SlotTable → InstrContext → Phi → List (Rule × Bool)
phi_conditions m f slots here phi =
    (K2, may_choose (kind_of m phi.written) && all_come_in m f slots phi.written phi.incoming) ∷ (K12, here.may_move_references) ∷ []

-- of the end of a block; what the targets ask for is asked with the blocks
abbrev pub end_conditions : LaidOut → Function → SlotTable → InstrContext → FactSet → End → List (Rule × Bool)
end_conditions p f slots here facts (end.Jump target) =
    (K2, names_target f target) ∷ (K12, here.may_move_references) ∷ []
end_conditions p f slots here facts (end.Branch condition_type condition taken other) =
    (K1, is_available slots facts condition)
    ∷ (K2, is_condition p.of_module f slots facts condition_type condition && names_target f taken && names_target f other && is_no_slot slots condition)
    ∷ (K12, here.may_move_references) ∷ []
end_conditions p f slots here facts (end.Switch written value otherwise cases) =
    (K1, is_available slots facts value)
    ∷ (K2, is_value p.of_module f slots facts written value && is_integer (kind_of p.of_module written) && names_target f otherwise && are_cases p.of_module f written cases && is_no_slot slots value)
    ∷ (K12, here.may_move_references) ∷ []
end_conditions p f slots here facts end.Unreachable = (K12, here.may_move_references) ∷ []
end_conditions p f slots here facts end.ReturnVoid =
    (K2, is_void (kind_of p.of_module f.returned)) ∷ (K12, here.may_move_references) ∷ (K14, says_what_it_is false here.promised) ∷ []
end_conditions p f slots here facts (end.Return argument) =
    (K1, is_available slots facts argument.operand)
    ∷ (K2, is_passed p.of_module f slots facts argument.written argument.operand && (argument.written == f.returned))
    ∷ (K3, is_current facts (known_of facts argument.operand))
    ∷ (K10, is_no_slot slots argument.operand)
    ∷ (K12, here.may_move_references)
    ∷ (K14, keeps_promise facts here.promised argument.operand && says_what_it_is (is_outside_value p.of_module f slots facts argument.written argument.operand) here.promised) ∷ []

-- ---- what is known after an instruction

-- an alloca gives a slot: what was known of it ends
abbrev pub after_alloca : (slot : Option ℕ) → FactSet → FactSet
after_alloca None facts = facts
after_alloca (Some s) facts = end_slot s facts

-- an operation on numbers that defines this name
abbrev pub after_number : Module → (v : ℕ) → NumberOp → FactSet → FactSet
after_number m v (number.Arithmetic kind written first second) facts = define_number v (kind_of m written) (arithmetic_below kind first second) facts
after_number m v (number.Resize kind from operand to) facts = define_number v (kind_of m to) (resized_below kind (below_of facts operand)) facts
after_number m v (number.Compare kind written first second) facts = after_compare v kind first second facts
after_number m v (number.Float x) facts = define_number v (float_kind m x) None facts

-- an operation on memory, by the name that it defines, if it does
abbrev pub after_memory : LaidOut → SlotTable → (result : Option ℕ) → MemoryOp → FactSet → FactSet
after_memory p slots result (memory.Store stored value place_type place) facts = after_store (known_of facts value) (slot_named slots place) facts
after_memory p slots (Some v) (memory.Alloca held) facts = after_alloca (slot_of slots v) facts
after_memory p slots (Some v) (memory.Buffer held count) facts = define v outside_known facts
after_memory p slots (Some v) (memory.Load loaded place_type place) facts = after_load p slots v loaded place_type place facts
after_memory p slots None _ facts = facts

-- any other operation that defines this name
abbrev pub after_named : LaidOut → SlotTable → (v : ℕ) → Op → FactSet → FactSet
after_named p slots v (op.Number x) facts = after_number p.of_module v x facts
after_named p slots v (op.Element x) facts = after_element p v x.source x.base x.indices facts
after_named p slots v (op.Cast x) facts = after_cast p.of_module slots v x.from x.to x.operand facts
after_named p slots v (op.Choice x) facts = after_select p.of_module v (kind_of p.of_module x.written) x.chosen x.other facts
after_named p slots v _ facts = facts

-- by what the instruction does
abbrev pub after_op : LaidOut → (certs : List Section) → SlotTable → (result : Option ℕ) → Op → FactSet → FactSet
after_op p certs slots result (op.Memory x) facts = after_memory p slots result x facts
after_op p certs slots result (op.Call x) facts = after_call p certs slots result x.returned x.arguments (callee_of p.of_module x.callee (length x.arguments)) facts
after_op p certs slots None _ facts = facts
after_op p certs slots (Some v) x facts = after_named p slots v x facts

-- what is known after an instruction
abbrev pub after : LaidOut → (certs : List Section) → SlotTable → FactSet → Instr → FactSet
after p certs slots facts instr = after_op p certs slots instr.result instr.op facts
