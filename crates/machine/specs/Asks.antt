-- What an instruction asks for.
use Rattle.std.specs.Prelude.{ℕ, ◌==◌, Bool, true, false, ◌&&◌, ◌||◌, if◌then◌else◌, List, [], ◌∷◌, map, slice_get, Option, Some, None, is_some, not}
use Rattle.std.specs.List.{list_all}
use Rattle.ir_ast.specs.declared.argument.Argument.{Argument}
use Rattle.ir_ast.specs.declared.calls.Call.{Call}
use Rattle.ir_ast.specs.declared.casts.Cast.{Cast}
use Rattle.ir_ast.specs.declared.choices.Choice.{Choice}
use Rattle.ir_ast.specs.declared.elements.Element.{Element}
use Rattle.ir_ast.specs.declared.ends.End.{End as AnEnd}
use Rattle.ir_ast.specs.declared.ends.End.TheVariants as end
use Rattle.ir_ast.specs.declared.function.Function.{Function}
use Rattle.ir_ast.specs.declared.function.Parameter.{Parameter}
use Rattle.ir_ast.specs.FloatFunctions as floats
use Rattle.ir_ast.specs.IntegerFunctions.{widths}
use Rattle.ir_ast.specs.declared.float_function.FloatFunction.{FloatFunction}
use Rattle.ir_ast.specs.declared.floats.FloatOp.{FloatOp}
use Rattle.ir_ast.specs.declared.floats.FloatOp.TheVariants as float
use Rattle.ir_ast.specs.declared.integer_function.IntegerFunction.{IntegerFunction}
use Rattle.ir_ast.specs.declared.ir_type.IrType.{IrType}
use Rattle.ir_ast.specs.declared.items_of_module.Declare.{Declare}
use Rattle.ir_ast.specs.declared.items_of_module.SymbolSort.{SymbolSort}
use Rattle.ir_ast.specs.declared.items_of_module.SymbolSort.TheVariants as symbol
use Rattle.ir_ast.specs.declared.memory.MemoryOp.{MemoryOp}
use Rattle.ir_ast.specs.declared.memory.MemoryOp.TheVariants as memory
use Rattle.ir_ast.specs.declared.module.Module.{Module}
use Rattle.ir_ast.specs.declared.numbers.Comparison.{Comparison}
use Rattle.ir_ast.specs.declared.numbers.NumberOp.{NumberOp}
use Rattle.ir_ast.specs.declared.numbers.NumberOp.TheVariants as number
use Rattle.ir_ast.specs.declared.op.Op.{Op}
use Rattle.ir_ast.specs.declared.op.Op.TheVariants as op
use Rattle.ir_ast.specs.declared.operand.Operand.{Operand}
use Rattle.ir_ast.specs.declared.runtime.Runtime.{Runtime}
use Rattle.ir_ast.specs.declared.runtime.Runtime.TheVariants as runtime
use Rattle.pools.specs.Layouts.{kind_of_word}
use Rattle.layout.specs.Layouts.{LaidOut}
use Rattle.types.specs.Elements.{element_type}
use Rattle.types.specs.LayoutNumbers.{layout_meant}
use Rattle.types.specs.References.{pointee, is_opaque}
use Rattle.types.specs.RuntimeCall.{runtime_called}
use Rattle.types.specs.ValueTypes.{target_of}
use Rattle.shadow_stack.specs.Slots.{SlotTable, operand_slot, held_type, slot_layout}
use Rattle.machine.specs.declared.value.Pointee.{Pointee}
use Rattle.machine.specs.declared.value.Pointee.TheVariants as place
use Rattle.machine.specs.declared.value.Value.{Value}
use Rattle.machine.specs.declared.value.Value.TheVariants as value
use Rattle.machine.specs.declared.action.Action.{Action}
use Rattle.machine.specs.declared.action.Action.TheVariants.{Local, Foreign, Read, Write, StorePlain, Alloc, Safepoint, End, Wrong}
use Rattle.machine.specs.Kinds.{is_integer, is_integer_of, is_void, is_pointer_type, bits_of, is_byte_pointer, is_place_of_bytes, leads_to, may_refer, may_lead, refers_to, may_cast_word, bits_at, is_set, is_reference, fits_layout_of, are_of_one_layout, number_in, value_of, is_typed, is_usable, is_usable_number, is_usable_outside, is_null_at, is_number, is_local_of, slot_at_place, address_at_place}
use Rattle.machine.specs.Integers.{may_resize, is_equality}
use Rattle.machine.specs.Elements.{element_offset, element_place, globals_cell, global_kind, is_read_as, takes_value}
use Rattle.machine.specs.Jumps.{phis_of, phis_fit, switch_edge, cases_fit}

-- where a condition fails, an instruction has no meaning
abbrev pub only_if : Bool → Action → Action
only_if b action = if b then action else Wrong

-- ---- slots

-- a value of this type may be stored in a slot: the slot's own type, or i8* where it holds references
abbrev pub is_slot_type : Module → (layout : Option ℕ) → (held written : ℕ) → Bool
is_slot_type m layout held written = (held == written) || (is_some layout && is_byte_pointer m written)

-- the same of the type that a slot holds
abbrev pub is_held_as : Module → (layout held : Option ℕ) → (written : ℕ) → Bool
is_held_as m layout None written = false
is_held_as m layout (Some held) written = is_slot_type m layout held written

-- a value of this type may be loaded from a slot: the slot's own type, or i8*, but not ptr
abbrev pub is_loaded_as : Module → (held : Option ℕ) → (written : ℕ) → Bool
is_loaded_as m None written = false
is_loaded_as m (Some held) written = (held == written) || (is_byte_pointer m written && not (is_opaque m written))

-- ---- bitcasts

-- an address may be cast to this type as its word may, or where it points to no word to each type of places of references
abbrev pub may_cast_place : LaidOut → (to : ℕ) → Pointee → Bool
may_cast_place p to place.OfNull = may_lead p.of_module to
may_cast_place p to (place.Word layout at word) = may_cast_word p.of_module to (kind_of_word p.layouts layout word)
may_cast_place p to (place.Global g) = may_cast_word p.of_module to (global_kind p.of_module g)

-- a number may be cast to one of as many bits; an address outside to each pointer type
abbrev pub may_cast_number : Module → (from to : ℕ) → Bool
may_cast_number m from to =
    (is_integer (slice_get m.types from) && (is_integer (slice_get m.types to) && (bits_at m from == bits_at m to)))
    || (is_pointer_type (slice_get m.types from) && is_pointer_type (slice_get m.types to))

-- a value may be cast to another type: a number as above, a reference to i8* or to a reference of its layout, null also from place to place, an address as above
abbrev pub may_cast_value : LaidOut → (from to : ℕ) → Value → Bool
may_cast_value p from to value.Unset = false
may_cast_value p from to (value.Number n) = may_cast_number p.of_module from to
may_cast_value p from to value.Null = may_refer p.of_module to || (may_lead p.of_module from && may_lead p.of_module to)
may_cast_value p from to (value.Cell layout at) = refers_to p.of_module layout to
may_cast_value p from to (value.Address at) = may_cast_place p to at

-- a bitcast of a value
abbrev pub may_cast : LaidOut → (from to : ℕ) → Value → Bool
may_cast p from to v = is_set v && ((from == to) || may_cast_value p from to v)

-- a slot that holds references may be a place of this type
abbrev pub is_slot_under : Module → (held : Option ℕ) → (part : ℕ) → Bool
is_slot_under m None part = false
is_slot_under m (Some layout) part = refers_to m layout part

-- a bitcast of a slot: to its own type, or where it holds references to i8** or to a place of references of its layout
abbrev pub may_cast_slot : Module → (layout : Option ℕ) → (from to : ℕ) → Bool
may_cast_slot m layout from to = (from == to) || leads_to (is_slot_under m layout) (pointee m to)

-- by the slot that the operand names, if it names one
abbrev pub cast_of : LaidOut → Function → SlotTable → List Value → Cast → Option ℕ → Action
cast_of p f slots registers x (Some slot) = only_if (is_local_of p.of_module f x.from x.operand && may_cast_slot p.of_module (slot_layout slots slot) x.from x.to) Local
cast_of p f slots registers x None =
    only_if (is_typed p.of_module f slots x.from x.operand && may_cast p x.from x.to (value_of p.of_module registers x.from x.operand)) Local

-- a bitcast
abbrev pub cast_action : LaidOut → Function → SlotTable → List Value → Cast → Action
cast_action p f slots registers x = cast_of p f slots registers x (operand_slot slots.names x.operand)

-- ---- loads and stores

-- a read of the word to which an address points
abbrev pub read_action : LaidOut → (loaded : ℕ) → Option Pointee → Action
read_action p loaded None = Wrong
read_action p loaded (Some place.OfNull) = Wrong
read_action p loaded (Some (place.Word layout at word)) = only_if (is_read_as p.of_module loaded (kind_of_word p.layouts layout word)) (Read at word)
read_action p loaded (Some (place.Global g)) = only_if (is_read_as p.of_module loaded (global_kind p.of_module g)) (Read globals_cell g)

-- a load from a slot under its type, or from an address
abbrev pub load_action : LaidOut → SlotTable → (loaded : ℕ) → Option ℕ → Option Pointee → Action
load_action p slots loaded (Some slot) address = only_if (is_loaded_as p.of_module (held_type slots slot) loaded) Local
load_action p slots loaded None address = read_action p loaded address

-- a store of a value under its type to the word to which an address points, without the barrier
abbrev pub plain_action : LaidOut → (stored : ℕ) → Value → Option Pointee → Action
plain_action p stored v None = Wrong
plain_action p stored v (Some place.OfNull) = Wrong
plain_action p stored v (Some (place.Word layout at word)) = only_if (takes_value p.of_module stored (kind_of_word p.layouts layout word) v) (StorePlain at word v)
plain_action p stored v (Some (place.Global g)) = only_if (takes_value p.of_module stored (global_kind p.of_module g) v) (StorePlain globals_cell g v)

-- the same with the barrier
abbrev pub barrier_action : LaidOut → (stored : ℕ) → Value → Option Pointee → Action
barrier_action p stored v None = Wrong
barrier_action p stored v (Some place.OfNull) = Wrong
barrier_action p stored v (Some (place.Word layout at word)) = only_if (takes_value p.of_module stored (kind_of_word p.layouts layout word) v) (Write at word v)
barrier_action p stored v (Some (place.Global g)) = only_if (takes_value p.of_module stored (global_kind p.of_module g) v) (Write globals_cell g v)

-- a store to a slot of a value that fits what the slot holds, or to an address
abbrev pub store_action : LaidOut → SlotTable → (stored : ℕ) → (usable : Bool) → Value → Option ℕ → Option Pointee → Action
store_action p slots stored usable v (Some slot) address =
    only_if (usable && (is_held_as p.of_module (slot_layout slots slot) (held_type slots slot) stored && fits_layout_of (slot_layout slots slot) v)) Local
store_action p slots stored usable v None address = if usable then plain_action p stored v address else Wrong

-- ---- getelementptr, numbers and references

-- each of these is a number
abbrev pub are_integers : Module → Function → SlotTable → List Value → List Argument → Bool
are_integers m f slots registers arguments = list_all (λ argument. is_usable_number m f slots registers argument.written argument.operand) arguments

-- a getelementptr leads to a part of the type, and to a word of the cell
abbrev pub leads_inside : LaidOut → Function → SlotTable → List Value → Element → Bool
leads_inside p f slots registers x =
    is_typed p.of_module f slots x.base_type x.base
    && (are_integers p.of_module f slots registers x.indices
    && (is_some (element_type p.of_module x.source x.indices)
    && is_some (element_place p (element_offset p registers x.source x.indices) (value_of p.of_module registers x.base_type x.base))))

-- a getelementptr of an address outside leads wherever its indices say
abbrev pub leads_outside : Module → Function → SlotTable → List Value → Element → Bool
leads_outside m f slots registers x = is_usable_outside m f slots registers x.base_type x.base && are_integers m f slots registers x.indices

-- a getelementptr
abbrev pub element_action : LaidOut → Function → SlotTable → List Value → Element → Action
element_action p f slots registers x = only_if (leads_inside p f slots registers x || leads_outside p.of_module f slots registers x) Local

-- two operands of a type are numbers
abbrev pub are_numbers : Module → Function → SlotTable → List Value → (written : ℕ) → (first second : Operand) → Bool
are_numbers m f slots registers written first second =
    is_usable_number m f slots registers written first && is_usable_number m f slots registers written second

-- two operands of a type are references
abbrev pub are_references : Module → Function → SlotTable → List Value → (written : ℕ) → (first second : Operand) → Bool
are_references m f slots registers written first second =
    may_refer m written
    && ((is_typed m f slots written first && is_reference (value_of m registers written first))
    && (is_typed m f slots written second && is_reference (value_of m registers written second)))

-- an address outside is compared with another one, or with null
abbrev pub compares_outside : Module → Function → SlotTable → List Value → (written : ℕ) → (first second : Operand) → Bool
compares_outside m f slots registers written first second =
    (is_usable_outside m f slots registers written first && (is_usable_outside m f slots registers written second || is_null_at m written second))
    || (is_null_at m written first && is_usable_outside m f slots registers written second)

-- an icmp of two numbers, or of two references, which are only compared for equality
abbrev pub may_compare : Module → Function → SlotTable → List Value → Comparison → (written : ℕ) → (first second : Operand) → Bool
may_compare m f slots registers kind written first second =
    are_numbers m f slots registers written first second || (is_equality kind && are_references m f slots registers written first second)

-- two operands of a type are addresses outside
abbrev pub are_outside : Module → Function → SlotTable → List Value → (written : ℕ) → (first second : Operand) → Bool
are_outside m f slots registers written first second = is_usable_outside m f slots registers written first && is_usable_outside m f slots registers written second

-- a select of one of two numbers, of two references of one layout, or of two addresses outside
abbrev pub may_select : Module → Function → SlotTable → List Value → (written : ℕ) → (chosen other : Operand) → Bool
may_select m f slots registers written chosen other =
    are_numbers m f slots registers written chosen other
    || ((are_references m f slots registers written chosen other && are_of_one_layout (value_of m registers written chosen) (value_of m registers written other))
    || are_outside m f slots registers written chosen other)

-- a condition is an i1
abbrev pub is_condition : Module → Function → SlotTable → List Value → (written : ℕ) → Operand → Bool
is_condition m f slots registers written o = is_integer_of 1 (slice_get m.types written) && is_usable_number m f slots registers written o

-- ---- calls of the runtime

-- the types of gcroot: void (i8**, i8*)
abbrev pub are_gcroot_types : Module → (returned : ℕ) → List ℕ → Bool
are_gcroot_types m returned (place ∷ metadata ∷ []) = is_void (slice_get m.types returned) && (is_place_of_bytes m place && is_byte_pointer m metadata)
are_gcroot_types m returned parameters = false

-- the types of gcread: i8* (i8*, i8**)
abbrev pub are_gcread_types : Module → (returned : ℕ) → List ℕ → Bool
are_gcread_types m returned (object ∷ place ∷ []) = is_byte_pointer m returned && (is_byte_pointer m object && is_place_of_bytes m place)
are_gcread_types m returned parameters = false

-- the types of gcwrite: void (i8*, i8*, i8**)
abbrev pub are_gcwrite_types : Module → (returned : ℕ) → List ℕ → Bool
are_gcwrite_types m returned (v ∷ object ∷ place ∷ []) =
    is_void (slice_get m.types returned) && (is_byte_pointer m v && (is_byte_pointer m object && is_place_of_bytes m place))
are_gcwrite_types m returned parameters = false

-- the types of dg_alloc: i8* (i32)
abbrev pub are_alloc_types : Module → (returned : ℕ) → List ℕ → Bool
are_alloc_types m returned (layout ∷ []) = is_byte_pointer m returned && is_integer_of 32 (slice_get m.types layout)
are_alloc_types m returned parameters = false

-- the types of dg_safepoint: void ()
abbrev pub are_safepoint_types : Module → (returned : ℕ) → List ℕ → Bool
are_safepoint_types m returned [] = is_void (slice_get m.types returned)
are_safepoint_types m returned parameters = false

-- these are numbers of these widths
abbrev pub are_of_widths : Module → (widths types : List ℕ) → Bool
are_of_widths m [] [] = true
are_of_widths m (bits ∷ widths) (type ∷ types) = is_integer_of bits (slice_get m.types type) && are_of_widths m widths types
are_of_widths m _ _ = false

-- the types of a function of integers: what it takes, and an integer of its width
abbrev pub are_integer_types : Module → IntegerFunction → (bits returned : ℕ) → List ℕ → Bool
are_integer_types m function bits returned parameters = is_integer_of bits (slice_get m.types returned) && are_of_widths m (widths function bits) parameters

-- the types of a function of floating point numbers: what it takes, and a number of its width
abbrev pub are_float_types : Module → FloatFunction → (bits returned : ℕ) → List ℕ → Bool
are_float_types m function bits returned parameters = is_integer_of bits (slice_get m.types returned) && are_of_widths m (floats.widths (floats.taken_by function) bits) parameters

-- these are the types of a function of the runtime
abbrev pub are_types_of : Module → Runtime → (returned : ℕ) → (parameters : List ℕ) → Bool
are_types_of m runtime.Alloc = are_alloc_types m
are_types_of m runtime.Safepoint = are_safepoint_types m
are_types_of m runtime.GcRoot = are_gcroot_types m
are_types_of m runtime.GcRead = are_gcread_types m
are_types_of m runtime.GcWrite = are_gcwrite_types m
are_types_of m (runtime.Integer function bits) = are_integer_types m function bits
are_types_of m (runtime.Float function bits) = are_float_types m function bits

-- whether a name is declared with types that pass a test
abbrev pub declared_with : (ℕ → List ℕ → Bool) → Option Declare → Bool
declared_with test None = false
declared_with test (Some declare) = test declare.returned declare.parameters

-- the declaration of a name of this sort
abbrev pub declare_of_sort : Module → Option SymbolSort → Option Declare
declare_of_sort m (Some (symbol.Declared d)) = slice_get m.declares d
declare_of_sort m _ = None

-- the declaration of a global name
abbrev pub declare_of : Module → (callee : ℕ) → Option Declare
declare_of m callee = declare_of_sort m (slice_get m.sorts callee)

-- the slot that a gcroot call names, where it holds references
abbrev pub is_root_place : SlotTable → Option ℕ → Bool
is_root_place slots None = false
is_root_place slots (Some slot) = is_some (slot_layout slots slot)

-- gcroot stores null in a slot that holds references
abbrev pub gcroot_action : Module → Function → SlotTable → List Value → (returned : ℕ) → List Argument → Action
gcroot_action m f slots registers returned (place ∷ metadata ∷ []) =
    only_if (are_gcroot_types m returned (place.written ∷ metadata.written ∷ [])
    && (is_root_place slots (slot_at_place m f slots place.written place.operand) && is_usable m f slots registers metadata.written metadata.operand)) Local
gcroot_action m f slots registers returned arguments = Wrong

-- gcread reads a place, for an object
abbrev pub gcread_action : LaidOut → Function → SlotTable → List Value → (returned : ℕ) → List Argument → Action
gcread_action p f slots registers returned (object ∷ place ∷ []) =
    only_if (are_gcread_types p.of_module returned (object.written ∷ place.written ∷ []) && is_usable p.of_module f slots registers object.written object.operand)
    (read_action p returned (address_at_place p.of_module f slots registers place.written place.operand))
gcread_action p f slots registers returned arguments = Wrong

-- gcwrite puts a value at a place with the barrier, for an object
abbrev pub gcwrite_action : LaidOut → Function → SlotTable → List Value → (returned : ℕ) → List Argument → Action
gcwrite_action p f slots registers returned (v ∷ object ∷ place ∷ []) =
    only_if (are_gcwrite_types p.of_module returned (v.written ∷ object.written ∷ place.written ∷ [])
    && (is_usable p.of_module f slots registers v.written v.operand && is_usable p.of_module f slots registers object.written object.operand))
    (barrier_action p v.written (value_of p.of_module registers v.written v.operand) (address_at_place p.of_module f slots registers place.written place.operand))
gcwrite_action p f slots registers returned arguments = Wrong

-- an alloc of a layout, if there is one
abbrev pub alloc_of : Option ℕ → Action
alloc_of None = Wrong
alloc_of (Some layout) = Alloc layout

-- dg_alloc asks for a cell of the layout that its argument numbers
abbrev pub alloc_action : Module → (returned : ℕ) → List Argument → Action
alloc_action m returned (layout ∷ []) = only_if (are_alloc_types m returned (layout.written ∷ [])) (alloc_of (layout_meant m layout.operand))
alloc_action m returned arguments = Wrong

-- dg_safepoint asks whether a stage was posted
abbrev pub safepoint_action : Module → (returned : ℕ) → List Argument → Action
safepoint_action m returned [] = only_if (are_safepoint_types m returned []) Safepoint
safepoint_action m returned arguments = Wrong

-- the types with which arguments are written
abbrev pub written_types : List Argument → List ℕ
written_types arguments = map (λ argument. argument.written) arguments

-- a function of integers takes integers
abbrev pub integer_action : Module → Function → SlotTable → List Value → IntegerFunction → (bits returned : ℕ) → List Argument → Action
integer_action m f slots registers function bits returned arguments =
    only_if (are_integer_types m function bits returned (written_types arguments) && are_integers m f slots registers arguments) Local

-- ---- calls of defined functions

-- the number of the defined function that a name of this sort is
abbrev pub number_of_sort : Option SymbolSort → Option ℕ
number_of_sort (Some (symbol.Defined function)) = Some function
number_of_sort _ = None

-- the number of the defined function that a global name names
abbrev pub number_called : Module → (callee : ℕ) → Option ℕ
number_called m callee = number_of_sort (slice_get m.sorts callee)

-- the function with a number, if there is one
abbrev pub function_numbered : Module → (function : Option ℕ) → Option Function
function_numbered m None = None
function_numbered m (Some function) = slice_get m.functions function

-- there is one argument for each parameter, of its type and usable
abbrev pub arguments_pass : Module → Function → SlotTable → List Value → List Parameter → List Argument → Bool
arguments_pass m f slots registers [] [] = true
arguments_pass m f slots registers (parameter ∷ parameters) (argument ∷ arguments) =
    (argument.written == parameter.written) && (is_usable m f slots registers argument.written argument.operand && arguments_pass m f slots registers parameters arguments)
arguments_pass m f slots registers _ _ = false

-- a call of a defined function is one step, if it is called with its types
abbrev pub defined_action : Module → Function → SlotTable → List Value → (returned : ℕ) → List Argument → (callee : Option Function) → Action
defined_action m f slots registers returned arguments None = Wrong
defined_action m f slots registers returned arguments (Some callee) =
    only_if ((returned == callee.returned) && arguments_pass m f slots registers callee.parameters arguments) Local

-- ---- calls of functions outside

-- a number from outside, by its type; an address outside is one of 64 bits
abbrev pub asked_given : Option IrType → Action
asked_given t = if is_integer t then Foreign (bits_of t) else (if is_pointer_type t then Foreign 64 else Wrong)

-- what a function outside gives, by its type: nothing, a number or an address outside
abbrev pub asked_outside : Option IrType → Action
asked_outside t = if is_void t then Local else asked_given t

-- null or an address outside, written at a pointer type
abbrev pub is_address_argument : Module → Function → SlotTable → List Value → Argument → Bool
is_address_argument m f slots registers argument = is_null_at m argument.written argument.operand || is_usable_outside m f slots registers argument.written argument.operand

-- a function outside takes numbers, null and addresses outside, of its parameters' types; past its parameters it takes addresses outside, as the dots of a declaration allow
abbrev pub are_outside_arguments : Module → Function → SlotTable → List Value → List ℕ → List Argument → Bool
are_outside_arguments m f slots registers [] [] = true
are_outside_arguments m f slots registers [] (argument ∷ arguments) =
    is_usable_outside m f slots registers argument.written argument.operand && are_outside_arguments m f slots registers [] arguments
are_outside_arguments m f slots registers (type ∷ types) (argument ∷ arguments) =
    (argument.written == type) && ((is_usable_number m f slots registers argument.written argument.operand || is_address_argument m f slots registers argument)
    && are_outside_arguments m f slots registers types arguments)
are_outside_arguments m f slots registers (type ∷ types) [] = false

-- a call of a declared function of a wide text, with its types; other names are those of defined functions
abbrev pub outside_action : Module → Function → SlotTable → List Value → (returned : ℕ) → List Argument → Option Declare → (callee : Option Function) → Action
outside_action m f slots registers returned arguments None callee = defined_action m f slots registers returned arguments callee
outside_action m f slots registers returned arguments (Some d) callee =
    only_if (m.wide && ((returned == d.returned) && are_outside_arguments m f slots registers d.parameters arguments)) (asked_outside (slice_get m.types returned))

-- ---- functions of floating point numbers

-- a function of floating point numbers takes numbers, and gives one from outside
abbrev pub float_action : Module → Function → SlotTable → List Value → FloatFunction → (bits returned : ℕ) → List Argument → Action
float_action m f slots registers function bits returned arguments =
    only_if (are_float_types m function bits returned (written_types arguments) && are_integers m f slots registers arguments) (asked_outside (slice_get m.types returned))

-- ---- calls

-- a call of a function of the runtime, declared and called with its types, of a defined function, or of a function outside; no other callee is known
abbrev pub call_action : LaidOut → Function → SlotTable → List Value → (returned : ℕ) → List Argument → Option Declare → (callee : Option Function) → Option Runtime → Action
call_action p f slots registers returned arguments declare callee (Some runtime.Alloc) =
    only_if (declared_with (are_alloc_types p.of_module) declare) (alloc_action p.of_module returned arguments)
call_action p f slots registers returned arguments declare callee (Some runtime.GcRoot) =
    only_if (declared_with (are_gcroot_types p.of_module) declare) (gcroot_action p.of_module f slots registers returned arguments)
call_action p f slots registers returned arguments declare callee (Some runtime.GcRead) =
    only_if (declared_with (are_gcread_types p.of_module) declare) (gcread_action p f slots registers returned arguments)
call_action p f slots registers returned arguments declare callee (Some runtime.GcWrite) =
    only_if (declared_with (are_gcwrite_types p.of_module) declare) (gcwrite_action p f slots registers returned arguments)
call_action p f slots registers returned arguments declare callee (Some runtime.Safepoint) =
    only_if (declared_with (are_safepoint_types p.of_module) declare) (safepoint_action p.of_module returned arguments)
call_action p f slots registers returned arguments declare callee (Some (runtime.Integer function bits)) =
    only_if (declared_with (are_integer_types p.of_module function bits) declare) (integer_action p.of_module f slots registers function bits returned arguments)
call_action p f slots registers returned arguments declare callee (Some (runtime.Float function bits)) =
    only_if (declared_with (are_float_types p.of_module function bits) declare) (float_action p.of_module f slots registers function bits returned arguments)
call_action p f slots registers returned arguments declare callee None = outside_action p.of_module f slots registers returned arguments declare callee

-- ---- the end of a block

-- an edge to a block whose phis may take their entries for this block; to a label of no block there is none
abbrev pub enter_action : Module → Function → SlotTable → (from : ℕ) → (target : Option ℕ) → Action
enter_action m f slots from None = End
enter_action m f slots from (Some block) = only_if (phis_fit m f slots from (phis_of (slice_get f.blocks block))) Local

-- the label to which a br with a condition goes on
abbrev pub branch_edge : (condition : Value) → (taken other : ℕ) → ℕ
branch_edge condition taken other = if number_in condition == 0 then other else taken

-- the label to which a block goes on, if it ends with a br or a switch
abbrev pub edge_of : Module → List Value → AnEnd → Option ℕ
edge_of m registers (end.Jump label) = Some label
edge_of m registers (end.Branch condition_type condition taken other) = Some (branch_edge (value_of m registers condition_type condition) taken other)
edge_of m registers (end.Switch written v otherwise cases) = Some (switch_edge m written (number_in (value_of m registers written v)) otherwise cases)
edge_of m registers _ = None

-- the block to which that leads
abbrev pub target_at : Function → (edge : Option ℕ) → Option ℕ
target_at f None = None
target_at f (Some label) = target_of f label

-- what a br or a switch asks for
abbrev pub edge_action : Module → Function → SlotTable → (from : ℕ) → List Value → AnEnd → Action
edge_action m f slots from registers x = enter_action m f slots from (target_at f (edge_of m registers x))

-- what the end of the block with this number asks for
abbrev pub end_action : Module → Function → SlotTable → (from : ℕ) → List Value → AnEnd → Action
end_action m f slots from registers (end.Jump label) = edge_action m f slots from registers (end.Jump label)
end_action m f slots from registers (end.Branch condition_type condition taken other) =
    if is_condition m f slots registers condition_type condition then edge_action m f slots from registers (end.Branch condition_type condition taken other) else Wrong
end_action m f slots from registers (end.Switch written v otherwise cases) =
    if is_usable_number m f slots registers written v && cases_fit m written cases then edge_action m f slots from registers (end.Switch written v otherwise cases) else Wrong
end_action m f slots from registers end.Unreachable = End
end_action m f slots from registers end.ReturnVoid = only_if (is_void (slice_get m.types f.returned)) End
end_action m f slots from registers (end.Return argument) =
    only_if ((argument.written == f.returned) && is_usable m f slots registers argument.written argument.operand) End

-- ---- instructions

-- an operation on floating point numbers gives a number: its operands are numbers of its types
abbrev pub gives_float : Module → Function → SlotTable → List Value → FloatOp → Bool
gives_float m f slots registers (float.Arithmetic kind written first second) = are_numbers m f slots registers written first second
gives_float m f slots registers (float.Negate written o) = is_usable_number m f slots registers written o
gives_float m f slots registers (float.Compare kind written first second) = are_numbers m f slots registers written first second
gives_float m f slots registers (float.Convert kind from o to) = is_usable_number m f slots registers from o && is_integer (slice_get m.types to)

-- how many bits that number has
abbrev pub float_bits : Module → FloatOp → ℕ
float_bits m (float.Arithmetic kind written first second) = bits_at m written
float_bits m (float.Negate written o) = bits_at m written
float_bits m (float.Compare kind written first second) = 1
float_bits m (float.Convert kind from o to) = bits_at m to

-- an operation on numbers gives a number: its operands are set and of its types; a comparison for equality may be one of references, and each may be one of addresses outside
abbrev pub gives_number : Module → Function → SlotTable → List Value → NumberOp → Bool
gives_number m f slots registers (number.Arithmetic kind written first second) = are_numbers m f slots registers written first second
gives_number m f slots registers (number.Resize kind written o to) =
    is_usable_number m f slots registers written o && (is_integer (slice_get m.types to) && may_resize kind (bits_at m written) (bits_at m to))
gives_number m f slots registers (number.Compare kind written first second) = may_compare m f slots registers kind written first second || compares_outside m f slots registers written first second
gives_number m f slots registers (number.Float x) = gives_float m f slots registers x

-- what an operation on numbers asks for: one on floating point numbers, and a comparison of addresses outside, for a number from outside, one on integers for nothing
abbrev pub number_asked : Module → Function → SlotTable → List Value → NumberOp → Action
number_asked m f slots registers (number.Arithmetic kind written first second) = Local
number_asked m f slots registers (number.Resize kind written o to) = Local
number_asked m f slots registers (number.Compare kind written first second) = if compares_outside m f slots registers written first second then Foreign 1 else Local
number_asked m f slots registers (number.Float x) = Foreign (float_bits m x)

-- an operation on numbers
abbrev pub number_action : Module → Function → SlotTable → List Value → NumberOp → Action
number_action m f slots registers x = only_if (gives_number m f slots registers x) (number_asked m f slots registers x)

-- a select
abbrev pub choice_action : Module → Function → SlotTable → List Value → Choice → Action
choice_action m f slots registers x =
    only_if (is_condition m f slots registers x.condition_type x.condition && may_select m f slots registers x.written x.chosen x.other) Local

-- a store outside is of a number or of an address outside
abbrev pub stores_outside : Module → Function → SlotTable → List Value → (stored : ℕ) → Operand → Bool
stores_outside m f slots registers stored v = is_usable m f slots registers stored v && is_number (value_of m registers stored v)

-- how many elements a buffer has is a number
abbrev pub is_count : Module → Function → SlotTable → List Value → Option Argument → Bool
is_count m f slots registers None = true
is_count m f slots registers (Some count) = is_usable_number m f slots registers count.written count.operand

-- an operation on memory; what is read outside is from outside, and what is stored there changes nothing here
abbrev pub memory_action : LaidOut → Function → SlotTable → List Value → MemoryOp → Action
memory_action p f slots registers (memory.Alloca held) = Local
memory_action p f slots registers (memory.Buffer held count) = only_if (p.of_module.wide && is_count p.of_module f slots registers count) Local
memory_action p f slots registers (memory.Load loaded place_type place) =
    if is_usable_outside p.of_module f slots registers place_type place then asked_given (slice_get p.of_module.types loaded)
    else load_action p slots loaded (slot_at_place p.of_module f slots place_type place) (address_at_place p.of_module f slots registers place_type place)
memory_action p f slots registers (memory.Store stored v place_type place) =
    if is_usable_outside p.of_module f slots registers place_type place then only_if (stores_outside p.of_module f slots registers stored v) Local
    else store_action p slots stored (is_usable p.of_module f slots registers stored v) (value_of p.of_module registers stored v)
    (slot_at_place p.of_module f slots place_type place) (address_at_place p.of_module f slots registers place_type place)

-- a call
abbrev pub action_of_call : LaidOut → Function → SlotTable → List Value → Call → Action
action_of_call p f slots registers x =
    call_action p f slots registers x.returned x.arguments (declare_of p.of_module x.callee) (function_numbered p.of_module (number_called p.of_module x.callee)) (runtime_called p.of_module x.callee)

-- what an instruction of a body asks for
abbrev pub op_action : LaidOut → Function → SlotTable → List Value → Op → Action
op_action p f slots registers (op.Number x) = number_action p.of_module f slots registers x
op_action p f slots registers (op.Memory x) = memory_action p f slots registers x
op_action p f slots registers (op.Element x) = element_action p f slots registers x
op_action p f slots registers (op.Cast x) = cast_action p f slots registers x
op_action p f slots registers (op.Choice x) = choice_action p.of_module f slots registers x
op_action p f slots registers (op.Call x) = action_of_call p f slots registers x
