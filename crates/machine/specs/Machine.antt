-- One thread: what it asks for, and its state after the answer.
use Rattle.std.specs.Prelude.{ℕ, suc, ◌+◌, ◌==◌, nat_lt, Bool, true, false, if◌then◌else◌, List, [], ◌∷◌, ◌++◌, length, map, replicate, slice_get, slice_set, unwrap_or, Option, Some, None}
use Rattle.ir_ast.specs.declared.argument.Argument.{Argument}
use Rattle.ir_ast.specs.declared.block.Block.{Block}
use Rattle.ir_ast.specs.declared.casts.Cast.{Cast}
use Rattle.ir_ast.specs.declared.choices.Choice.{Choice}
use Rattle.ir_ast.specs.declared.choices.Phi.{Phi}
use Rattle.ir_ast.specs.declared.elements.Element.{Element}
use Rattle.ir_ast.specs.declared.ends.End.{End as AnEnd}
use Rattle.ir_ast.specs.declared.ends.End.TheVariants as end
use Rattle.ir_ast.specs.declared.function.Function.{Function}
use Rattle.ir_ast.specs.declared.function.Parameter.{Parameter}
use Rattle.ir_ast.specs.declared.instr.Instr.{Instr}
use Rattle.ir_ast.specs.declared.integer_function.IntegerFunction.{IntegerFunction}
use Rattle.ir_ast.specs.declared.memory.MemoryOp.{MemoryOp}
use Rattle.ir_ast.specs.declared.memory.MemoryOp.TheVariants as memory
use Rattle.ir_ast.specs.declared.module.Module.{Module}
use Rattle.ir_ast.specs.declared.numbers.Comparison.{Comparison}
use Rattle.ir_ast.specs.declared.numbers.NumberOp.{NumberOp}
use Rattle.ir_ast.specs.declared.numbers.NumberOp.TheVariants as number
use Rattle.ir_ast.specs.declared.op.Op.{Op}
use Rattle.ir_ast.specs.declared.op.Op.TheVariants as op
use Rattle.ir_ast.specs.declared.operand.Operand.{Operand}
use Rattle.ir_ast.specs.declared.runtime.Runtime.{Runtime}
use Rattle.ir_ast.specs.declared.runtime.Runtime.TheVariants as runtime
use Rattle.pools.specs.Layouts.{kind_of_word}
use Rattle.layout.specs.Layouts.{LaidOut}
use Rattle.types.specs.LayoutNumbers.{layout_meant}
use Rattle.types.specs.RuntimeCall.{runtime_called}
use Rattle.shadow_stack.specs.Slots.{SlotTable, slots_of, operand_slot}
use Rattle.machine.specs.declared.value.Pointee.{Pointee}
use Rattle.machine.specs.declared.value.Pointee.TheVariants as place
use Rattle.machine.specs.declared.value.Value.{Value}
use Rattle.machine.specs.declared.value.Value.TheVariants as value
use Rattle.machine.specs.declared.action.Action.{Action}
use Rattle.machine.specs.declared.action.Action.TheVariants.{Local, End}
use Rattle.machine.specs.declared.answer.Answer.{Answer}
use Rattle.machine.specs.declared.answer.Answer.TheVariants as answer
use Rattle.machine.specs.declared.frame.Frame.{Frame}
use Rattle.machine.specs.Kinds.{is_integer, is_number, bits_at, number_in, outside_address, value_of, is_usable_outside, slot_at_place, address_at_place}
use Rattle.machine.specs.IntegerFunctions.{function_value}
use Rattle.machine.specs.Integers.{computed, resized, compares, compares_equal, truth}
use Rattle.machine.specs.Elements.{element_offset, element_place, address_of, global_kind, read_value}
use Rattle.machine.specs.Jumps.{put_register, phis_of, put_phis}
use Rattle.machine.specs.Asks.{number_called, compares_outside, op_action, end_action, edge_of, target_at}

-- the frames of a thread, the running one first; a thread without a frame has ended
pub record State : Type 0 where
  pub frames : List Frame

-- the value of a slot
abbrev pub slot_value : List Value → (slot : ℕ) → Value
slot_value slots slot = unwrap_or (slice_get slots slot) value.Unset

-- how many frames a thread may have
abbrev pub frame_limit : ℕ
frame_limit = 10000

-- there may be one frame more above the running one, which has this number of frames below
abbrev pub has_room : (below : ℕ) → Bool
has_room below = nat_lt (below + 1) frame_limit

-- ---- what a thread asks for

-- the instruction at a place of a block's body
abbrev pub instr_in : (place : ℕ) → Option Block → Option Instr
instr_in place None = None
instr_in place (Some block) = slice_get block.body place

-- the instruction at which a frame is; after the last one of its block's body there is none
abbrev pub instr_at : Function → Frame → Option Instr
instr_at f frame = instr_in frame.place (slice_get f.blocks frame.block)

-- the end of a block
abbrev pub end_of : Option Block → Option AnEnd
end_of None = None
end_of (Some block) = Some block.end

-- the end of the block in which a frame is
abbrev pub end_at : Function → Frame → Option AnEnd
end_at f frame = end_of (slice_get f.blocks frame.block)

-- the number of the defined function that an instruction calls, if it calls one
abbrev pub function_called : Module → Op → Option ℕ
function_called m (op.Call x) = number_called m x.callee
function_called m _ = None

-- a call for whose frame there is no room ends the thread
abbrev pub with_room : (called : Option ℕ) → (below : ℕ) → Action → Action
with_room (Some function) below Local = if has_room below then Local else End
with_room called below asked = asked

-- a return to another frame is one step
abbrev pub above_callers : AnEnd → (below : ℕ) → Action → Action
above_callers end.ReturnVoid (suc below) End = Local
above_callers (end.Return argument) (suc below) End = Local
above_callers x below asked = asked

-- what a frame asks for at the end of its block, above this number of other frames; where there is no block, the thread ends
abbrev pub last_action : LaidOut → Function → Frame → (below : ℕ) → Option AnEnd → Action
last_action p f frame below None = End
last_action p f frame below (Some x) = above_callers x below (end_action p.of_module f (slots_of p.of_module f) frame.block frame.registers x)

-- and at an instruction, or where there is none at the end of its block
abbrev pub step_action : LaidOut → Function → Frame → (below : ℕ) → Option Instr → Action
step_action p f frame below None = last_action p f frame below (end_at f frame)
step_action p f frame below (Some instr) =
    with_room (function_called p.of_module instr.op) below (op_action p f (slots_of p.of_module f) frame.registers instr.op)

-- what a frame of this function asks for above this number of other frames
abbrev pub frame_action : LaidOut → Frame → (below : ℕ) → Option Function → Action
frame_action p frame below None = End
frame_action p frame below (Some f) = step_action p f frame below (instr_at f frame)

-- what a thread asks for
abbrev pub action : LaidOut → State → Action
action p s = frames_action s.frames
  where
    frames_action : List Frame → Action
    frames_action [] = End
    frames_action (frame ∷ below) = frame_action p frame (length below) (slice_get p.of_module.functions frame.function)

-- ---- what an instruction leaves

-- a frame with a value for a name, if there is one
abbrev pub set_register : (name : Option ℕ) → Value → Frame → Frame
set_register name v frame = record frame { registers = put_register name v frame.registers }

-- a frame with a value in a slot, if there is one
abbrev pub set_slot : Option ℕ → Value → Frame → Frame
set_slot None v frame = frame
set_slot (Some slot) v frame = record frame { slots = slice_set frame.slots slot v }

-- a bitcast of a slot only gives it another name
abbrev pub cast_from : (name : Option ℕ) → Value → (slot : Option ℕ) → Frame → Frame
cast_from name v None frame = set_register name v frame
cast_from name v (Some slot) frame = frame

-- what is read at an address, by the answer
abbrev pub read_at : LaidOut → Option Pointee → Answer → Value
read_at p None given = value.Unset
read_at p (Some place.OfNull) given = value.Unset
read_at p (Some (place.Word layout at word)) given = read_value (kind_of_word p.layouts layout word) given
read_at p (Some (place.Global g)) given = read_value (global_kind p.of_module g) given

-- a number from outside, as it is given
abbrev pub given_value : Answer → Value
given_value (answer.Number n) = value.Number n
given_value given = value.Unset

-- what a load gives: what the slot holds, or what is read at the address
abbrev pub loaded_from : LaidOut → List Value → Option ℕ → Option Pointee → Answer → Value
loaded_from p slots (Some slot) address given = slot_value slots slot
loaded_from p slots None address given = read_at p address given

-- whether two references, or null, are equal: to one cell
abbrev pub are_equal : (first second : Value) → Bool
are_equal value.Null value.Null = true
are_equal (value.Cell layout at) (value.Cell other there) = at.cell == there.cell
are_equal first second = false

-- what an icmp gives: of two integers, or else of references
abbrev pub compared : Comparison → (bits : ℕ) → (first second : Value) → Value
compared kind bits (value.Number a) (value.Number b) = value.Number (truth (compares kind bits a b))
compared kind bits first second = value.Number (truth (compares_equal kind (are_equal first second)))

-- what a select gives
abbrev pub selected : (condition chosen other : Value) → Value
selected condition chosen other = if number_in condition == 0 then other else chosen

-- what an alloc of this layout gives
abbrev pub alloc_value : (layout : Option ℕ) → Answer → Value
alloc_value layout answer.Null = value.Null
alloc_value (Some layout) (answer.Cell at) = value.Cell layout at
alloc_value layout given = value.Unset

-- the layout that a call of dg_alloc numbers
abbrev pub layout_of_call : Module → List Argument → Option ℕ
layout_of_call m [] = None
layout_of_call m (argument ∷ arguments) = layout_meant m argument.operand

-- the slot that a call of gcroot names
abbrev pub root_of_call : Module → Function → SlotTable → List Argument → Option ℕ
root_of_call m f slots [] = None
root_of_call m f slots (argument ∷ arguments) = slot_at_place m f slots argument.written argument.operand

-- the address that a call of gcread names
abbrev pub place_of_call : Module → Function → SlotTable → List Value → List Argument → Option Pointee
place_of_call m f slots registers (object ∷ place ∷ arguments) = address_at_place m f slots registers place.written place.operand
place_of_call m f slots registers _ = None

-- the integer that an argument is, if there is one
abbrev pub integer_argument : Module → List Value → Option Argument → ℕ
integer_argument m registers None = 0
integer_argument m registers (Some argument) = number_in (value_of m registers argument.written argument.operand)

-- what a function of integers gives of its arguments
abbrev pub integers_value : Module → List Value → IntegerFunction → (bits : ℕ) → List Argument → Value
integers_value m registers function bits arguments =
    let taken = λ (n : ℕ). integer_argument m registers (slice_get arguments n) in
    value.Number (function_value function bits (taken 0) (taken 1) (taken 2))

-- the frame after a call
abbrev pub after_call : LaidOut → Function → SlotTable → (name : Option ℕ) → List Argument → Option Runtime → Answer → Frame → Frame
after_call p f slots name arguments (Some runtime.Alloc) given frame = set_register name (alloc_value (layout_of_call p.of_module arguments) given) frame
after_call p f slots name arguments (Some runtime.GcRoot) given frame = set_slot (root_of_call p.of_module f slots arguments) value.Null frame
after_call p f slots name arguments (Some runtime.GcRead) given frame = set_register name (read_at p (place_of_call p.of_module f slots frame.registers arguments) given) frame
after_call p f slots name arguments (Some (runtime.Integer function bits)) given frame = set_register name (integers_value p.of_module frame.registers function bits arguments) frame
after_call p f slots name arguments (Some (runtime.Float function bits)) given frame = set_register name (given_value given) frame
after_call p f slots name arguments None given frame = set_register name (given_value given) frame
after_call p f slots name arguments _ given frame = frame

-- what a comparison gives: one of addresses outside what is given from outside
abbrev pub comparison_value : (outside : Bool) → Comparison → (bits : ℕ) → (first second : Value) → Answer → Value
comparison_value outside kind bits first second given = if outside then given_value given else compared kind bits first second

-- what an operation on numbers gives: one on floating point numbers what is given from outside
abbrev pub number_value : Module → Function → SlotTable → List Value → NumberOp → Answer → Value
number_value m f slots registers (number.Arithmetic kind written first second) given =
    value.Number (computed kind (bits_at m written) (number_in (value_of m registers written first)) (number_in (value_of m registers written second)))
number_value m f slots registers (number.Resize kind from o to) given = value.Number (resized kind (bits_at m from) (bits_at m to) (number_in (value_of m registers from o)))
number_value m f slots registers (number.Compare kind written first second) given =
    comparison_value (compares_outside m f slots registers written first second) kind (bits_at m written) (value_of m registers written first) (value_of m registers written second) given
number_value m f slots registers (number.Float x) given = given_value given

-- what a select gives
abbrev pub choice_value : Module → List Value → Choice → Value
choice_value m registers x =
    selected (value_of m registers x.condition_type x.condition) (value_of m registers x.written x.chosen) (value_of m registers x.written x.other)

-- the address that a getelementptr gives; from an address outside it is one outside
abbrev pub address_from : LaidOut → (offset : Option ℕ) → (base : Value) → Value
address_from p offset base = if is_number base then base else address_of (element_place p offset base)

-- by its operands
abbrev pub element_address : LaidOut → List Value → Element → Value
element_address p registers x = address_from p (element_offset p registers x.source x.indices) (value_of p.of_module registers x.base_type x.base)

-- the frame after a bitcast
abbrev pub after_cast : LaidOut → SlotTable → (name : Option ℕ) → Cast → Frame → Frame
after_cast p slots name x frame = cast_from name (value_of p.of_module frame.registers x.from x.operand) (operand_slot slots.names x.operand) frame

-- what a load gives, by whether its place is outside
abbrev pub load_value : LaidOut → Function → SlotTable → Frame → (place_type : ℕ) → Operand → Answer → Value
load_value p f slots frame place_type place given =
    if is_usable_outside p.of_module f slots frame.registers place_type place then given_value given
    else loaded_from p frame.slots (slot_at_place p.of_module f slots place_type place) (address_at_place p.of_module f slots frame.registers place_type place) given

-- the frame after an operation on memory
abbrev pub after_memory : LaidOut → Function → SlotTable → (name : Option ℕ) → MemoryOp → Answer → Frame → Frame
after_memory p f slots name (memory.Alloca held) given frame = frame
after_memory p f slots name (memory.Buffer held count) given frame = set_register name outside_address frame
after_memory p f slots name (memory.Load loaded place_type place) given frame = set_register name (load_value p f slots frame place_type place given) frame
after_memory p f slots name (memory.Store stored v place_type place) given frame =
    set_slot (slot_at_place p.of_module f slots place_type place) (value_of p.of_module frame.registers stored v) frame

-- the frame after an instruction that calls no defined function
abbrev pub after_op : LaidOut → Function → SlotTable → (name : Option ℕ) → Op → Answer → Frame → Frame
after_op p f slots name (op.Number x) given frame = set_register name (number_value p.of_module f slots frame.registers x given) frame
after_op p f slots name (op.Memory x) given frame = after_memory p f slots name x given frame
after_op p f slots name (op.Element x) given frame = set_register name (element_address p frame.registers x) frame
after_op p f slots name (op.Cast x) given frame = after_cast p slots name x frame
after_op p f slots name (op.Choice x) given frame = set_register name (choice_value p.of_module frame.registers x) frame
after_op p f slots name (op.Call x) given frame = after_call p f slots name x.arguments (runtime_called p.of_module x.callee) given frame

-- the next place
abbrev pub go_on : Frame → Frame
go_on frame = record frame { place = frame.place + 1 }

-- a block is entered after its phis
abbrev pub enter : Module → Function → (from : ℕ) → (block : ℕ) → List Phi → Frame → Frame
enter m f from block phis frame =
    record frame { block = block; place = 0; registers = put_phis m f frame.registers from phis frame.registers }

-- the frame in the block to which its br or switch leads
abbrev pub enter_block : Module → Function → (target : Option ℕ) → Frame → Frame
enter_block m f None frame = frame
enter_block m f (Some block) frame = enter m f frame.block block (phis_of (slice_get f.blocks block)) frame

-- ---- frames that begin and end

-- a slot begins with 0 or null
abbrev pub initial : Module → (held : ℕ) → Value
initial m held = if is_integer (slice_get m.types held) then value.Number 0 else value.Null

-- registers with the arguments in those of the parameters
abbrev pub with_arguments : List Parameter → List Value → List Value → List Value
with_arguments (parameter ∷ parameters) (argument ∷ arguments) registers = with_arguments parameters arguments (slice_set registers parameter.value argument)
with_arguments parameters arguments registers = registers

-- a frame at the beginning of a function, whose result goes into this name of its caller's
abbrev pub entry_frame : Module → Function → (function : ℕ) → (into : Option ℕ) → (arguments : List Value) → Frame
entry_frame m f function into arguments = record {
  function = function;
  into = into;
  block = 0;
  place = 0;
  registers = with_arguments f.parameters arguments (replicate (length f.locals) value.Unset);
  slots = map (initial m) (slots_of m f).held;
}

-- the values of a call's arguments
abbrev pub values_of : Module → List Value → List Argument → List Value
values_of m registers arguments = map (λ argument. value_of m registers argument.written argument.operand) arguments

-- and of what an instruction calls
abbrev pub called_with : Module → List Value → Op → List Value
called_with m registers (op.Call x) = values_of m registers x.arguments
called_with m registers _ = []

-- the frames after a call: the called function's is above the caller's, which goes on at the next place; where there is no room the thread ends
abbrev pub frames_called : Module → (into : Option ℕ) → (arguments : List Value) → (function : ℕ) → (callee : Option Function) → Frame → (below : List Frame) → List Frame
frames_called m into arguments function None frame below = frame ∷ below
frames_called m into arguments function (Some callee) frame below =
    if has_room (length below) then entry_frame m callee function into arguments ∷ go_on frame ∷ below else []

-- what a return gives
abbrev pub result_of : Module → List Value → AnEnd → Value
result_of m registers (end.Return argument) = value_of m registers argument.written argument.operand
result_of m registers _ = value.Unset

-- the frames after a return: the caller's takes the result; after the last one there is none
abbrev pub frames_returned : (into : Option ℕ) → (result : Value) → (below : List Frame) → List Frame
frames_returned into result [] = []
frames_returned into result (caller ∷ below) = set_register into result caller ∷ below

-- ---- the state after an answer

-- the frames after an instruction, by the defined function that it calls, if it calls one
abbrev pub after_instr : LaidOut → Function → Instr → Answer → Frame → (below : List Frame) → (called : Option ℕ) → List Frame
after_instr p f instr given frame below None = go_on (after_op p f (slots_of p.of_module f) instr.result instr.op given frame) ∷ below
after_instr p f instr given frame below (Some function) =
    frames_called p.of_module instr.result (called_with p.of_module frame.registers instr.op) function (slice_get p.of_module.functions function) frame below

-- the frames after the end of a block: a return leaves the frame, and a br or a switch leads on
abbrev pub after_end : LaidOut → Function → Frame → (below : List Frame) → AnEnd → List Frame
after_end p f frame below end.Unreachable = []
after_end p f frame below end.ReturnVoid = frames_returned frame.into (result_of p.of_module frame.registers end.ReturnVoid) below
after_end p f frame below (end.Return argument) = frames_returned frame.into (result_of p.of_module frame.registers (end.Return argument)) below
after_end p f frame below x = enter_block p.of_module f (target_at f (edge_of p.of_module frame.registers x)) frame ∷ below

-- and where there is no block
abbrev pub after_last : LaidOut → Function → Frame → (below : List Frame) → Option AnEnd → List Frame
after_last p f frame below None = frame ∷ below
after_last p f frame below (Some x) = after_end p f frame below x

-- the frames after a step of a frame at an instruction, or where there is none at the end of its block
abbrev pub after_step : LaidOut → Function → Answer → Frame → (below : List Frame) → Option Instr → List Frame
after_step p f given frame below None = after_last p f frame below (end_at f frame)
after_step p f given frame below (Some instr) = after_instr p f instr given frame below (function_called p.of_module instr.op)

-- the frames after a step of a frame of this function
abbrev pub after_frame : LaidOut → Option Function → Answer → Frame → (below : List Frame) → List Frame
after_frame p None given frame below = frame ∷ below
after_frame p (Some f) given frame below = after_step p f given frame below (instr_at f frame)

-- the state after an answer
abbrev pub after_answer : LaidOut → State → Answer → State
after_answer p s given = record { frames = after_frames s.frames }
  where
    after_frames : List Frame → List Frame
    after_frames [] = []
    after_frames (frame ∷ below) = after_frame p (slice_get p.of_module.functions frame.function) given frame below

-- ---- the start

-- a thread is at the beginning of its function
abbrev pub start : Module → Option Function → (function : ℕ) → (arguments : List Value) → State
start m None function arguments = record { frames = [] }
start m (Some f) function arguments = record { frames = entry_frame m f function None arguments ∷ [] }

-- the frames of a thread that runs this one above others, unless it has ended
abbrev pub frames_unless : (ended : Bool) → Frame → (below : List Frame) → List Frame
frames_unless true frame below = []
frames_unless false frame below = frame ∷ below

-- ---- roots

-- the values of the gcroot slots of a frame, in the order of the gcroot calls
abbrev pub frame_roots : Module → Frame → Option Function → List Value
frame_roots m frame None = []
frame_roots m frame (Some f) = map (slot_value frame.slots) (slots_of m f).roots

-- the roots of some frames, the oldest frame first
abbrev pub roots_of : Module → List Frame → List Value
roots_of m [] = []
roots_of m (frame ∷ below) = roots_of m below ++ frame_roots m frame (slice_get m.functions frame.function)

-- the roots of a thread
abbrev pub roots : Module → State → List Value
roots m s = roots_of m s.frames

-- a thread of a program
pub record Run : Type 0 where
  pub program : LaidOut
  pub state : State
