-- What a thread holds after an answer that fits what it asked for: it fits the heap.
use Rattle.std.proofs.Common.{ℕ, List, [], ◌∷◌, length, true, false, Bool, Option, Some, None, slice_get, slice_set, inl, inr}
use Rattle.std.specs.Prelude.{◌⊎◌, if◌then◌else◌}
use Rattle.ir_ast.specs.declared.argument.Argument.{Argument}
use Rattle.ir_ast.specs.declared.choices.Phi.{Phi}
use Rattle.ir_ast.specs.declared.ends.End.{End as AnEnd}
use Rattle.ir_ast.specs.declared.ends.End.TheVariants as end
use Rattle.ir_ast.specs.declared.function.Function.{Function}
use Rattle.ir_ast.specs.declared.instr.Instr.{Instr}
use Rattle.ir_ast.specs.declared.float_function.FloatFunction.{FloatFunction}
use Rattle.ir_ast.specs.declared.ir_type.IrType.{IrType}
use Rattle.ir_ast.specs.declared.items_of_module.Declare.{Declare}
use Rattle.ir_ast.specs.declared.memory.MemoryOp.{MemoryOp}
use Rattle.ir_ast.specs.declared.memory.MemoryOp.TheVariants as memory
use Rattle.ir_ast.specs.declared.module.Module.{Module}
use Rattle.ir_ast.specs.declared.numbers.NumberOp.{NumberOp}
use Rattle.ir_ast.specs.declared.numbers.NumberOp.TheVariants as number
use Rattle.ir_ast.specs.declared.op.Op.{Op}
use Rattle.ir_ast.specs.declared.op.Op.TheVariants as op
use Rattle.ir_ast.specs.declared.operand.Operand.{Operand}
use Rattle.ir_ast.specs.declared.runtime.Runtime.{Runtime}
use Rattle.ir_ast.specs.declared.runtime.Runtime.TheVariants as runtime
use Rattle.pools.specs.Heap.{Setup}
use Rattle.layout.specs.Layouts.{LaidOut}
use Rattle.types.specs.LayoutNumbers.{layout_meant}
use Rattle.types.specs.RuntimeCall.{runtime_called}
use Rattle.shadow_stack.specs.Slots.{SlotTable, slots_of, operand_slot}
use Rattle.machine.specs.declared.action.Action.TheVariants.{Local, Foreign, Wrong}
use Rattle.machine.specs.declared.answer.Answer.{Answer}
use Rattle.machine.specs.declared.frame.Frame.{Frame}
use Rattle.machine.specs.declared.value.Pointee.{Pointee}
use Rattle.machine.specs.declared.value.Value.{Value}
use Rattle.machine.specs.declared.value.Value.TheVariants as value
use Rattle.machine.specs.Asks.{read_action, load_action, gcread_action, alloc_of, alloc_action, defined_action, asked_given, asked_outside, outside_action, float_action, compares_outside, gives_number, number_asked, number_action, call_action, declare_of, function_numbered, number_called, target_at, edge_of, memory_action, op_action}
use Rattle.machine.specs.Elements.{element_offset}
use Rattle.machine.specs.Jumps.{entry_for, entry_value, phi_value, phis_of, put_register, put_phis}
use Rattle.machine.specs.Kinds.{is_integer, is_void, is_pointer_type, bits_of, register_at, bits_at, outside_address, value_of, is_usable_outside, slot_at_place, address_at_place}
use Rattle.machine.specs.Machine.{State, entry_frame, has_room, with_room, function_called, instr_at, end_at, step_action, frame_action, action, slot_value, set_register, set_slot, cast_from, read_at, loaded_from, alloc_value, layout_of_call, place_of_call, integers_value, given_value, after_call, comparison_value, number_value, choice_value, element_address, load_value, after_memory, after_op, go_on, enter_block, values_of, called_with, frames_called, result_of, frames_returned, after_instr, after_end, after_last, after_step, after_frame, after_answer}
use Rattle.program_runner.specs.Kinds.{FitsHeap, FrameFits, FramesFit, IsHeapWith}
use Rattle.program_runner.specs.Values.{PlaceFits, computed_below, function_value_below, resized_below, compared_fits, selected_fits, one_more_fits, outside_address_fits, value_fits, address_from_fits}
use Rattle.program_runner.specs.Given.{GivesNothing, FitsAsked, nothing_at, nothing_claimed, nothing_given, only_gives, read_fits}
use Rattle.program_runner.specs.Asks.{operand_fits, place_fits}
use Rattle.program_runner.specs.Begun.{AllFit, entry_fits}

module _ (s : Setup) where
  -- ---- registers and slots

  -- the values of registers fit
  abbrev Registers : List Value → Type 0
  Registers registers = (name : ℕ) → FitsHeap s (register_at registers name)

  -- one more among them
  registers_fit : (name : ℕ) (v : Value) (registers : List Value) → FitsHeap s v → Registers registers → Registers (slice_set registers name v)
  registers_fit name v registers new all = λ other. one_more_fits s registers name other v new (all other)

  -- and where there may be no name
  put_fits : (name : Option ℕ) (v : Value) (registers : List Value) → FitsHeap s v → Registers registers → Registers (put_register name v registers)
  put_fits None v registers new all = all
  put_fits (Some name) v registers new all = registers_fit name v registers new all

  -- a frame with a value for a name
  register_fits : (name : Option ℕ) (v : Value) (frame : Frame) → FitsHeap s v → FrameFits s frame → FrameFits s (set_register name v frame)
  register_fits name v frame new fits = record { registers = put_fits name v frame.registers new fits.registers; slots = fits.slots }

  -- and with one in a slot
  slot_fits : (slot : Option ℕ) (v : Value) (frame : Frame) → FitsHeap s v → FrameFits s frame → FrameFits s (set_slot slot v frame)
  slot_fits None v frame new fits = fits
  slot_fits (Some slot) v frame new fits = record { registers = fits.registers; slots = λ other. one_more_fits s frame.slots slot other v new (fits.slots other) }

  -- and after a bitcast
  cast_fits : (name : Option ℕ) (v : Value) (slot : Option ℕ) (frame : Frame) → FitsHeap s v → FrameFits s frame → FrameFits s (cast_from name v slot frame)
  cast_fits name v None frame new fits = register_fits name v frame new fits
  cast_fits name v (Some slot) frame new fits = fits

  -- at the next place the same is held
  moved_on : (frame : Frame) → FrameFits s frame → FrameFits s (go_on frame)
  moved_on frame fits = record { registers = fits.registers; slots = fits.slots }

  -- ---- phis

  -- the value of an entry
  entry_holds : (m : Module) (registers : List Value) → Registers registers → (written : ℕ) (o : Option Operand) → FitsHeap s (entry_value m registers written o)
  entry_holds m registers all written None = tt
  entry_holds m registers all written (Some o) = value_fits s m registers all written o

  -- and of a phi
  phi_fits : (m : Module) (f : Function) (registers : List Value) → Registers registers → (from : ℕ) (phi : Phi) → FitsHeap s (phi_value m f registers from phi)
  phi_fits m f registers all from phi = entry_holds m registers all phi.written (entry_for f from phi.incoming)

  -- each phi takes one
  phis_fit : (m : Module) (f : Function) (before : List Value) → Registers before → (from : ℕ) (phis : List Phi) (registers : List Value) → Registers registers → Registers (put_phis m f before from phis registers)
  phis_fit m f before all from [] registers some = some
  phis_fit m f before all from (phi ∷ phis) registers some =
      phis_fit m f before all from phis (slice_set registers phi.value (phi_value m f before from phi)) (registers_fit phi.value (phi_value m f before from phi) registers (phi_fits m f before all from phi) some)

  -- the frame in the block to which it goes on
  block_fits : (m : Module) (f : Function) (target : Option ℕ) (frame : Frame) → FrameFits s frame → FrameFits s (enter_block m f target frame)
  block_fits m f None frame fits = fits
  block_fits m f (Some block) frame fits = record {
    registers = phis_fit m f frame.registers fits.registers frame.block (phis_of (slice_get f.blocks block)) frame.registers fits.registers;
    slots = fits.slots;
  }

  module _ (p : LaidOut) (heap : IsHeapWith s p) where
    -- ---- instructions

    -- what a load gives
    load_fits : (slots : SlotTable) (held : List Value) → ((slot : ℕ) → FitsHeap s (slot_value held slot)) → (loaded : ℕ) (slot : Option ℕ) (address : Option Pointee) (given : Answer) → PlaceFits s address
        → FitsAsked s (load_action p slots loaded slot address) given → FitsHeap s (loaded_from p held slot address given)
    load_fits slots held all loaded (Some slot) address given of h = all slot
    load_fits slots held all loaded None address given of h = read_fits s p heap loaded address given of h

    -- what an alloc gives
    claimed_fits : (returned : ℕ) (arguments : List Argument) (given : Answer) → FitsAsked s (alloc_action p.of_module returned arguments) given → FitsHeap s (alloc_value (layout_of_call p.of_module arguments) given)
    claimed_fits returned [] given h = nothing_claimed s None given h
    claimed_fits returned (argument ∷ []) given h = by (only_gives s _ (alloc_of (layout_meant p.of_module argument.operand)) given h) where
      of_layout : (layout : Option ℕ) → FitsAsked s (alloc_of layout) given → FitsHeap s (alloc_value layout given)
      of_layout None g = nothing_claimed s None given g
      of_layout (Some layout) g = g

      by : FitsAsked s (alloc_of (layout_meant p.of_module argument.operand)) given ⊎ GivesNothing given → FitsHeap s (alloc_value (layout_meant p.of_module argument.operand) given)
      by (inl g) = of_layout (layout_meant p.of_module argument.operand) g
      by (inr g) = nothing_claimed s (layout_meant p.of_module argument.operand) given g
    claimed_fits returned (argument ∷ (other ∷ arguments)) given h = nothing_claimed s (layout_meant p.of_module argument.operand) given h

    module _ (f : Function) (frame : Frame) (fits : FrameFits s frame) where
      -- the slots of the function
      abbrev slots : SlotTable
      slots = slots_of p.of_module f

      -- what a gcread gives
      gcread_fits : (returned : ℕ) (arguments : List Argument) (given : Answer) → FitsAsked s (gcread_action p f slots frame.registers returned arguments) given
          → FitsHeap s (read_at p (place_of_call p.of_module f slots frame.registers arguments) given)
      gcread_fits returned [] given h = tt
      gcread_fits returned (object ∷ []) given h = tt
      gcread_fits returned (object ∷ (place ∷ [])) given h =
          by (only_gives s _ (read_action p returned (address_at_place p.of_module f slots frame.registers place.written place.operand)) given h) where
            by : FitsAsked s (read_action p returned (address_at_place p.of_module f slots frame.registers place.written place.operand)) given ⊎ GivesNothing given
                → FitsHeap s (read_at p (address_at_place p.of_module f slots frame.registers place.written place.operand) given)
            by (inl g) = read_fits s p heap returned (address_at_place p.of_module f slots frame.registers place.written place.operand) given (place_fits s p heap f slots frame.registers fits.registers place.written place.operand) g
            by (inr g) = nothing_at s p (address_at_place p.of_module f slots frame.registers place.written place.operand) given g
      gcread_fits returned (object ∷ (place ∷ (other ∷ arguments))) given h = nothing_at s p (address_at_place p.of_module f slots frame.registers place.written place.operand) given h

      -- what a call of a defined function gives at once
      defined_fits : (returned : ℕ) (arguments : List Argument) (callee : Option Function) (given : Answer) → FitsAsked s (defined_action p.of_module f slots frame.registers returned arguments callee) given → FitsHeap s (given_value given)
      defined_fits returned arguments None given h = nothing_given s given h
      defined_fits returned arguments (Some callee) given h = by (only_gives s _ Local given h) where
        by : GivesNothing given ⊎ GivesNothing given → FitsHeap s (given_value given)
        by (inl g) = nothing_given s given g
        by (inr g) = nothing_given s given g

      -- a number from outside, by the type that is asked for
      type_fits : (type : Option IrType) (given : Answer) → FitsAsked s (asked_given type) given → FitsHeap s (given_value given)
      type_fits type given g = by (is_integer type) (is_pointer_type type) g where
        by : (integer pointer : Bool) → FitsAsked s (if integer then Foreign (bits_of type) else (if pointer then Foreign 64 else Wrong)) given → FitsHeap s (given_value given)
        by true pointer g = g
        by false true g = g
        by false false g = nothing_given s given g

      -- and by the number of the type of a function's result
      asked_fits : (returned : ℕ) (given : Answer) → FitsAsked s (asked_outside (slice_get p.of_module.types returned)) given ⊎ GivesNothing given → FitsHeap s (given_value given)
      asked_fits returned given (inl g) = let type = slice_get p.of_module.types returned in by type (is_void type) g where
        by : (type : Option IrType) (nothing : Bool) → FitsAsked s (if nothing then Local else asked_given type) given → FitsHeap s (given_value given)
        by type true g = nothing_given s given g
        by type false g = type_fits type given g
      asked_fits returned given (inr g) = nothing_given s given g

      -- what a call of a function outside gives
      outside_fits : (returned : ℕ) (arguments : List Argument) (declare : Option Declare) (callee : Option Function) (given : Answer) → FitsAsked s (outside_action p.of_module f slots frame.registers returned arguments declare callee) given
          → FitsHeap s (given_value given)
      outside_fits returned arguments None callee given h = defined_fits returned arguments callee given h
      outside_fits returned arguments (Some d) callee given h = asked_fits returned given (only_gives s _ (asked_outside (slice_get p.of_module.types returned)) given h)

      -- and one of a function of floating point numbers
      float_fits : (function : FloatFunction) (bits returned : ℕ) (arguments : List Argument) (given : Answer)
          → FitsAsked s (float_action p.of_module f slots frame.registers function bits returned arguments) given ⊎ GivesNothing given → FitsHeap s (given_value given)
      float_fits function bits returned arguments given (inl g) = asked_fits returned given (only_gives s _ (asked_outside (slice_get p.of_module.types returned)) given g)
      float_fits function bits returned arguments given (inr g) = nothing_given s given g

      -- the frame after a call that is of no defined function
      call_fits : (name : Option ℕ) (returned : ℕ) (arguments : List Argument) (declare : Option Declare) (callee : Option Function) (called : Option Runtime) (given : Answer)
          → FitsAsked s (call_action p f slots frame.registers returned arguments declare callee called) given → FrameFits s (after_call p f slots name arguments called given frame)
      call_fits name returned arguments declare callee (Some runtime.Alloc) given h =
          register_fits name (alloc_value (layout_of_call p.of_module arguments) given) frame (by (only_gives s _ (alloc_action p.of_module returned arguments) given h)) fits where
            by : FitsAsked s (alloc_action p.of_module returned arguments) given ⊎ GivesNothing given → FitsHeap s (alloc_value (layout_of_call p.of_module arguments) given)
            by (inl g) = claimed_fits returned arguments given g
            by (inr g) = nothing_claimed s (layout_of_call p.of_module arguments) given g
      call_fits name returned arguments declare callee (Some runtime.GcRoot) given h = slot_fits _ value.Null frame tt fits
      call_fits name returned arguments declare callee (Some runtime.GcRead) given h =
          register_fits name (read_at p (place_of_call p.of_module f slots frame.registers arguments) given) frame (by (only_gives s _ (gcread_action p f slots frame.registers returned arguments) given h)) fits where
            by : FitsAsked s (gcread_action p f slots frame.registers returned arguments) given ⊎ GivesNothing given → FitsHeap s (read_at p (place_of_call p.of_module f slots frame.registers arguments) given)
            by (inl g) = gcread_fits returned arguments given g
            by (inr g) = nothing_at s p (place_of_call p.of_module f slots frame.registers arguments) given g
      call_fits name returned arguments declare callee (Some runtime.GcWrite) given h = fits
      call_fits name returned arguments declare callee (Some runtime.Safepoint) given h = fits
      call_fits name returned arguments declare callee (Some (runtime.Integer function bits)) given h =
          register_fits name (integers_value p.of_module frame.registers function bits arguments) frame (function_value_below function bits _ _ _) fits
      call_fits name returned arguments declare callee (Some (runtime.Float function bits)) given h =
          register_fits name (given_value given) frame
          (float_fits function bits returned arguments given (only_gives s _ (float_action p.of_module f slots frame.registers function bits returned arguments) given h)) fits
      call_fits name returned arguments declare callee None given h = register_fits name (given_value given) frame (outside_fits returned arguments declare callee given h) fits

      -- the value of an operand fits
      abbrev operand : (written : ℕ) (o : Operand) → FitsHeap s (value_of p.of_module frame.registers written o)
      operand written o = operand_fits s p heap f slots frame.registers fits.registers written o

      -- what an operation on numbers gives, where what it asks for is given, or nothing
      computed_fits : (x : NumberOp) (given : Answer) → FitsAsked s (number_asked p.of_module f slots frame.registers x) given ⊎ GivesNothing given → FitsHeap s (number_value p.of_module f slots frame.registers x given)
      computed_fits (number.Arithmetic k written first second) given h = computed_below k (bits_at p.of_module written) _ _
      computed_fits (number.Resize k written o to) given h = resized_below k (bits_at p.of_module written) (bits_at p.of_module to) _
      computed_fits (number.Compare k written first second) given h = by (compares_outside p.of_module f slots frame.registers written first second) h where
        bits : ℕ
        bits = bits_at p.of_module written

        one : Value
        one = value_of p.of_module frame.registers written first

        other : Value
        other = value_of p.of_module frame.registers written second

        by : (outside : Bool) → FitsAsked s (if outside then Foreign 1 else Local) given ⊎ GivesNothing given → FitsHeap s (comparison_value outside k bits one other given)
        by true (inl g) = g
        by true (inr g) = nothing_given s given g
        by false g = compared_fits s k bits one other
      computed_fits (number.Float x) given (inl g) = g
      computed_fits (number.Float x) given (inr g) = nothing_given s given g

      -- so what it gives
      number_fits : (x : NumberOp) (given : Answer) → FitsAsked s (number_action p.of_module f slots frame.registers x) given → FitsHeap s (number_value p.of_module f slots frame.registers x given)
      number_fits x given h = computed_fits x given (only_gives s (gives_number p.of_module f slots frame.registers x) (number_asked p.of_module f slots frame.registers x) given h)

      -- what a load gives, also from outside
      loaded_fits : (loaded place_type : ℕ) (place : Operand) (given : Answer) → FitsAsked s (memory_action p f slots frame.registers (memory.Load loaded place_type place)) given
          → FitsHeap s (load_value p f slots frame place_type place given)
      loaded_fits loaded place_type place given h = by (is_usable_outside p.of_module f slots frame.registers place_type place) h where
        slot : Option ℕ
        slot = slot_at_place p.of_module f slots place_type place

        address : Option Pointee
        address = address_at_place p.of_module f slots frame.registers place_type place

        by : (outside : Bool) → FitsAsked s (if outside then asked_given (slice_get p.of_module.types loaded) else load_action p slots loaded slot address) given
            → FitsHeap s (if outside then given_value given else loaded_from p frame.slots slot address given)
        by true g = type_fits (slice_get p.of_module.types loaded) given g
        by false g = load_fits slots frame.slots fits.slots loaded slot address given (place_fits s p heap f slots frame.registers fits.registers place_type place) g

      -- the frame after an operation on memory
      memory_fits : (name : Option ℕ) (x : MemoryOp) (given : Answer) → FitsAsked s (memory_action p f slots frame.registers x) given → FrameFits s (after_memory p f slots name x given frame)
      memory_fits name (memory.Alloca held) given h = fits
      memory_fits name (memory.Buffer held count) given h = register_fits name outside_address frame (outside_address_fits s) fits
      memory_fits name (memory.Load loaded place_type place) given h =
          register_fits name (load_value p f slots frame place_type place given) frame (loaded_fits loaded place_type place given h) fits
      memory_fits name (memory.Store written v place_type place) given h =
          slot_fits (slot_at_place p.of_module f slots place_type place) (value_of p.of_module frame.registers written v) frame (operand written v) fits

      -- the frame after an instruction that calls no defined function
      op_fits : (name : Option ℕ) (x : Op) (given : Answer) → FitsAsked s (op_action p f slots frame.registers x) given → FrameFits s (after_op p f slots name x given frame)
      op_fits name (op.Number x) given h = register_fits name (number_value p.of_module f slots frame.registers x given) frame (number_fits x given h) fits
      op_fits name (op.Memory x) given h = memory_fits name x given h
      op_fits name (op.Element x) given h =
          register_fits name (element_address p frame.registers x) frame
          (address_from_fits s p (element_offset p frame.registers x.source x.indices) (value_of p.of_module frame.registers x.base_type x.base) (operand x.base_type x.base)) fits
      op_fits name (op.Cast x) given h = cast_fits name (value_of p.of_module frame.registers x.from x.operand) (operand_slot slots.names x.operand) frame (operand x.from x.operand) fits
      op_fits name (op.Choice x) given h =
          register_fits name (choice_value p.of_module frame.registers x) frame
          (selected_fits s (value_of p.of_module frame.registers x.condition_type x.condition) (value_of p.of_module frame.registers x.written x.chosen) (value_of p.of_module frame.registers x.written x.other)
          (operand x.written x.chosen) (operand x.written x.other)) fits
      op_fits name (op.Call x) given h =
          call_fits name x.returned x.arguments (declare_of p.of_module x.callee) (function_numbered p.of_module (number_called p.of_module x.callee)) (runtime_called p.of_module x.callee) given h

      -- ---- calls and returns

      -- the arguments of a call
      arguments_fit : (arguments : List Argument) → AllFit s (values_of p.of_module frame.registers arguments)
      arguments_fit [] = tt
      arguments_fit (argument ∷ arguments) = (operand argument.written argument.operand, arguments_fit arguments)

      -- and of an instruction, if it is one
      called_fit : (x : Op) → AllFit s (called_with p.of_module frame.registers x)
      called_fit (op.Call x) = arguments_fit x.arguments
      called_fit x = tt

      -- what a return gives
      result_fits : (x : AnEnd) → FitsHeap s (result_of p.of_module frame.registers x)
      result_fits (end.Return argument) = operand argument.written argument.operand
      result_fits x = tt

      -- the frames after a call
      entered_fit : (into : Option ℕ) (arguments : List Value) (function : ℕ) (callee : Option Function) (below : List Frame) → AllFit s arguments → FramesFit s below
          → FramesFit s (frames_called p.of_module into arguments function callee frame below)
      entered_fit into arguments function None below all others = (fits, others)
      entered_fit into arguments function (Some callee) below all others = pick (has_room (length below)) where
        pick : (b : Bool) → FramesFit s (if b then entry_frame p.of_module callee function into arguments ∷ (go_on frame ∷ below) else [])
        pick true = (entry_fits s p.of_module callee function into arguments all, (moved_on frame fits, others))
        pick false = tt

      -- and after a return
      returned_fit : (into : Option ℕ) (v : Value) (below : List Frame) → FitsHeap s v → FramesFit s below → FramesFit s (frames_returned into v below)
      returned_fit into v [] h others = tt
      returned_fit into v (caller ∷ below) h others = (register_fits into v caller h others.0, others.1)

      -- the frames after an instruction
      instr_fits : (instr : Instr) (given : Answer) (below : List Frame) (called : Option ℕ) → FitsAsked s (with_room called (length below) (op_action p f (slots_of p.of_module f) frame.registers instr.op)) given
          → FramesFit s below → FramesFit s (after_instr p f instr given frame below called)
      instr_fits instr given below None h others = (moved_on (after_op p f (slots_of p.of_module f) instr.result instr.op given frame) (op_fits instr.result instr.op given h), others)
      instr_fits instr given below (Some function) h others =
          entered_fit instr.result (called_with p.of_module frame.registers instr.op) function (slice_get p.of_module.functions function) below (called_fit instr.op) others

      -- and after the end of a block
      end_fits : (below : List Frame) (x : AnEnd) → FramesFit s below → FramesFit s (after_end p f frame below x)
      end_fits below end.Unreachable others = tt
      end_fits below end.ReturnVoid others = returned_fit frame.into (result_of p.of_module frame.registers end.ReturnVoid) below (result_fits end.ReturnVoid) others
      end_fits below (end.Return argument) others = returned_fit frame.into (result_of p.of_module frame.registers (end.Return argument)) below (result_fits (end.Return argument)) others
      end_fits below x others = (block_fits p.of_module f (target_at f (edge_of p.of_module frame.registers x)) frame fits, others)

      -- if there is one
      last_fits : (below : List Frame) (x : Option AnEnd) → FramesFit s below → FramesFit s (after_last p f frame below x)
      last_fits below None others = (fits, others)
      last_fits below (Some x) others = end_fits below x others

    -- the frames after a step
    step_fits : (f : Function) (instr : Option Instr) (given : Answer) (frame : Frame) (below : List Frame) → FrameFits s frame → FramesFit s below
        → FitsAsked s (step_action p f frame (length below) instr) given → FramesFit s (after_step p f given frame below instr)
    step_fits f None given frame below fits others h = last_fits f frame fits below (end_at f frame) others
    step_fits f (Some instr) given frame below fits others h = instr_fits f frame fits instr given below (function_called p.of_module instr.op) h others

    -- in the function of a frame, if there is one
    frame_fits : (f : Option Function) (given : Answer) (frame : Frame) (below : List Frame) → FrameFits s frame → FramesFit s below
        → FitsAsked s (frame_action p frame (length below) f) given → FramesFit s (after_frame p f given frame below)
    frame_fits None given frame below fits others h = (fits, others)
    frame_fits (Some f) given frame below fits others h = step_fits f (instr_at f frame) given frame below fits others h

    -- the state after an answer
    pub answer_fits : (state : State) (given : Answer) → FramesFit s state.frames → FitsAsked s (action p state) given → FramesFit s (after_answer p state given).frames
    answer_fits state given fits h = by state.frames fits h where
      by : (frames : List Frame) → FramesFit s frames → FitsAsked s (action p (record { frames = frames })) given → FramesFit s (after_answer p (record { frames = frames }) given).frames
      by [] all h = tt
      by (frame ∷ below) all h = frame_fits (slice_get p.of_module.functions frame.function) given frame below all.0 all.1 h
