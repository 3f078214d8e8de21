-- What a thread's frames are after an answer: none where it may end, or else the running one is changed, is below one more, or is left.
use Rattle.std.proofs.Common.{◌≡◌, ℕ, List, [], ◌∷◌, length, true, false, Bool, Option, Some, None, slice_get, inl, inr, refl}
use Rattle.std.specs.Prelude.{◌⊎◌, if◌then◌else◌}
use Rattle.ir_ast.specs.declared.calls.Call.{Call}
use Rattle.ir_ast.specs.declared.ends.End.{End as AnEnd}
use Rattle.ir_ast.specs.declared.ends.End.TheVariants as end
use Rattle.ir_ast.specs.declared.function.Function.{Function}
use Rattle.ir_ast.specs.declared.instr.Instr.{Instr}
use Rattle.ir_ast.specs.declared.items_of_module.SymbolSort.{SymbolSort}
use Rattle.ir_ast.specs.declared.items_of_module.SymbolSort.TheVariants as symbol
use Rattle.ir_ast.specs.declared.op.Op.{Op}
use Rattle.ir_ast.specs.declared.op.Op.TheVariants as op
use Rattle.layout.specs.Layouts.{LaidOut}
use Rattle.types.specs.RuntimeCall.{runtime_of_sort}
use Rattle.shadow_stack.specs.Slots.{slots_of}
use Rattle.machine.specs.declared.action.Action.{Action}
use Rattle.machine.specs.declared.action.Action.TheVariants.{Local, End, Wrong}
use Rattle.machine.specs.declared.answer.Answer.{Answer}
use Rattle.machine.specs.declared.frame.Frame.{Frame}
use Rattle.machine.specs.declared.value.Value.{Value}
use Rattle.machine.specs.Asks.{only_if, call_action, defined_action, declare_of_sort, number_of_sort, function_numbered}
use Rattle.machine.specs.Machine.{entry_frame, go_on, has_room, with_room, instr_at, end_at, last_action, step_action, frame_action, frames_called, frames_returned, result_of, called_with, after_instr, after_last, after_step, after_frame}

-- what a thread asks for at its end, or where it goes wrong
abbrev pub MayEnd : Action → Type 0
MayEnd asked = (asked ≡ End) ⊎ (asked ≡ Wrong)

-- a call for which there is no room may end the thread
no_room : (function below : ℕ) (right : Bool) → has_room below ≡ false → MayEnd (with_room (Some function) below (only_if right Local))
no_room function below true none = rw none (inl refl)
no_room function below false none = inr refl

module _ (p : LaidOut) (frame : Frame) (below : List Frame) (given : Answer) (P : List Frame → Type 0) where
  module _ (stays : (own : Frame) → P (own ∷ below)) (calls : (called caller : Frame) → P (called ∷ caller ∷ below)) (returns : (into : Option ℕ) (result : Value) → P (frames_returned into result below)) where
    -- a call of a defined function
    by_call : (f : Function) (x : Call) (into : Option ℕ) (arguments : List Value) (function : ℕ) (callee : Option Function)
        → (MayEnd (with_room (Some function) (length below) (defined_action p.of_module f (slots_of p.of_module f) frame.registers x.returned x.arguments callee)) → P [])
        → P (frames_called p.of_module into arguments function callee frame below)
    by_call f x into arguments function None over = stays frame
    by_call f x into arguments function (Some callee) over = by (has_room (length below)) refl where
      by : (room : Bool) → has_room (length below) ≡ room → P (if room then entry_frame p.of_module callee function into arguments ∷ go_on frame ∷ below else [])
      by true e = calls (entry_frame p.of_module callee function into arguments) (go_on frame)
      by false e = over (no_room function (length below) _ e)

    -- a call, by what its name is
    by_sort : (f : Function) (instr : Instr) (x : Call) (sort : Option SymbolSort)
        → (MayEnd
        (with_room (number_of_sort sort) (length below)
        (call_action p f (slots_of p.of_module f) frame.registers x.returned x.arguments (declare_of_sort p.of_module sort) (function_numbered p.of_module (number_of_sort sort)) (runtime_of_sort p.of_module sort)))
        → P [])
        → P (after_instr p f instr given frame below (number_of_sort sort))
    by_sort f instr x None over = stays _
    by_sort f instr x (Some symbol.Unknown) over = stays _
    by_sort f instr x (Some (symbol.Global g)) over = stays _
    by_sort f instr x (Some (symbol.Declared d)) over = stays _
    by_sort f instr x (Some (symbol.Defined function)) over =
        by_call f x instr.result (called_with p.of_module frame.registers instr.op) function (slice_get p.of_module.functions function) over

    -- an instruction
    by_op : (f : Function) (result : Option ℕ) (x : Op) → (let instr : Instr = record { result = result; op = x } in
        (MayEnd (step_action p f frame (length below) (Some instr)) → P []) → P (after_step p f given frame below (Some instr)))
    by_op f result (op.Call x) over = by_sort f (record { result = result; op = op.Call x }) x (slice_get p.of_module.sorts x.callee) over
    by_op f result (op.Number x) over = stays _
    by_op f result (op.Memory x) over = stays _
    by_op f result (op.Element x) over = stays _
    by_op f result (op.Cast x) over = stays _
    by_op f result (op.Choice x) over = stays _

    -- the end of a block
    by_end : (f : Function) (x : Option AnEnd) → (MayEnd (last_action p f frame (length below) x) → P []) → P (after_last p f frame below x)
    by_end f None over = stays frame
    by_end f (Some end.Unreachable) over = over (inl refl)
    by_end f (Some end.ReturnVoid) over = returns frame.into (result_of p.of_module frame.registers end.ReturnVoid)
    by_end f (Some (end.Return argument)) over = returns frame.into (result_of p.of_module frame.registers (end.Return argument))
    by_end f (Some (end.Jump label)) over = stays _
    by_end f (Some (end.Branch condition_type condition taken other)) over = stays _
    by_end f (Some (end.Switch written v otherwise cases)) over = stays _

    -- a place of a block
    by_place : (f : Function) (instr : Option Instr) → (MayEnd (step_action p f frame (length below) instr) → P []) → P (after_step p f given frame below instr)
    by_place f None over = by_end f (end_at f frame) over
    by_place f (Some instr) over = by_op f instr.result instr.op over

    -- what holds of the frames after each of these holds of those after an answer
    pub by_step : (f : Option Function) → (MayEnd (frame_action p frame (length below) f) → P []) → P (after_frame p f given frame below)
    by_step None over = stays frame
    by_step (Some f) over = by_place f (instr_at f frame) over
