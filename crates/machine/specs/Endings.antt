-- How a thread ends, by the instruction at which it asks to end.
use Rattle.std.specs.Prelude.{List, [], ◌∷◌, Option, Some, None, slice_get}
use Rattle.ir_ast.specs.declared.ends.End.{End as AnEnd}
use Rattle.ir_ast.specs.declared.ends.End.TheVariants as end
use Rattle.ir_ast.specs.declared.function.Function.{Function}
use Rattle.ir_ast.specs.declared.instr.Instr.{Instr}
use Rattle.ir_ast.specs.declared.module.Module.{Module}
use Rattle.layout.specs.Layouts.{LaidOut}
use Rattle.machine.specs.declared.ending.Ending.{Ending}
use Rattle.machine.specs.declared.ending.Ending.TheVariants.{Returned, Over}
use Rattle.machine.specs.declared.frame.Frame.{Frame}
use Rattle.machine.specs.declared.value.Value.{Value}
use Rattle.machine.specs.Machine.{State, result_of, instr_at, end_at}

-- by the end of its block: a return, with its result if it has one, or another end
abbrev pub ending_by : Module → List Value → AnEnd → Ending
ending_by m registers end.ReturnVoid = Returned None
ending_by m registers (end.Return argument) = Returned (Some (result_of m registers (end.Return argument)))
ending_by m registers _ = Over

-- of the end, if there is one
abbrev pub ending_of : Module → Frame → Option AnEnd → Ending
ending_of m frame None = Over
ending_of m frame (Some x) = ending_by m frame.registers x

-- at an instruction, or where there is none at the end of the block
abbrev pub ending_at : Module → Function → Frame → Option Instr → Ending
ending_at m f frame None = ending_of m frame (end_at f frame)
ending_at m f frame (Some instr) = Over

-- of a frame of this function
abbrev pub ending_in : Module → Frame → Option Function → Ending
ending_in m frame None = Over
ending_in m frame (Some f) = ending_at m f frame (instr_at f frame)

-- of a thread. Above other frames no return ends it
abbrev pub ending : LaidOut → State → Ending
ending p s = frames_ending s.frames
  where
    frames_ending : List Frame → Ending
    frames_ending [] = Over
    frames_ending (frame ∷ []) = ending_in p.of_module frame (slice_get p.of_module.functions frame.function)
    frames_ending (frame ∷ (other ∷ below)) = Over
