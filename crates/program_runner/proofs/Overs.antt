-- A thread that goes on says nothing of how it ends.
use Rattle.std.proofs.Common.{◌≡◌, List, [], ◌∷◌, Bool, true, false, Option, Some, None, slice_get, inl, inr, refl}
use Rattle.ir_ast.specs.declared.ends.End.{End as AnEnd}
use Rattle.ir_ast.specs.declared.ends.End.TheVariants as end
use Rattle.ir_ast.specs.declared.function.Function.{Function}
use Rattle.ir_ast.specs.declared.instr.Instr.{Instr}
use Rattle.layout.specs.Layouts.{LaidOut}
use Rattle.machine.specs.Asks.{only_if}
use Rattle.machine.specs.declared.action.Action.TheVariants.{End}
use Rattle.machine.specs.declared.ending.Ending.TheVariants.{Over}
use Rattle.machine.specs.declared.frame.Frame.{Frame}
use Rattle.machine.specs.Endings.{ending, ending_of, ending_at, ending_in}
use Rattle.machine.specs.Machine.{State, action, end_at, instr_at, last_action, step_action, frame_action}
use Rattle.program_runner.specs.Steps.{MayEnd}

-- a return that has a meaning ends the thread
may_end : (right : Bool) → MayEnd (only_if right End)
may_end true = inl refl
may_end false = inr refl

module _ (p : LaidOut) (frame : Frame) where
  -- at the end of a block
  by_end : (f : Function) (x : Option AnEnd) → (MayEnd (last_action p f frame 0 x) → ⊥) → ending_of p.of_module frame x ≡ Over
  by_end f None goes = refl
  by_end f (Some end.Unreachable) goes = refl
  by_end f (Some end.ReturnVoid) goes = absurd (goes (may_end _))
  by_end f (Some (end.Return argument)) goes = absurd (goes (may_end _))
  by_end f (Some (end.Jump label)) goes = refl
  by_end f (Some (end.Branch condition_type condition taken other)) goes = refl
  by_end f (Some (end.Switch written v otherwise cases)) goes = refl

  -- at a place of a block
  by_place : (f : Function) (instr : Option Instr) → (MayEnd (step_action p f frame 0 instr) → ⊥) → ending_at p.of_module f frame instr ≡ Over
  by_place f None goes = by_end f (end_at f frame) goes
  by_place f (Some instr) goes = refl

  -- in a function
  by_function : (f : Option Function) → (MayEnd (frame_action p frame 0 f) → ⊥) → ending_in p.of_module frame f ≡ Over
  by_function None goes = refl
  by_function (Some f) goes = by_place f (instr_at f frame) goes

-- where a thread does not ask to end
pub over : (p : LaidOut) (state : State) → (MayEnd (action p state) → ⊥) → ending p state ≡ Over
over p state goes = by state.frames goes where
  by : (frames : List Frame) → (MayEnd (action p (record { frames = frames })) → ⊥) → ending p (record { frames = frames }) ≡ Over
  by [] goes = refl
  by (frame ∷ []) goes = by_function p frame (slice_get p.of_module.functions frame.function) goes
  by (frame ∷ (other ∷ below)) goes = refl
