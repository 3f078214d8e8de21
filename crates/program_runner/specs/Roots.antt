-- What a thread's roots name are cells of the heap.
use Rattle.std.proofs.Common.{ℕ, ◌<◌, List, [], ◌∷◌, ◌++◌, map, sym, subst, arith, Option, Some, None, slice_get, inl, inr}
use Rattle.lemmas.specs.Lists.{IsIn}
use Rattle.ir_ast.specs.declared.function.Function.{Function}
use Rattle.ir_ast.specs.declared.module.Module.{Module}
use Rattle.pools.specs.Heap.{Setup, cells}
use Rattle.shadow_stack.specs.Slots.{slots_of}
use Rattle.machine.specs.declared.frame.Frame.{Frame}
use Rattle.machine.specs.declared.value.Value.{Value}
use Rattle.machine.specs.declared.value.Value.TheVariants as value
use Rattle.machine.specs.Machine.{slot_value, frame_roots, roots_of}
use Rattle.runs.specs.Machine.{WordValue}
use Rattle.program_safety.specs.Threads.{reference_in}
use Rattle.program_runner.specs.Kinds.{FitsHeap, FrameFits, FramesFit}
use Rattle.program_runner.specs.Begun.{AllFit}

module _ (s : Setup) where
  -- values that fit, after others
  both_fit : (first second : List Value) → AllFit s first → AllFit s second → AllFit s (first ++ second)
  both_fit [] second f g = g
  both_fit (v ∷ first) second f g = (f.0, both_fit first second f.1 g)

  -- what the slots of a frame hold
  slots_fit : (frame : Frame) → FrameFits s frame → (slots : List ℕ) → AllFit s (map (slot_value frame.slots) slots)
  slots_fit frame fits [] = tt
  slots_fit frame fits (slot ∷ slots) = (fits.slots slot, slots_fit frame fits slots)

  -- the roots of a frame
  frame_fits : (m : Module) (frame : Frame) (f : Option Function) → FrameFits s frame → AllFit s (frame_roots m frame f)
  frame_fits m frame None fits = tt
  frame_fits m frame (Some f) fits = slots_fit frame fits (slots_of m f).roots

  -- the roots of frames fit
  pub roots_fit : (m : Module) (frames : List Frame) → FramesFit s frames → AllFit s (roots_of m frames)
  roots_fit m [] all = tt
  roots_fit m (frame ∷ below) all =
      both_fit (roots_of m below) (frame_roots m frame (slice_get m.functions frame.function)) (roots_fit m below all.1) (frame_fits m frame (slice_get m.functions frame.function) all.0)

  -- a value names null, or a cell of the heap
  named : (v : Value) → FitsHeap s v → (reference_in v).cell < cells s
  named value.Unset h = omega arith
  named (value.Number n) h = omega arith
  named value.Null h = omega arith
  named (value.Cell layout at) h = h.1
  named (value.Address at) h = omega arith

  -- a value that fits names a cell of the heap
  pub all_named : (values : List Value) → AllFit s values → (r : WordValue) → IsIn r (map reference_in values) → r.cell < cells s
  all_named [] all r (is) = absurd is
  all_named (v ∷ values) all r (inl same) = subst (λ (q : WordValue). q.cell < cells s) (sym same) (named v all.0)
  all_named (v ∷ values) all r (inr later) = all_named values all.1 r later
