-- The roots of a thread's frames.
use Rattle.std.proofs.Common.{◌≡◌, ◌<◌, ◌+◌, ◌++◌, ℕ, List, [], ◌∷◌, length, get_or, take, reverse, refl, ap, ◌∙◌}
use Rattle.std.specs.Prelude.{Option, None, Some, slice_get}
use Rattle.std.proofs.lemmas.List.{take_more, reverse-append}
use Rattle.ir_ast.specs.declared.function.Function.{Function}
use Rattle.ir_ast.specs.declared.module.Module.{Module}
use Rattle.machine.specs.declared.frame.Frame.{Frame}
use Rattle.machine.specs.declared.value.Value.{Value}
use Rattle.machine.specs.Machine.{frame_roots, roots_of}

-- registers are no roots
pub same_roots : (m : Module) (frame : Frame) (registers : List Value) (f : Option Function) → frame_roots m (record frame { registers = registers }) f ≡ frame_roots m frame f
same_roots m frame registers None = refl
same_roots m frame registers (Some f) = refl

-- with one frame more, its roots come last
pub roots_more : (m : Module) (frames : List Frame) (i : ℕ) (d : Frame) → i < length frames
    → roots_of m (reverse (take (i + 1) frames)) ≡ roots_of m (reverse (take i frames)) ++ frame_roots m (get_or frames i d) (slice_get m.functions (get_or frames i d).function)
roots_more m frames i d within =
    ap (λ l. roots_of m (reverse l)) (take_more frames i d within)
    ∙ ap (roots_of m) (reverse-append (take i frames) (get_or frames i d ∷ []))
