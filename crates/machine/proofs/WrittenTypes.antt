-- Calls with another number of arguments than a function of integers takes.
use Rattle.std.proofs.Common.{◌≡◌, ◌≢◌, ◌&&◌, ℕ, false, suc, List, [], ◌∷◌, length, refl, ap, ◌∙◌}
use Rattle.std.specs.Prelude.{slice_get}
use Rattle.std.proofs.Math.Bool.{and-false}
use Rattle.ir_ast.specs.declared.argument.Argument.{Argument}
use Rattle.ir_ast.specs.declared.module.Module.{Module}
use Rattle.machine.specs.Asks.{are_of_widths, written_types}
use Rattle.machine.specs.Kinds.{is_integer_of}

-- arguments of another number than the widths are not of these widths
pub other_count : (m : Module) (widths : List ℕ) (arguments : List Argument) → length widths ≢ length arguments → are_of_widths m widths (written_types arguments) ≡ false
other_count m [] [] other = absurd (other refl)
other_count m [] (argument ∷ arguments) other = refl
other_count m (bits ∷ widths) [] other = refl
other_count m (bits ∷ widths) (argument ∷ arguments) other =
    ap (λ b. is_integer_of bits (slice_get m.types argument.written) && b) (other_count m widths arguments (λ e. other (ap (λ n. suc n) e)))
    ∙ and-false (is_integer_of bits (slice_get m.types argument.written))
