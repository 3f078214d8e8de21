-- The arguments of a call.
use Rattle.std.proofs.Common.{◌≡◌, ◌≢◌, ◌&&◌, false, suc, List, [], ◌∷◌, length, refl, ap, ◌∙◌}
use Rattle.std.specs.Prelude.{◌==◌}
use Rattle.std.proofs.Math.Bool.{and-false}
use Rattle.ir_ast.specs.declared.function.Function.{Function}
use Rattle.ir_ast.specs.declared.function.Parameter.{Parameter}
use Rattle.ir_ast.specs.declared.module.Module.{Module}
use Rattle.ir_ast.specs.declared.argument.Argument.{Argument}
use Rattle.shadow_stack.specs.Slots.{SlotTable}
use Rattle.machine.specs.declared.value.Value.{Value}
use Rattle.machine.specs.Kinds.{is_usable}
use Rattle.machine.specs.Asks.{arguments_pass}

-- arguments of a call of another number than the parameters do not pass
pub other_count : (m : Module) (f : Function) (slots : SlotTable) (registers : List Value) (parameters : List Parameter) (arguments : List Argument) → length parameters ≢ length arguments
    → arguments_pass m f slots registers parameters arguments ≡ false
other_count m f slots registers [] [] other = absurd (other refl)
other_count m f slots registers [] (argument ∷ arguments) other = refl
other_count m f slots registers (parameter ∷ parameters) [] other = refl
other_count m f slots registers (parameter ∷ parameters) (argument ∷ arguments) other =
    ap (λ b. (argument.written == parameter.written) && (is_usable m f slots registers argument.written argument.operand && b))
    (other_count m f slots registers parameters arguments (λ e. other (ap (λ n. suc n) e)))
    ∙ ap (λ b. (argument.written == parameter.written) && b) (and-false (is_usable m f slots registers argument.written argument.operand))
    ∙ and-false (argument.written == parameter.written)
