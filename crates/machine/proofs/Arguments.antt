-- The arguments that a function may be started or called with.
use Rattle.std.proofs.Common.{◌≡◌, ◌≢◌, ◌&&◌, false, ℕ, suc, List, [], ◌∷◌, length, refl, ap, ◌∙◌}
use Rattle.std.proofs.Math.Bool.{and-false}
use Rattle.ir_ast.specs.declared.function.Parameter.{Parameter}
use Rattle.ir_ast.specs.declared.module.Module.{Module}
use Rattle.machine.specs.declared.value.Value.{Value}
use Rattle.machine.specs.Machine.{with_arguments}
use Rattle.machine.specs.Start.{argument_fits, arguments_fit}

-- arguments of another number than the parameters fit none
pub other_number : (m : Module) (parameters : List Parameter) (arguments : List ℕ) → length parameters ≢ length arguments → arguments_fit m parameters arguments ≡ false
other_number m [] [] other = absurd (other refl)
other_number m [] (argument ∷ arguments) other = refl
other_number m (parameter ∷ parameters) [] other = refl
other_number m (parameter ∷ parameters) (argument ∷ arguments) other =
    ap (λ b. argument_fits m parameter argument && b) (other_number m parameters arguments (λ e. other (ap (λ n. suc n) e)))
    ∙ and-false (argument_fits m parameter argument)

-- no parameter is left
pub no_parameter : (parameters : List Parameter) (arguments registers : List Value) → length parameters ≡ 0 → with_arguments parameters arguments registers ≡ registers
no_parameter [] [] registers e = refl
no_parameter [] (argument ∷ arguments) registers e = refl
no_parameter (parameter ∷ parameters) arguments registers e = absurd cc

-- no argument is left
pub no_argument : (parameters : List Parameter) (arguments registers : List Value) → length arguments ≡ 0 → with_arguments parameters arguments registers ≡ registers
no_argument [] [] registers e = refl
no_argument (parameter ∷ parameters) [] registers e = refl
no_argument parameters (argument ∷ arguments) registers e = absurd cc
