-- The arguments of a call of a function outside.
use Rattle.std.proofs.Common.{◌≡◌, ℕ, List, [], ◌∷◌, length, refl}
use Rattle.std.specs.Prelude.{◌==◌}
use Rattle.lemmas.specs.Numbers.{suc_not_null}
use Rattle.ir_ast.specs.declared.function.Function.{Function}
use Rattle.ir_ast.specs.declared.module.Module.{Module}
use Rattle.shadow_stack.specs.Slots.{SlotTable}
use Rattle.machine.specs.declared.value.Value.{Value}
use Rattle.machine.specs.Asks.{are_outside_arguments}

-- where no argument is left there may be no parameter left
pub none_left : (m : Module) (f : Function) (slots : SlotTable) (registers : List Value) (types : List ℕ) → (length types == 0) ≡ are_outside_arguments m f slots registers types []
none_left m f slots registers [] = refl
none_left m f slots registers (type ∷ types) = suc_not_null (length types)
