-- The field that is first after others.
use Rattle.std.proofs.Common.{◌≡◌, ℕ, zero, suc, Option, Some, None, refl, ◌∙◌}
use Rattle.std.specs.Prelude.{slice_get}
use Rattle.ir_ast.specs.declared.module.Module.{Module}
use Rattle.ir_ast.specs.declared.ir_type.IrType.{IrType}
use Rattle.ir_ast.specs.declared.ir_type.IrType.TheVariants.{Struct}
use Rattle.ir_ast.specs.Fields.{rest_of, after_fields}
use Rattle.types.specs.Elements.{field_in, type_at}

in_rest : (m : Module) (type : Option IrType) (n : ℕ) → field_in m type (suc n) ≡ field_in m (type_at m (rest_of type)) n
in_rest m (Some (Struct first rest)) n = refl
in_rest m _ n = refl

pub first_after : (m : Module) (written : Option ℕ) (n : ℕ) → field_in m (type_at m written) n ≡ field_in m (type_at m (after_fields m.types written n)) zero
first_after m written zero = refl
first_after m None (suc n) = refl
first_after m (Some written) (suc n) = in_rest m (slice_get m.types written) n ∙ first_after m (rest_of (slice_get m.types written)) n

-- the field after the first n is the first one of the struct that those lead to
pub field_after : (m : Module) (written n : ℕ) → field_in m (slice_get m.types written) n ≡ field_in m (type_at m (after_fields m.types (Some written) n)) zero
field_after m written n = first_after m (Some written) n
