-- The fields of struct types, and jumps over them.
use Rattle.std.specs.Prelude.{◌≡◌, ℕ, zero, suc, List, Option, Some, None, slice_get}
use Rattle.ir_ast.specs.declared.ir_type.IrType.{IrType}
use Rattle.ir_ast.specs.declared.ir_type.IrType.TheVariants.{Struct}
use Rattle.ir_ast.specs.declared.jump.Jump.{Jump}

-- the struct of the fields after the first one
abbrev pub rest_of : Option IrType → Option ℕ
rest_of (Some (Struct first rest)) = Some rest
rest_of _ = None

-- the struct of the fields after the first n of a struct type, if it has as many
abbrev pub after_fields : List IrType → Option ℕ → (n : ℕ) → Option ℕ
after_fields types written zero = written
after_fields types None (suc n) = None
after_fields types (Some written) (suc n) = after_fields types (rest_of (slice_get types written)) n

-- a jump from this type leads over as many of its fields as it says
abbrev pub IsJump : List IrType → (written : ℕ) → Jump → Type 0
IsJump types written jump = after_fields types (Some written) jump.fields ≡ Some jump.to

-- each type has a jump of its own
abbrev pub AreJumps : List IrType → List Jump → Type 0
AreJumps types jumps = (written : ℕ) (jump : Jump) → slice_get jumps written ≡ Some jump → IsJump types written jump
