-- What is taken of types: each printed type is read as a type of its shape, and is printed by its shape.
use Rattle.std.proofs.Common.{◌≡◌, ℕ, ◌≤◌, Bool, true, false, ◌++◌}
use Rattle.ir_ast.specs.declared.function.Function.{Function}
use Rattle.ir_ast.specs.declared.module.Module.{Module}
use Rattle.ir_tokens.specs.Bytes.{Text}
use Rattle.ir_forms.specs.declared.input.Input.{Input}
use Rattle.ir_forms.specs.declared.written.WrittenType.{WrittenType}
use Rattle.ir_forms.specs.Input.{Form}
use Rattle.ir_forms.specs.Cursor.{kind}
use Rattle.ir_forms.specs.Place.{Place}
use Rattle.ir_forms.specs.Written.{begins_type, any_type, passed_type, held_type, struct_body}
use Rattle.ir_print_law.specs.Stands.{Stands, IsSeam, AreBlanks}
use Rattle.ir_print.specs.Types.{type_text}
use Rattle.ir_print_law.specs.Parts.{IsType}
use Rattle.ir_print_law.specs.Shapes.{Shape, HasShape, levels, is_passed_shape, is_held_shape, is_struct_shape}
use Rattle.ir_print_law.proofs.State.{Invariant, Ready, Reads}
use Rattle.ir_print_law.proofs.Shown.{shown, IsTypeRead}
use Rattle.ir_print_law.proofs.Types.{EndsType}

-- a printed type whose shape is one of these is read as a type of that shape
abbrev pub ReadsType : {m : Module} {f : Function} (v : Invariant m f) → Form WrittenType → (may_be : Shape → Bool) → Type 0
ReadsType {m = m} v form may_be =
    (shape : Shape) (written : ℕ) (i : Input) (gap rest : Text) (s : ℕ) → IsType m shape written → may_be shape ≡ true → AreBlanks gap → EndsType rest
    → Ready v s i (gap ++ (type_text m written ++ rest)) → Reads v s form i rest (IsTypeRead shape 64)

abbrev pub any_shape : Shape → Bool
any_shape shape = true

-- the fields of a struct are read as a struct
abbrev pub ReadsBody : {m : Module} {f : Function} (v : Invariant m f) → Type 0
ReadsBody {m = m} v =
    (shape : Shape) (written : ℕ) (i : Input) (gap rest : Text) (s : ℕ) → IsType m shape written → is_struct_shape shape ≡ true → AreBlanks gap
    → Ready v s i (gap ++ (type_text m written ++ rest)) → Reads v s struct_body i rest (λ w o. HasShape o.types o.struct_names.names shape w)

pub record TypesRead (m : Module) : Type 1 where
  pub types_shown : (n : Module) (shape : Shape) (written : ℕ) → HasShape n.types n.struct_names shape written → levels shape ≤ 64 → type_text n written ≡ shown false shape
  pub any : {f : Function} (v : Invariant m f) → ReadsType v any_type any_shape
  pub passed : {f : Function} (v : Invariant m f) → ReadsType v passed_type is_passed_shape
  pub held : {f : Function} (v : Invariant m f) → ReadsType v held_type is_held_shape
  pub struct_body_read : {f : Function} (v : Invariant m f) → ReadsBody v
  pub type_comes : (shape : Shape) (written : ℕ) (place : Place) (gap rest : Text) → IsType m shape written → AreBlanks gap → IsSeam rest → Stands place (gap ++ (type_text m written ++ rest))
      → begins_type (kind place) ≡ true
