-- A type is printed the same where the table of types has grown.
use Rattle.std.proofs.Common.{◌≡◌, ◌<◌, ℕ, zero, suc, List, [], ◌∷◌, ◌++◌, length, slice_get, Some, refl, sym, ap, ap₂, ◌∙◌, arith}
use Rattle.std.specs.Prelude.{codes}
use Rattle.std.specs.Fmt.{decimal}
use Rattle.std.proofs.lemmas.Option.{slice_get_within}
use Rattle.ir_ast.specs.declared.function.Function.{Function}
use Rattle.ir_ast.specs.declared.ir_type.IrType.{IrType}
use Rattle.ir_ast.specs.declared.module.Module.{Module}
use Rattle.ir_ast.specs.declared.operand.Constant.{Constant}
use Rattle.ir_ast.specs.declared.operand.Constant.TheVariants as constant
use Rattle.ir_tokens.specs.Bytes.{Text}
use Rattle.ir_print.specs.Operands.{constant_text, is_bit, number_text}
use Rattle.ir_print.specs.Types.{fields_text, further_field, type_by, type_text, type_within}
use Rattle.ir_forms.specs.declared.written.FloatType.TheVariants as size
use Rattle.ir_print_law.specs.Shapes.{Shape, Integer, Float, Pointer, Array, Empty, Struct, Named, Opaque, HasShape}

-- the module with these types and these functions
abbrev pub with_types : Module → List IrType → List Function → Module
with_types m types functions = record m { types = types; functions = functions }

-- each type of the first table is at the same place in the second one
abbrev pub Stay : (types more : List IrType) → Type 0
Stay types more = (written : ℕ) (x : IrType) → slice_get types written ≡ Some x → slice_get more written ≡ Some x

module _ (m : Module) (types : List IrType) (fs : List Function) (more : Stay m.types types) where
  abbrev n : Module
  n = with_types m types fs

  -- the type with this number has a shape
  abbrev pub Has : Shape → ℕ → Type 0
  Has shape t = HasShape m.types m.struct_names shape t

  -- a type with room for this many levels, whose parts are printed the same
  part_same : (room t : ℕ) (x : IrType) → slice_get m.types t ≡ Some x → type_by (type_within room m) m (Some x) ≡ type_by (type_within room n) n (Some x) → type_within (suc room) m t ≡ type_within (suc room) n t
  unfolding type_within
  part_same room t x at same = ap (type_by (type_within room m) m) at ∙ same ∙ sym (ap (type_by (type_within room n) n) (more t x at))

  -- so it is with the further fields of a struct
  field_same : (room most other t : ℕ) (x : IrType) → slice_get m.types t ≡ Some x
      → further_field (type_within room m) (fields_text (type_within room m) m most) (Some x) ≡ further_field (type_within room n) (fields_text (type_within room n) n other) (Some x)
      → fields_text (type_within room m) m (suc most) t ≡ fields_text (type_within room n) n (suc other) t
  unfolding fields_text
  field_same room most other t x at same =
      ap (further_field (type_within room m) (fields_text (type_within room m) m most)) at ∙ same ∙ sym (ap (further_field (type_within room n) (fields_text (type_within room n) n other)) (more t x at))

  -- types are printed the same with this much room
  abbrev AreSame : (room : ℕ) → Type 0
  AreSame room = (shape : Shape) (t : ℕ) → Has shape t → type_within room m t ≡ type_within room n t

  fields_same : (room : ℕ) → AreSame room → (shape : Shape) (most other t : ℕ) → Has shape t → t < most → t < other → fields_text (type_within room m) m most t ≡ fields_text (type_within room n) n other t
  fields_same room same shape zero other t h less below = absurd (omega (arith, less))
  fields_same room same shape (suc most) zero t h less below = absurd (omega (arith, below))
  fields_same room same (Integer bits) (suc most) (suc other) t h less below = field_same room most other t _ h refl
  fields_same room same (Pointer part) (suc most) (suc other) t h less below = field_same room most other t _ h.1 refl
  fields_same room same (Array count part) (suc most) (suc other) t h less below = field_same room most other t _ h.1 refl
  fields_same room same (Float size.Single) (suc most) (suc other) t h less below = field_same room most other t _ h refl
  fields_same room same (Float size.Double) (suc most) (suc other) t h less below = field_same room most other t _ h refl
  fields_same room same Empty (suc most) (suc other) t h less below = field_same room most other t _ h refl
  fields_same room same (Struct first rest) (suc most) (suc other) t h less below =
      let before = h.3 in
      field_same room most other t _ h.2
      (ap₂ (λ (a b : Text). codes ", " ++ a ++ b) (same first h.0 h.4) (fields_same room same rest most other h.1 h.5 (omega (arith, less, before)) (omega (arith, below, before))))
  fields_same room same (Named name) (suc most) (suc other) t h less below = field_same room most other t _ h.1 refl
  fields_same room same Opaque (suc most) (suc other) t h less below = field_same room most other t _ h refl

  within_same : (room : ℕ) → AreSame room
  unfolding type_within
  within_same zero shape t h = refl
  within_same (suc room) (Integer bits) t h = part_same room t _ h refl
  within_same (suc room) (Pointer part) t h = part_same room t _ h.1 (ap (λ (x : Text). x ++ 42 ∷ []) (within_same room part h.0 h.2))
  within_same (suc room) (Array count part) t h = part_same room t _ h.1 (ap (λ (x : Text). 91 ∷ decimal count ++ codes " x " ++ x ++ 93 ∷ []) (within_same room part h.0 h.2))
  within_same (suc room) (Float size.Single) t h = part_same room t _ h refl
  within_same (suc room) (Float size.Double) t h = part_same room t _ h refl
  within_same (suc room) Empty t h = part_same room t _ h refl
  within_same (suc room) (Struct first rest) t h =
      let before = h.3 in
      let there = slice_get_within m.types t _ h.2 in
      let then = slice_get_within types t _ (more t _ h.2) in
      part_same room t _ h.2
      (ap₂ (λ (a b : Text). codes "{ " ++ a ++ b ++ codes " }") (within_same room first h.0 h.4)
      (fields_same room (within_same room) rest (length m.types) (length types) h.1 h.5 (omega (arith, before, there)) (omega (arith, before, then))))
  within_same (suc room) (Named name) t h = part_same room t _ h.1 refl
  within_same (suc room) Opaque t h = part_same room t _ h refl

  -- a type of some shape
  pub type_same : (shape : Shape) (t : ℕ) → Has shape t → type_text m t ≡ type_text n t
  type_same shape t h = within_same 64 shape t h

  -- a type without parts, as `void`
  pub plain_same : (t : ℕ) (x : IrType) → slice_get m.types t ≡ Some x → ((shown other : ℕ → Text) → type_by shown m (Some x) ≡ type_by other n (Some x)) → type_text m t ≡ type_text n t
  plain_same t x at same = part_same 63 t x at (same (type_within 63 m) (type_within 63 n))

  -- ---- constants

  -- a type of some shape is there
  there : (shape : Shape) (t : ℕ) → Has shape t → (x : IrType) × (slice_get m.types t ≡ Some x)
  there (Integer bits) t h = (_, h)
  there (Pointer part) t h = (_, h.1)
  there (Array count part) t h = (_, h.1)
  there (Float size.Single) t h = (_, h)
  there (Float size.Double) t h = (_, h)
  there Empty t h = (_, h)
  there (Struct first rest) t h = (_, h.2)
  there (Named name) t h = (_, h.1)
  there Opaque t h = (_, h)

  pub constant_same : (shape : Shape) (t : ℕ) (x : Constant) → Has shape t → constant_text m t x ≡ constant_text n t x
  constant_same shape t (constant.Number number) h =
      let type = there shape t h in
      ap (λ y. number_text (is_bit y) number) (type.1 ∙ sym (more t type.0 type.1))
  constant_same shape t (constant.Float number) h = refl
  constant_same shape t constant.Null h = refl
  constant_same shape t (constant.Truth truth) h = refl
