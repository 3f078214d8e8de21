-- A type is printed as its shape is shown, and printed types are read where a type of some sort is allowed.
use Rattle.std.proofs.Common.{◌≡◌, ℕ, zero, suc, ◌<◌, ◌≤◌, Bool, true, false, not, List, [], ◌∷◌, ◌++◌, length, slice_get, Option, Some, unwrap_or, if◌then◌else◌, refl, ap, ◌∙◌, arith}
use Rattle.std.specs.Prelude.{codes}
use Rattle.std.specs.Fmt.{decimal}
use Rattle.std.proofs.lemmas.Option.{slice_get_within}
use Rattle.ir_print_law.proofs.Named.{place_name}
use Rattle.grammar.specs.Grammar.{pure, checked, ◌>>=◌, ◌>>◌}
use Rattle.ir_ast.specs.declared.function.Function.{Function}
use Rattle.ir_ast.specs.declared.ir_type.IrType.{IrType}
use Rattle.ir_ast.specs.declared.module.Module.{Module}
use Rattle.ir_tokens.specs.declared.token.Kind.TheVariants as k
use Rattle.ir_tokens.specs.Bytes.{Text}
use Rattle.ir_forms.specs.Cursor.{sees, left_out}
use Rattle.ir_forms.specs.declared.input.Input.{Input}
use Rattle.ir_forms.specs.declared.written.WrittenType.{WrittenType}
use Rattle.ir_forms.specs.declared.written.FloatType.{FloatType}
use Rattle.ir_forms.specs.declared.written.FloatType.TheVariants as size
use Rattle.ir_forms.specs.declared.written.Word.{Word}
use Rattle.ir_forms.specs.Input.{unexpected}
use Rattle.ir_forms.specs.Written as w
use Rattle.ir_forms.specs.Written.{has_opaque, is_pointer, is_scalar, is_passed, is_held}
use Rattle.name_text.specs.Names.{name_text}
use Rattle.name_text.specs.declared.blank.Blank.TheVariants as blank
use Rattle.ir_print.specs.Types.{type_text, type_within, type_by, fields_text, further_field}
use Rattle.ir_print_law.specs.Stands.{AreBlanks}
use Rattle.ir_print_law.specs.PartsAgain.{IsTypeAgain}
use Rattle.ir_print_law.specs.Definitions.{defined_structs}
use Rattle.ir_print_law.specs.Shapes.{Shape, Integer, Float, Pointer, Array, Empty, Struct, Named, Opaque, HasShape, IsWritten, levels, word_of_shape, is_scalar_shape, is_pointer_shape, is_passed_shape, is_held_shape, is_struct_shape}
use Rattle.ir_print_law.proofs.State.{Invariant, Ready, IsLater, Reads}
use Rattle.ir_print_law.proofs.Shown.{shown, IsTypeRead, shape_stays, some_level, bits_read, scalar_read, pointer_read, passed_read, held_read}
use Rattle.ir_print_law.proofs.Steps.{go_on, given, checked_then, looked}
use Rattle.ir_print_law.proofs.Types.{EndsType}
use Rattle.ir_print_law.proofs.WholeTypes.{claims, braced_reads}
use Rattle.ir_ast.specs.declared.ir_type.IrType.TheVariants as type

-- ---- a type is printed as its shape is shown

module _ (n : Module) where
  -- a type of this shape is printed so
  abbrev PartShown : Shape → Type 0
  PartShown shape = (room number : ℕ) → HasShape n.types n.struct_names shape number → levels shape ≤ room → type_within room n number ≡ shown false shape

  -- further fields are printed so
  abbrev FieldsShown : Shape → Type 0
  FieldsShown shape = (room fuel number : ℕ) → HasShape n.types n.struct_names shape number → levels shape ≤ suc room → number < fuel → fields_text (type_within room n) n fuel number ≡ shown true shape

  -- the type at this number is printed by what it is
  pub at_type : (room number : ℕ) (x : IrType) → slice_get n.types number ≡ Some x → type_within (suc room) n number ≡ type_by (type_within room n) n (Some x)
  unfolding type_within
  at_type room number x e = ap (type_by (type_within room n) n) e

  -- so are the fields
  pub at_field : (room fuel number : ℕ) (x : IrType) → slice_get n.types number ≡ Some x → fields_text (type_within room n) n (suc fuel) number ≡ further_field (type_within room n) (fields_text (type_within room n) n fuel) (Some x)
  unfolding fields_text
  at_field room fuel number x e = ap (further_field (type_within room n) (fields_text (type_within room n) n fuel)) e

  -- each type has a level
  no_level : (shape : Shape) → levels shape ≤ 0 → ⊥
  no_level shape le = let some = some_level shape in absurd (omega (arith, le, some))

  -- each type is printed as its shape is shown
  pub both_shown : (shape : Shape) → PartShown shape × FieldsShown shape
  both_shown (Integer bits) = (part_shown, fields_shown) where
    part_shown : PartShown (Integer bits)
    part_shown zero number h le = absurd (no_level (Integer bits) le)
    part_shown (suc room) number h le = at_type room number _ h

    fields_shown : FieldsShown (Integer bits)
    fields_shown room zero number h le less = absurd (omega (arith, less))
    fields_shown room (suc fuel) number h le less = at_field room fuel number _ h
  both_shown (Float size.Single) = (part_shown, fields_shown) where
    part_shown : PartShown (Float size.Single)
    part_shown zero number h le = absurd (no_level (Float size.Single) le)
    part_shown (suc room) number h le = at_type room number _ h

    fields_shown : FieldsShown (Float size.Single)
    fields_shown room zero number h le less = absurd (omega (arith, less))
    fields_shown room (suc fuel) number h le less = at_field room fuel number _ h
  both_shown (Float size.Double) = (part_shown, fields_shown) where
    part_shown : PartShown (Float size.Double)
    part_shown zero number h le = absurd (no_level (Float size.Double) le)
    part_shown (suc room) number h le = at_type room number _ h

    fields_shown : FieldsShown (Float size.Double)
    fields_shown room zero number h le less = absurd (omega (arith, less))
    fields_shown room (suc fuel) number h le less = at_field room fuel number _ h
  both_shown (Pointer shape) = (part_shown (both_shown shape).0, fields_shown) where
    part_shown : PartShown shape → PartShown (Pointer shape)
    part_shown inner zero number h le = absurd (no_level (Pointer shape) le)
    part_shown inner (suc room) number h le = at_type room number _ h.1 ∙ ap (λ (x : Text). x ++ 42 ∷ []) (inner room h.0 h.2 (omega (arith, le)))

    fields_shown : FieldsShown (Pointer shape)
    fields_shown room zero number h le less = absurd (omega (arith, less))
    fields_shown room (suc fuel) number h le less = at_field room fuel number _ h.1
  both_shown (Array count shape) = (part_shown (both_shown shape).0, fields_shown) where
    part_shown : PartShown shape → PartShown (Array count shape)
    part_shown inner zero number h le = absurd (no_level (Array count shape) le)
    part_shown inner (suc room) number h le = at_type room number _ h.1 ∙ ap (λ (x : Text). 91 ∷ decimal count ++ codes " x " ++ x ++ 93 ∷ []) (inner room h.0 h.2 (omega (arith, le)))

    fields_shown : FieldsShown (Array count shape)
    fields_shown room zero number h le less = absurd (omega (arith, less))
    fields_shown room (suc fuel) number h le less = at_field room fuel number _ h.1
  both_shown Empty = (part_shown, fields_shown) where
    part_shown : PartShown Empty
    part_shown zero number h le = absurd (no_level Empty le)
    part_shown (suc room) number h le = at_type room number _ h

    fields_shown : FieldsShown Empty
    fields_shown room zero number h le less = absurd (omega (arith, less))
    fields_shown room (suc fuel) number h le less = at_field room fuel number _ h
  both_shown (Struct first others) = (part_shown (both_shown first).0 (both_shown others).1, fields_shown (both_shown first).0 (both_shown others).1) where
    part_shown : PartShown first → FieldsShown others → PartShown (Struct first others)
    part_shown inner further zero number h le = absurd (no_level (Struct first others) le)
    part_shown inner further (suc room) number h le =
        let within : number < length n.types = slice_get_within n.types number _ h.2 in
        let before = h.3 in
        at_type room number _ h.2
        ∙ ap (λ (x : Text). codes "{ " ++ x ++ fields_text (type_within room n) n (length n.types) h.1 ++ codes " }") (inner room h.0 h.4 (omega (arith, le)))
        ∙ ap (λ (x : Text). codes "{ " ++ shown false first ++ x ++ codes " }") (further room (length n.types) h.1 h.5 (omega (arith, le)) (omega (arith, within, before)))

    fields_shown : PartShown first → FieldsShown others → FieldsShown (Struct first others)
    fields_shown inner further room zero number h le less = absurd (omega (arith, less))
    fields_shown inner further room (suc fuel) number h le less =
        let before = h.3 in
        at_field room fuel number _ h.2
        ∙ ap (λ (x : Text). codes ", " ++ x ++ fields_text (type_within room n) n fuel h.1) (inner room h.0 h.4 (omega (arith, le)))
        ∙ ap (λ (x : Text). codes ", " ++ shown false first ++ x) (further room fuel h.1 h.5 (omega (arith, le)) (omega (arith, less, before)))
  both_shown Opaque = (part_shown, fields_shown) where
    part_shown : PartShown Opaque
    part_shown zero number h le = absurd (no_level Opaque le)
    part_shown (suc room) number h le = at_type room number _ h

    fields_shown : FieldsShown Opaque
    fields_shown room zero number h le less = absurd (omega (arith, less))
    fields_shown room (suc fuel) number h le less = at_field room fuel number _ h
  both_shown (Named name) = (part_shown, fields_shown) where
    part_shown : PartShown (Named name)
    part_shown zero number h le = absurd (no_level (Named name) le)
    part_shown (suc room) number h le =
        at_type room number _ h.1 ∙ ap (λ (x : Option Text). 37 ∷ name_text blank.Kept (unwrap_or x [])) (place_name name n.struct_names h.0 h.2)

    fields_shown : FieldsShown (Named name)
    fields_shown room zero number h le less = absurd (omega (arith, less))
    fields_shown room (suc fuel) number h le less = at_field room fuel number _ h.1

  -- a type of at most 64 levels is printed as its shape is shown
  pub type_shown : (shape : Shape) (number : ℕ) → HasShape n.types n.struct_names shape number → levels shape ≤ 64 → type_text n number ≡ shown false shape
  type_shown shape number h le = (both_shown shape).0 64 number h le

-- a type that was read as one of this shape is this type again, in each module later on
pub read_again : (m : Module) (shape : Shape) (written number : ℕ) (o : Input) (n : Module) (others : List Text) → HasShape m.types m.struct_names shape written → HasShape o.types o.struct_names.names shape number
    → IsLater o n others → IsTypeAgain m n written number
read_again m shape written number o n others own read later =
    (shape, own, shape_stays o.types n.types o.struct_names.names n.struct_names shape number later.types later.structs read)

module _ {m : Module} {f : Function} (v : Invariant m f) where
  -- ---- types where they are allowed

  -- any type
  pub any_type_reads : (shape : Shape) (i : Input) (gap rest : Text) (s : ℕ) → IsWritten m.wide (has_opaque m.types) (defined_structs m) shape → levels shape ≤ 64 → AreBlanks gap → EndsType rest
      → Ready v s i (gap ++ (shown false shape ++ rest)) → Reads v s w.any_type i rest (IsTypeRead shape 64)
  unfolding w.any_type w.type_within
  any_type_reads shape i gap rest s own le blanks ends ready = (claims v shape).0 0 64 i gap rest s own (omega (arith, le)) blanks ends ready

  -- a type that passes a test
  pub type_that_reads : (may_stand : WrittenType → Bool) (shape : Shape) (i : Input) (gap rest : Text) (s : ℕ) → IsWritten m.wide (has_opaque m.types) (defined_structs m) shape → levels shape ≤ 64 → AreBlanks gap → EndsType rest
      → ((p : WrittenType) (o : Input) → IsTypeRead shape 64 p o → may_stand p ≡ true) → Ready v s i (gap ++ (shown false shape ++ rest)) → Reads v s (w.type_that may_stand 63) i rest (IsTypeRead shape 64)
  unfolding w.type_within
  type_that_reads may_stand shape i gap rest s own le blanks ends may ready =
      looked v (λ i. left_out i.cursor) (λ fault. w.type_within 63 >>= λ p. w.then_allowed may_stand p fault) i rest s (IsTypeRead shape 64) (left_out i.cursor) refl
      (go_on v (w.type_within 63) (λ p. w.then_allowed may_stand p (left_out i.cursor)) i rest rest s s (IsTypeRead shape 64) (IsTypeRead shape 64)
      ((claims v shape).0 0 64 i gap rest s own (omega (arith, le)) blanks ends ready)
      (λ p o ready g read. checked_then v (λ i. may_stand p) (λ j. if sees k.End j.cursor then unexpected j else left_out i.cursor) (pure p) o rest s (IsTypeRead shape 64) (may p o read)
      (given v p o rest s (IsTypeRead shape 64) ready read)))

  -- a type that a word holds
  pub scalar_reads : (shape : Shape) (i : Input) (gap rest : Text) (s : ℕ) → IsWritten m.wide (has_opaque m.types) (defined_structs m) shape → levels shape ≤ 64 → is_scalar_shape shape ≡ true → AreBlanks gap → EndsType rest
      → Ready v s i (gap ++ (shown false shape ++ rest)) → Reads v s w.scalar i rest (IsTypeRead shape 64)
  unfolding w.scalar w.scalar_within
  scalar_reads shape i gap rest s own le word blanks ends ready =
      type_that_reads is_scalar shape i gap rest s own le blanks ends (λ p o read. scalar_read shape 64 p o read ∙ word) ready

  -- a type of integers, or a pointer type
  pub integer_scalar_reads : (shape : Shape) (i : Input) (gap rest : Text) (s : ℕ) → IsWritten m.wide (has_opaque m.types) (defined_structs m) shape → levels shape ≤ 64 → is_scalar_shape shape ≡ true
      → w.is_float_word (word_of_shape shape) ≡ false → AreBlanks gap → EndsType rest → Ready v s i (gap ++ (shown false shape ++ rest)) → Reads v s w.integer_scalar i rest (IsTypeRead shape 64)
  unfolding w.integer_scalar
  integer_scalar_reads shape i gap rest s own le word flat blanks ends ready =
      go_on v w.scalar (λ p. checked (λ _. not (w.is_float p)) unexpected >> pure p) i rest rest s s (IsTypeRead shape 64) (IsTypeRead shape 64)
      (scalar_reads shape i gap rest s own le word blanks ends ready)
      (λ p o ready g read. checked_then v (λ _. not (w.is_float p)) unexpected (pure p) o rest s (IsTypeRead shape 64)
      (ap (λ (x : Word). not (w.is_float_word x)) (bits_read shape 64 p o read) ∙ ap not flat) (given v p o rest s (IsTypeRead shape 64) ready read))

  -- a type of floating point numbers
  pub float_scalar_reads : (shape : Shape) (i : Input) (gap rest : Text) (s : ℕ) → IsWritten m.wide (has_opaque m.types) (defined_structs m) shape → levels shape ≤ 64 → is_scalar_shape shape ≡ true
      → w.is_float_word (word_of_shape shape) ≡ true → AreBlanks gap → EndsType rest → Ready v s i (gap ++ (shown false shape ++ rest)) → Reads v s w.float_scalar i rest (IsTypeRead shape 64)
  unfolding w.float_scalar
  float_scalar_reads shape i gap rest s own le word is blanks ends ready =
      go_on v w.scalar (λ p. checked (λ _. w.is_float p) unexpected >> pure p) i rest rest s s (IsTypeRead shape 64) (IsTypeRead shape 64)
      (scalar_reads shape i gap rest s own le word blanks ends ready)
      (λ p o ready g read. checked_then v (λ _. w.is_float p) unexpected (pure p) o rest s (IsTypeRead shape 64)
      (ap w.is_float_word (bits_read shape 64 p o read) ∙ is) (given v p o rest s (IsTypeRead shape 64) ready read))

  -- a pointer type
  pub pointer_type_reads : (shape : Shape) (i : Input) (gap rest : Text) (s : ℕ) → IsWritten m.wide (has_opaque m.types) (defined_structs m) shape → levels shape ≤ 64 → is_pointer_shape shape ≡ true → AreBlanks gap → EndsType rest
      → Ready v s i (gap ++ (shown false shape ++ rest)) → Reads v s w.pointer_type i rest (IsTypeRead shape 64)
  unfolding w.pointer_type
  pointer_type_reads shape i gap rest s own le pointer blanks ends ready =
      go_on v w.any_type (λ p. checked (λ _. is_pointer p) unexpected >> pure p) i rest rest s s (IsTypeRead shape 64) (IsTypeRead shape 64)
      (any_type_reads shape i gap rest s own le blanks ends ready)
      (λ p o ready g read. checked_then v (λ _. is_pointer p) unexpected (pure p) o rest s (IsTypeRead shape 64) (pointer_read shape 64 p o read ∙ pointer)
      (given v p o rest s (IsTypeRead shape 64) ready read))

  -- the type of a parameter or a result
  pub passed_type_reads : (shape : Shape) (i : Input) (gap rest : Text) (s : ℕ) → IsWritten m.wide (has_opaque m.types) (defined_structs m) shape → levels shape ≤ 64 → is_passed_shape shape ≡ true → AreBlanks gap → EndsType rest
      → Ready v s i (gap ++ (shown false shape ++ rest)) → Reads v s w.passed_type i rest (IsTypeRead shape 64)
  unfolding w.passed_type
  passed_type_reads shape i gap rest s own le is blanks ends ready =
      type_that_reads is_passed shape i gap rest s own le blanks ends (λ p o read. passed_read shape 64 p o read ∙ is) ready

  -- the type of a global
  pub held_type_reads : (shape : Shape) (i : Input) (gap rest : Text) (s : ℕ) → IsWritten m.wide (has_opaque m.types) (defined_structs m) shape → levels shape ≤ 64 → is_held_shape shape ≡ true → AreBlanks gap → EndsType rest
      → Ready v s i (gap ++ (shown false shape ++ rest)) → Reads v s w.held_type i rest (IsTypeRead shape 64)
  unfolding w.held_type
  held_type_reads shape i gap rest s own le is blanks ends ready =
      type_that_reads is_held shape i gap rest s own le blanks ends (λ p o read. held_read shape 64 p o read ∙ is) ready

  -- `{ T, .. }` as the definition of a named struct
  pub struct_body_reads : (shape : Shape) (i : Input) (gap rest : Text) (s : ℕ) → IsWritten m.wide (has_opaque m.types) (defined_structs m) shape → levels shape ≤ 64 → is_struct_shape shape ≡ true → AreBlanks gap
      → Ready v s i (gap ++ (shown false shape ++ rest)) → Reads v s w.struct_body i rest (λ n o. HasShape o.types o.struct_names.names shape n)
  unfolding w.struct_body
  struct_body_reads shape i gap rest s own le is blanks ready =
      go_on v (w.braced 63 (w.firm 63)) (λ p. pure p.id) i rest rest s s (IsTypeRead shape 64) (λ n o. HasShape o.types o.struct_names.names shape n)
      (braced_reads v shape i gap rest s is own le blanks ready)
      (λ p o ready g read. given v p.id o rest s (λ n o. HasShape o.types o.struct_names.names shape n) ready read.has_shape)

-- how `void` is printed
pub void_shown : (n : Module) (t : ℕ) → slice_get n.types t ≡ Some type.Void → type_text n t ≡ codes "void"
unfolding type_within
void_shown n t e = ap (type_by (type_within 63 n) n) e
