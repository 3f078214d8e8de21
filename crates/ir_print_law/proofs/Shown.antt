-- Types by their shapes: how they are printed, and what a reader knows of one.
use Rattle.std.proofs.Common.{◌≡◌, ℕ, zero, suc, ◌+◌, ◌<◌, ◌≤◌, Bool, true, false, List, [], ◌∷◌, ◌++◌, length, slice_get, refl, sym, ap, ◌∙◌, arith}
use Rattle.std.specs.Prelude.{codes, ◌==◌}
use Rattle.std.specs.Fmt.{decimal}
use Rattle.std.proofs.lemmas.Option.{slice_get_within}
use Rattle.ir_print_law.proofs.Looks.{suc_one, bits_looks, held_looks, passed_looks, scalar_looks, pointer_looks, base_of, stars_of, looking}
use Rattle.lemmas.specs.Numbers.{suc_not_null}
use Rattle.ir_ast.specs.declared.ir_type.IrType.{IrType}
use Rattle.ir_tokens.specs.Bytes.{Text}
use Rattle.ir_forms.specs.declared.input.Input.{Input}
use Rattle.ir_forms.specs.declared.written.Base.{Base}
use Rattle.ir_forms.specs.declared.written.Base.TheVariants as base
use Rattle.ir_forms.specs.declared.written.WrittenType.{WrittenType}
use Rattle.ir_forms.specs.declared.written.FloatType.{FloatType}
use Rattle.ir_forms.specs.declared.written.FloatType.TheVariants as size
use Rattle.ir_forms.specs.Written.{word_of, is_pointer, is_scalar, is_passed, is_held}
use Rattle.name_text.specs.Names.{name_text}
use Rattle.name_text.specs.declared.blank.Blank.TheVariants as blank
use Rattle.ir_print_law.specs.Shapes.{Shape, Integer, Float, Pointer, Array, Empty, Struct, Named, Opaque, HasShape, levels, word_of_shape, is_scalar_shape, is_pointer_shape, is_passed_shape, is_held_shape}
use Rattle.ir_print_law.specs.Parts.{word_of_type}
use Rattle.ir_print_law.proofs.Tables.{Begins, stays, place_stays}
use Rattle.ir_print_law.proofs.State.{Grows}

-- a type of floating point numbers
abbrev pub float_text : FloatType → Text
float_text size.Single = codes "float"
float_text size.Double = codes "double"

-- a type by its shape, or the fields of a struct after others
abbrev pub shown : (is_rest : Bool) → Shape → Text
shown false (Integer bits) = 105 ∷ decimal bits
shown false (Float t) = float_text t
shown false (Pointer part) = shown false part ++ 42 ∷ []
shown false (Array count part) = 91 ∷ decimal count ++ codes " x " ++ shown false part ++ 93 ∷ []
shown false Empty = codes "{}"
shown false (Struct first rest) = codes "{ " ++ shown false first ++ shown true rest ++ codes " }"
shown false (Named name) = 37 ∷ name_text blank.Kept name
shown false Opaque = codes "ptr"
shown true (Struct first rest) = codes ", " ++ shown false first ++ shown true rest
shown true _ = []

-- how many fields a struct has
abbrev pub field_count : Shape → ℕ
field_count (Struct first rest) = field_count rest + 1
field_count _ = 0

-- a type of this shape was read, with room for `most` levels in all
pub record IsTypeRead (shape : Shape) (most : ℕ) (w : WrittenType) (o : Input) : Type 0 where
  pub has_shape : HasShape o.types o.struct_names.names shape w.id
  pub fits : levels shape + w.room ≡ most
  pub base_is : w.base ≡ base_of shape
  pub stars_are : w.stars ≡ stars_of shape

-- ---- a shape stays as the tables grow

-- a shape stays as the tables grow
pub shape_stays : (types more : List IrType) (names others : List Text) (shape : Shape) (n : ℕ) → Begins types more → Begins names others → HasShape types names shape n → HasShape more others shape n
shape_stays types more names others (Integer bits) n a b h = stays types more n _ a h
shape_stays types more names others (Float t) n a b h = stays types more n _ a h
shape_stays types more names others (Pointer part) n a b h = (h.0, stays types more n _ a h.1, shape_stays types more names others part h.0 a b h.2)
shape_stays types more names others (Array count part) n a b h = (h.0, stays types more n _ a h.1, shape_stays types more names others part h.0 a b h.2)
shape_stays types more names others Empty n a b h = stays types more n _ a h
shape_stays types more names others (Struct first rest) n a b h =
    (h.0, h.1, stays types more n _ a h.2, h.3, shape_stays types more names others first h.0 a b h.4, shape_stays types more names others rest h.1 a b h.5)
shape_stays types more names others (Named name) n a b h = (h.0, stays types more n _ a h.1, place_stays name names others h.0 b h.2)
shape_stays types more names others Opaque n a b h = stays types more n _ a h

-- the word that a type of the table is, by its shape
pub word_told : (types : List IrType) (names : List Text) (shape : Shape) (n : ℕ) → HasShape types names shape n → word_of_type (slice_get types n) ≡ word_of_shape shape
word_told types names (Integer bits) n h = ap word_of_type h
word_told types names (Float size.Single) n h = ap word_of_type h
word_told types names (Float size.Double) n h = ap word_of_type h
word_told types names (Pointer part) n h = ap word_of_type h.1
word_told types names (Array count part) n h = ap word_of_type h.1
word_told types names Empty n h = ap word_of_type h
word_told types names (Struct first rest) n h = ap word_of_type h.2
word_told types names (Named name) n h = ap word_of_type h.1
word_told types names Opaque n h = ap word_of_type h

-- a type that has a shape is in the table
pub shape_within : (types : List IrType) (names : List Text) (shape : Shape) (n : ℕ) → HasShape types names shape n → n < length types
shape_within types names (Integer bits) n h = slice_get_within types n _ h
shape_within types names (Float t) n h = slice_get_within types n _ h
shape_within types names (Pointer part) n h = slice_get_within types n _ h.1
shape_within types names (Array count part) n h = slice_get_within types n _ h.1
shape_within types names Empty n h = slice_get_within types n _ h
shape_within types names (Struct first rest) n h = slice_get_within types n _ h.2
shape_within types names (Named name) n h = slice_get_within types n _ h.1
shape_within types names Opaque n h = slice_get_within types n _ h

-- what was read stays
pub read_stays : (shape : Shape) (most : ℕ) (w : WrittenType) (i o : Input) → Grows i o → IsTypeRead shape most w i → IsTypeRead shape most w o
read_stays shape most w i o g h = record {
  has_shape = shape_stays i.types o.types i.struct_names.names o.struct_names.names shape w.id g.types g.structs h.has_shape;
  fits = h.fits;
  base_is = h.base_is;
  stars_are = h.stars_are;
}

-- ---- stars

-- each type has a level
pub some_level : (shape : Shape) → 1 ≤ levels shape
some_level (Integer bits) = omega arith
some_level (Float t) = omega arith
some_level (Pointer part) = omega arith
some_level (Array count part) = omega arith
some_level Empty = omega arith
some_level (Struct first rest) = omega arith
some_level (Named name) = omega arith
some_level Opaque = omega arith

-- ---- what kind of type was read

-- what depends on the base and the stars alone
by_looks : {X : Type 0} (g : WrittenType → X) (shape : Shape) (most : ℕ) (w : WrittenType) (o : Input) → ((id room : ℕ) (b : Base) (stars : ℕ) → g (record { base = b; stars = stars; id = id; room = room }) ≡ g (looking b stars))
    → IsTypeRead shape most w o → g w ≡ g (looking (base_of shape) (stars_of shape))
by_looks g shape most w o same h = same w.id w.room w.base w.stars ∙ ap (λ b. g (looking b w.stars)) h.base_is ∙ ap (λ n. g (looking (base_of shape) n)) h.stars_are

-- how many bits the type has that was read
pub bits_read : (shape : Shape) (most : ℕ) (w : WrittenType) (o : Input) → IsTypeRead shape most w o → word_of w ≡ word_of_shape shape
bits_read shape most w o h = by_looks word_of shape most w o (λ id room b stars. refl) h ∙ bits_looks shape

-- whether a word holds the type that was read
pub scalar_read : (shape : Shape) (most : ℕ) (w : WrittenType) (o : Input) → IsTypeRead shape most w o → is_scalar w ≡ is_scalar_shape shape
scalar_read shape most w o h = by_looks is_scalar shape most w o (λ id room b stars. refl) h ∙ scalar_looks shape

-- whether the type that was read is a pointer
pub pointer_read : (shape : Shape) (most : ℕ) (w : WrittenType) (o : Input) → IsTypeRead shape most w o → is_pointer w ≡ is_pointer_shape shape
pointer_read shape most w o h = by_looks is_pointer shape most w o (λ id room b stars. refl) h ∙ pointer_looks shape

-- the successor of a number is 1 where the number is 0
one_star : (n : ℕ) → suc n == 1 ≡ n == 0
one_star zero = refl
one_star (suc n) = suc_one n ∙ sym (suc_not_null n)

-- whether a function may take the type that was read
pub passed_read : (shape : Shape) (most : ℕ) (w : WrittenType) (o : Input) → IsTypeRead shape most w o → is_passed w ≡ is_passed_shape shape
passed_read shape most w o h = by_looks is_passed shape most w o (λ id room b stars. same b stars id room) h ∙ passed_looks shape where
  same : (b : Base) (stars id room : ℕ) → is_passed (record { base = b; stars = stars; id = id; room = room }) ≡ is_passed (looking b stars)
  same (base.Integer bits) stars id room = refl
  same base.Float stars id room = refl
  same base.Double stars id room = refl
  same base.Named stars id room = refl
  same base.Opaque stars id room = refl
  same base.Aggregate stars id room = refl

-- whether a global may hold the type that was read
pub held_read : (shape : Shape) (most : ℕ) (w : WrittenType) (o : Input) → IsTypeRead shape most w o → is_held w ≡ is_held_shape shape
held_read shape most w o h = by_looks is_held shape most w o (λ id room b stars. same b stars id room) h ∙ held_looks shape where
  same : (b : Base) (stars id room : ℕ) → is_held (record { base = b; stars = stars; id = id; room = room }) ≡ is_held (looking b stars)
  same (base.Integer bits) stars id room = refl
  same base.Float stars id room = refl
  same base.Double stars id room = refl
  same base.Named stars id room = refl
  same base.Opaque stars id room = refl
  same base.Aggregate stars id room = refl
