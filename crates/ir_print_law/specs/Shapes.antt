-- Types without their numbers.
use Rattle.std.specs.Prelude.{◌≡◌, ℕ, suc, ◌<◌, ◌≤◌, ◌^◌, max, Bool, true, false, ◌==◌, List, Option, Some, slice_get}
use Rattle.lemmas.specs.Lists.{IsIn}
use Rattle.ir_ast.specs.Names.{place_of}
use Rattle.ir_ast.specs.declared.ir_type.IrType.{IrType}
use Rattle.ir_ast.specs.declared.ir_type.IrType.TheVariants as type
use Rattle.ir_forms.specs.Written.{float_entry}
use Rattle.ir_forms.specs.declared.written.FloatType.{FloatType}
use Rattle.ir_forms.specs.declared.written.FloatType.TheVariants as size
use Rattle.ir_forms.specs.declared.written.Word.{Word}
use Rattle.ir_forms.specs.declared.written.Word.TheVariants as sort
use Rattle.ir_tokens.specs.Bytes.{Text}
use Rattle.name_text.specs.Readings.{AreBytes}

-- a type as it is written; a struct is a field before those of another struct
pub data Shape : Type 0 where
  Integer : (bits : ℕ) → Shape
  Float : FloatType → Shape
  Pointer : Shape → Shape
  Array : (count : ℕ) → Shape → Shape
  Empty : Shape
  Struct : (first rest : Shape) → Shape
  Named : (name : Text) → Shape
  Opaque : Shape

-- The type with this number has this shape in a table of types, where names of structs have numbers. The rest of a struct is before it.
abbrev pub HasShape : (types : List IrType) → (names : List Text) → Shape → (number : ℕ) → Type 0
HasShape types names (Integer bits) number = slice_get types number ≡ Some (type.Integer bits)
HasShape types names (Float t) number = slice_get types number ≡ Some (float_entry t)
HasShape types names (Pointer part) number = (p : ℕ) × (slice_get types number ≡ Some (type.Pointer p)) × HasShape types names part p
HasShape types names (Array count part) number = (p : ℕ) × (slice_get types number ≡ Some (type.Array count p)) × HasShape types names part p
HasShape types names Empty number = slice_get types number ≡ Some type.EmptyStruct
HasShape types names (Struct first rest) number =
    (f : ℕ) × (r : ℕ) × (slice_get types number ≡ Some (type.Struct f r)) × (r < number) × HasShape types names first f × HasShape types names rest r
HasShape types names (Named name) number = (n : ℕ) × (slice_get types number ≡ Some (type.Named n)) × (place_of name names ≡ Some n)
HasShape types names Opaque number = slice_get types number ≡ Some type.Opaque

-- how many levels a type has: a number, a name or `ptr` is one, and each star, array or struct around it is one more
abbrev pub levels : Shape → ℕ
levels (Integer bits) = 1
levels (Float t) = 1
levels (Pointer part) = suc (levels part)
levels (Array count part) = suc (levels part)
levels Empty = 1
levels (Struct first rest) = max (suc (levels first)) (levels rest)
levels (Named name) = 1
levels Opaque = 1

-- the struct of the fields after the first
abbrev pub IsStruct : Shape → Type 0
IsStruct Empty = Unit {0}
IsStruct (Struct first rest) = Unit {0}
IsStruct _ = ⊥

-- a type may be written so: integers have 1 to 64 bits, floating point types stand where the wide forms may, lengths 64 bits, structs these names, and all pointers are `ptr` or none is
abbrev pub IsWritten : (wide opaque : Bool) → (structs : List Text) → Shape → Type 0
IsWritten wide opaque structs (Integer bits) = (1 ≤ bits) × (bits ≤ 64)
IsWritten wide opaque structs (Float t) = wide ≡ true
IsWritten wide opaque structs (Pointer part) = (opaque ≡ false) × IsWritten wide opaque structs part
IsWritten wide opaque structs (Array count part) = (count < 2 ^ 64) × IsWritten wide opaque structs part
IsWritten wide opaque structs Empty = Unit {0}
IsWritten wide opaque structs (Struct first rest) = IsStruct rest × IsWritten wide opaque structs first × IsWritten wide opaque structs rest
IsWritten wide opaque structs (Named name) = AreBytes name × IsIn name structs
IsWritten wide opaque structs Opaque = opaque ≡ true

-- the word that a floating point number is
abbrev pub float_word_of : FloatType → Word
float_word_of size.Single = sort.Float
float_word_of size.Double = sort.Double

-- the word that a type is; one that is no number counts as a pointer
abbrev pub word_of_shape : Shape → Word
word_of_shape (Integer bits) = sort.Integer bits
word_of_shape (Float t) = float_word_of t
word_of_shape _ = sort.Pointer

-- a word holds its values
abbrev pub is_scalar_shape : Shape → Bool
is_scalar_shape (Integer bits) = true
is_scalar_shape (Float t) = true
is_scalar_shape (Pointer part) = true
is_scalar_shape Opaque = true
is_scalar_shape _ = false

-- it is a pointer
abbrev pub is_pointer_shape : Shape → Bool
is_pointer_shape (Pointer part) = true
is_pointer_shape Opaque = true
is_pointer_shape _ = false

-- it is a struct
abbrev pub is_struct_shape : Shape → Bool
is_struct_shape Empty = true
is_struct_shape (Struct first rest) = true
is_struct_shape _ = false

-- a function may take and return a pointer to it
abbrev pub is_passed_part : Shape → Bool
is_passed_part (Integer bits) = bits == 8
is_passed_part (Named name) = true
is_passed_part _ = false

-- a function may take and return it: a number, a reference, `i8*` or `ptr`
abbrev pub is_passed_shape : Shape → Bool
is_passed_shape (Integer bits) = true
is_passed_shape (Float t) = true
is_passed_shape (Pointer part) = is_passed_part part
is_passed_shape Opaque = true
is_passed_shape _ = false

-- it is the name of a struct
abbrev pub is_named_shape : Shape → Bool
is_named_shape (Named name) = true
is_named_shape _ = false

-- a global may hold it: a number, a reference or `ptr`
abbrev pub is_held_shape : Shape → Bool
is_held_shape (Integer bits) = true
is_held_shape (Float t) = true
is_held_shape (Pointer part) = is_named_shape part
is_held_shape Opaque = true
is_held_shape _ = false
