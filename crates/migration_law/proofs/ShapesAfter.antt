-- Types that are printable are so with `ptr` for each pointer.
use Rattle.std.proofs.Common.{◌≡◌, ◌≤◌, ℕ, zero, suc, Bool, true, false, List, [], ◌∷◌, map, slice_get, Option, None, Some, inl, inr, refl, sym, ap, ◌∙◌, subst, arith}
use Rattle.std.specs.List.{list_any}
use Rattle.lemmas.specs.Lists.{any_at}
use Rattle.lemmas.specs.Bools.{or_first, or_second}
use Rattle.ir_ast.specs.Names.{name_at}
use Rattle.ir_ast.specs.Places.{is_some-position}
use Rattle.ir_ast.specs.Types.{is_same_type}
use Rattle.ir_ast.specs.declared.ir_type.IrType.{IrType}
use Rattle.ir_ast.specs.declared.ir_type.IrType.TheVariants as type
use Rattle.ir_ast.specs.declared.items_of_module.StructType.{StructType}
use Rattle.ir_ast.specs.declared.module.Module.{Module}
use Rattle.ir_forms.specs.Written.{has_opaque}
use Rattle.copies.specs.Opaque.{new_number, opaque_module, opaque_struct, opaque_type, opaque_types}
use Rattle.ir_print_law.specs.Definitions.{defined_structs}
use Rattle.ir_print_law.specs.Parts.{word_of_type, IsPlaceType, IsScalar, IsType, IsVoid}
use Rattle.ir_print_law.specs.Printable.{is_void}
use Rattle.ir_print_law.specs.Shapes.{Shape, Integer, Float, Pointer, Array, Empty, Struct, Named, Opaque, HasShape, IsStruct, IsWritten, word_of_shape, is_held_shape, is_passed_shape, is_scalar_shape, is_struct_shape, levels}
use Rattle.ir_print_law.proofs.Shown.{word_told}
use Rattle.ir_forms.specs.declared.written.FloatType.TheVariants as size
use Rattle.migration_law.specs.PartsBefore.{ArePartsBefore}
use Rattle.migration_law.proofs.Tables.{none_after, type_after, type_in_order}
use Rattle.migration_law.proofs.TablesInOrder.{rest_before}

-- ---- lists

-- a map after another one
pub map_twice : {A B C : Type 0} (f : B → C) (g : A → B) (xs : List A) → map f (map g xs) ≡ map (λ x. f (g x)) xs
map_twice f g [] = refl
map_twice f g (x ∷ xs) = ap (λ l. f (g x) ∷ l) (map_twice f g xs)

-- ---- shapes

-- the type with `ptr` for each pointer
abbrev pub opaque_shape : Shape → Shape
opaque_shape (Integer bits) = Integer bits
opaque_shape (Float t) = Float t
opaque_shape (Pointer part) = Opaque
opaque_shape (Array count part) = Array count (opaque_shape part)
opaque_shape Empty = Empty
opaque_shape (Struct first rest) = Struct (opaque_shape first) (opaque_shape rest)
opaque_shape (Named name) = Named name
opaque_shape Opaque = Opaque

few_levels : (shape : Shape) → levels (opaque_shape shape) ≤ levels shape
few_levels (Integer bits) = omega arith
few_levels (Float t) = omega arith
few_levels (Pointer part) = omega arith
few_levels (Array count part) = let h = few_levels part in omega (arith, h)
few_levels Empty = omega arith
few_levels (Struct first rest) = let h = few_levels first in let k = few_levels rest in omega (arith, h, k)
few_levels (Named name) = omega arith
few_levels Opaque = omega arith

struct_still : (shape : Shape) → IsStruct shape → IsStruct (opaque_shape shape)
struct_still (Integer bits) is = absurd is
struct_still (Float t) is = absurd is
struct_still (Pointer part) is = absurd is
struct_still (Array count part) is = absurd is
struct_still Empty is = tt
struct_still (Struct first rest) is = tt
struct_still (Named name) is = absurd is
struct_still Opaque is = absurd is

pub bits_same : (shape : Shape) → word_of_shape (opaque_shape shape) ≡ word_of_shape shape
bits_same (Integer bits) = refl
bits_same (Float t) = refl
bits_same (Pointer part) = refl
bits_same (Array count part) = refl
bits_same Empty = refl
bits_same (Struct first rest) = refl
bits_same (Named name) = refl
bits_same Opaque = refl

scalar_still : (shape : Shape) → is_scalar_shape shape ≡ true → is_scalar_shape (opaque_shape shape) ≡ true
scalar_still (Integer bits) is = refl
scalar_still (Float t) is = refl
scalar_still (Pointer part) is = refl
scalar_still (Array count part) is = absurd cc
scalar_still Empty is = absurd cc
scalar_still (Struct first rest) is = absurd cc
scalar_still (Named name) is = absurd cc
scalar_still Opaque is = refl

pub no_scalar_still : (shape : Shape) → is_scalar_shape shape ≡ false → is_scalar_shape (opaque_shape shape) ≡ false
no_scalar_still (Integer bits) is = absurd cc
no_scalar_still (Float t) is = absurd cc
no_scalar_still (Pointer part) is = absurd cc
no_scalar_still (Array count part) is = refl
no_scalar_still Empty is = refl
no_scalar_still (Struct first rest) is = refl
no_scalar_still (Named name) is = refl
no_scalar_still Opaque is = absurd cc

pub struct_shape_still : (shape : Shape) → is_struct_shape shape ≡ true → is_struct_shape (opaque_shape shape) ≡ true
struct_shape_still (Integer bits) is = absurd cc
struct_shape_still (Float t) is = absurd cc
struct_shape_still (Pointer part) is = absurd cc
struct_shape_still (Array count part) is = absurd cc
struct_shape_still Empty is = refl
struct_shape_still (Struct first rest) is = refl
struct_shape_still (Named name) is = absurd cc
struct_shape_still Opaque is = absurd cc

pub passed_still : (shape : Shape) → is_passed_shape shape ≡ true → is_passed_shape (opaque_shape shape) ≡ true
passed_still (Integer bits) is = refl
passed_still (Float t) is = refl
passed_still (Pointer part) is = refl
passed_still (Array count part) is = absurd cc
passed_still Empty is = absurd cc
passed_still (Struct first rest) is = absurd cc
passed_still (Named name) is = absurd cc
passed_still Opaque is = refl

pub held_still : (shape : Shape) → is_held_shape shape ≡ true → is_held_shape (opaque_shape shape) ≡ true
held_still (Integer bits) is = refl
held_still (Float t) is = refl
held_still (Pointer part) is = refl
held_still (Array count part) is = absurd cc
held_still Empty is = absurd cc
held_still (Struct first rest) is = absurd cc
held_still (Named name) is = absurd cc
held_still Opaque is = refl

module _ (m : Module) (ordered : ArePartsBefore m.types) where
  abbrev pub numbers : List ℕ
  numbers = (opaque_types m.types).numbers

  abbrev pub o : Module
  o = opaque_module m

  after : (n : ℕ) (t : IrType) → slice_get m.types n ≡ Some t → slice_get o.types (new_number numbers n) ≡ Some (opaque_type numbers t)
  after n t at = type_in_order m.types n t at (ordered n t at)

  has_shape : (shape : Shape) (n : ℕ) → HasShape m.types m.struct_names shape n → HasShape o.types o.struct_names (opaque_shape shape) (new_number numbers n)
  has_shape (Integer bits) n h = after n (type.Integer bits) h
  has_shape (Float size.Single) n h = after n type.Float h
  has_shape (Float size.Double) n h = after n type.Double h
  has_shape (Pointer part) n h = after n (type.Pointer h.0) h.1
  has_shape (Array count part) n h = (new_number numbers h.0, after n (type.Array count h.0) h.1, has_shape part h.0 h.2)
  has_shape Empty n h = after n type.EmptyStruct h
  has_shape (Struct first rest) n h = (
    new_number numbers h.0,
    new_number numbers h.1,
    after n (type.Struct h.0 h.1) h.2,
    rest_before m.types ordered n h.0 h.1 h.2,
    has_shape first h.0 h.4,
    has_shape rest h.1 h.5,
  )
  has_shape (Named name) n h = (h.0, after n (type.Named h.0) h.1, h.2)
  has_shape Opaque n h = after n type.Opaque h

  -- `ptr` is in the table
  opaque_there : (n : ℕ) → slice_get o.types n ≡ Some type.Opaque → has_opaque o.types ≡ true
  opaque_there n at = is_some-position (is_same_type type.Opaque) o.types ∙ any_at (is_same_type type.Opaque) o.types n type.Opaque at refl

  written : (structs : List (List ℕ)) (shape : Shape) (n : ℕ) → HasShape m.types m.struct_names shape n → IsWritten m.wide (has_opaque m.types) structs shape → IsWritten o.wide (has_opaque o.types) structs (opaque_shape shape)
  written structs (Integer bits) n h own = own
  written structs (Float t) n h own = own
  written structs (Pointer part) n h own = opaque_there (new_number numbers n) (after n (type.Pointer h.0) h.1)
  written structs (Array count part) n h own = (own.0, written structs part h.0 h.2 own.1)
  written structs Empty n h own = tt
  written structs (Struct first rest) n h own = (struct_still rest own.0, written structs first h.0 h.4 own.1, written structs rest h.1 h.5 own.2)
  written structs (Named name) n h own = own
  written structs Opaque n h own = opaque_there (new_number numbers n) (after n type.Opaque h)

  pub structs_same : defined_structs o ≡ defined_structs m
  structs_same = map_twice (λ (struct : StructType). name_at m.struct_names struct.name) (opaque_struct numbers) m.structs

  -- ---- types

  pub type_still : (shape : Shape) (n : ℕ) → IsType m shape n → IsType o (opaque_shape shape) (new_number numbers n)
  type_still shape n h =
      let few = h.1 in
      let fewer = few_levels shape in (
        has_shape shape n h.0,
        omega (arith, few, fewer),
        subst (λ structs. IsWritten o.wide (has_opaque o.types) structs (opaque_shape shape)) (sym structs_same) (written (defined_structs m) shape n h.0 h.2),
      )

  -- the word that a type is stays
  pub word_still : (shape : Shape) (n : ℕ) → HasShape m.types m.struct_names shape n → word_of_type (slice_get o.types (new_number numbers n)) ≡ word_of_type (slice_get m.types n)
  word_still shape n h = word_told o.types o.struct_names (opaque_shape shape) (new_number numbers n) (has_shape shape n h) ∙ bits_same shape ∙ sym (word_told m.types m.struct_names shape n h)

  pub scalar_type_still : (shape : Shape) (n : ℕ) → IsScalar m shape n → IsScalar o (opaque_shape shape) (new_number numbers n)
  scalar_type_still shape n h = (type_still shape n h.0, scalar_still shape h.1)

  pub void_still : (n : ℕ) → IsVoid m n → IsVoid o (new_number numbers n)
  void_still n h = after n type.Void h

  pub integer_still : (n bits : ℕ) → slice_get m.types n ≡ Some (type.Integer bits) → slice_get o.types (new_number numbers n) ≡ Some (type.Integer bits)
  integer_still n bits h = after n (type.Integer bits) h

  pub place_still : (shape : Shape) (held place : ℕ) → IsPlaceType m shape held place → IsPlaceType o (opaque_shape shape) (new_number numbers held) (new_number numbers place)
  place_still shape held place (inl h) = let there = after place (type.Pointer held) h.1 in inr (opaque_there (new_number numbers place) there, there)
  place_still shape held place (inr h) = let there = after place type.Opaque h.1 in inr (opaque_there (new_number numbers place) there, there)

  -- `void` is `void`, and nothing else is
  pub void_same : (n : ℕ) → is_void (slice_get o.types (new_number numbers n)) ≡ is_void (slice_get m.types n)
  void_same n = by (slice_get m.types n) refl where
    by : (found : Option IrType) → slice_get m.types n ≡ found → is_void (slice_get o.types (new_number numbers n)) ≡ is_void found
    by None e = rw (none_after m.types n e) refl
    by (Some type.Void) e = rw ((type_after m.types n type.Void e).1) refl
    by (Some (type.Integer bits)) e = rw ((type_after m.types n (type.Integer bits) e).1) refl
    by (Some type.Float) e = rw ((type_after m.types n type.Float e).1) refl
    by (Some type.Double) e = rw ((type_after m.types n type.Double e).1) refl
    by (Some (type.Pointer part)) e = rw ((type_after m.types n (type.Pointer part) e).1) refl
    by (Some type.Opaque) e = rw ((type_after m.types n type.Opaque e).1) refl
    by (Some (type.Array count part)) e = rw ((type_after m.types n (type.Array count part) e).1) refl
    by (Some type.EmptyStruct) e = rw ((type_after m.types n type.EmptyStruct e).1) refl
    by (Some (type.Struct first rest)) e = rw ((type_after m.types n (type.Struct first rest) e).1) refl
    by (Some (type.Named name)) e = rw ((type_after m.types n (type.Named name) e).1) refl
