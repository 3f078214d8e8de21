-- What a type that was read looks like, by its shape.
use Rattle.std.proofs.Common.{◌≡◌, ℕ, zero, suc, ◌+◌, Bool, true, false, refl, ap, ◌∙◌, arith}
use Rattle.std.specs.Prelude.{◌==◌, nat_lt}
use Rattle.std.proofs.lemmas.Bool.Decides.{nat_tests}
use Rattle.lemmas.specs.Numbers.{suc_not_null}
use Rattle.ir_ast.specs.declared.module.Module.{Module}
use Rattle.ir_forms.specs.declared.written.Base.{Base}
use Rattle.ir_forms.specs.declared.written.Base.TheVariants as base
use Rattle.ir_forms.specs.declared.written.WrittenType.{WrittenType}
use Rattle.ir_forms.specs.Written.{has_opaque, float_base, word_of, is_pointer, is_scalar, is_passed, is_held}
use Rattle.ir_forms.specs.declared.written.FloatType.TheVariants as size
use Rattle.ir_print_law.specs.Definitions.{defined_structs}
use Rattle.ir_print_law.specs.Shapes.{Shape, Integer, Float, Pointer, Array, Empty, Struct, Named, Opaque, HasShape, IsWritten, levels, word_of_shape, is_scalar_shape, is_pointer_shape, is_passed_shape, is_held_shape}

-- a type with n stars after it
abbrev pub starred : ℕ → Shape → Shape
starred zero shape = shape
starred (suc count) shape = starred count (Pointer shape)

-- what is before the stars, and how many stars there are
abbrev pub base_of : Shape → Base
base_of (Integer bits) = base.Integer bits
base_of (Float t) = float_base t
base_of (Pointer part) = base_of part
base_of (Named name) = base.Named
base_of Opaque = base.Opaque
base_of _ = base.Aggregate

abbrev pub stars_of : Shape → ℕ
stars_of (Pointer part) = suc (stars_of part)
stars_of _ = 0

-- a type of this shape, with room for `most` levels in all
pub record IsTypeOf (m : Module) (most : ℕ) (w : WrittenType) (shape : Shape) : Type 0 where
  pub has_shape : HasShape m.types m.struct_names shape w.id
  pub fits : levels shape + w.room ≡ most
  pub is_written : IsWritten m.wide (has_opaque m.types) (defined_structs m) shape
  pub base_is : w.base ≡ base_of shape
  pub stars_are : w.stars ≡ stars_of shape

-- a type that has a shape
abbrev pub IsShaped : Module → (most : ℕ) → WrittenType → Type 0
IsShaped m most w = (shape : Shape) × IsTypeOf m most w shape

-- ---- stars

pub starred_levels : (count : ℕ) (shape : Shape) → levels (starred count shape) ≡ levels shape + count
starred_levels zero shape = omega arith
starred_levels (suc count) shape = let e = starred_levels count (Pointer shape) in omega (arith, e)

pub starred_base : (count : ℕ) (shape : Shape) → base_of (starred count shape) ≡ base_of shape
starred_base zero shape = refl
starred_base (suc count) shape = starred_base count (Pointer shape)

pub starred_stars : (count : ℕ) (shape : Shape) → stars_of (starred count shape) ≡ stars_of shape + count
starred_stars zero shape = omega arith
starred_stars (suc count) shape = let e = starred_stars count (Pointer shape) in omega (arith, e)

-- n stars may be written: there are none, or no pointer is `ptr`
abbrev pub MayStar : (opaque : Bool) → ℕ → Type 0
MayStar opaque zero = Unit {0}
MayStar opaque (suc count) = opaque ≡ false

-- a type that is written with stars, and those stars
pub starred_parts : (wide opaque : Bool) (structs : _) (count : ℕ) (shape : Shape) → IsWritten wide opaque structs (starred count shape) → MayStar opaque count × IsWritten wide opaque structs shape
starred_parts wide opaque structs zero shape h = (tt, h)
starred_parts wide opaque structs (suc count) shape h = let p = (starred_parts wide opaque structs count (Pointer shape) h).1 in (p.0, p.1)

-- ---- what kind of type it is

pub suc_one : (n : ℕ) → suc (suc n) == 1 ≡ false
suc_one n = grind (arith, nat_tests)

pub zero_less : (n : ℕ) → nat_lt 0 (suc n) ≡ true
zero_less n = grind (arith, nat_tests)

-- a type of this base with this number of stars
abbrev pub looking : Base → ℕ → WrittenType
looking b stars = record { base = b; stars = stars; id = 0; room = 0 }

by_looks : {X : Type 0} (g : WrittenType → X) (m : Module) (most : ℕ) (w : WrittenType) (shape : Shape) → ((id room : ℕ) (b : Base) (stars : ℕ) → g (record { base = b; stars = stars; id = id; room = room }) ≡ g (looking b stars))
    → IsTypeOf m most w shape → g w ≡ g (looking (base_of shape) (stars_of shape))
by_looks g m most w shape same h = same w.id w.room w.base w.stars ∙ ap (λ b. g (looking b w.stars)) h.base_is ∙ ap (λ n. g (looking (base_of shape) n)) h.stars_are

pub bits_looks : (shape : Shape) → word_of (looking (base_of shape) (stars_of shape)) ≡ word_of_shape shape
bits_looks (Integer bits) = refl
bits_looks (Float size.Single) = refl
bits_looks (Float size.Double) = refl
bits_looks (Pointer part) = let no_zero = suc_not_null (stars_of part) in rw no_zero refl
bits_looks (Array count part) = refl
bits_looks Empty = refl
bits_looks (Struct first rest) = refl
bits_looks (Named name) = refl
bits_looks Opaque = refl

pub bits_are : (m : Module) (most : ℕ) (w : WrittenType) (shape : Shape) → IsTypeOf m most w shape → word_of w ≡ word_of_shape shape
bits_are m most w shape h = by_looks word_of m most w shape (λ id room b stars. refl) h ∙ bits_looks shape

pub scalar_looks : (shape : Shape) → is_scalar (looking (base_of shape) (stars_of shape)) ≡ is_scalar_shape shape
scalar_looks (Integer bits) = refl
scalar_looks (Float size.Single) = refl
scalar_looks (Float size.Double) = refl
scalar_looks (Pointer part) = let some = zero_less (stars_of part) in rw some refl
scalar_looks (Array count part) = refl
scalar_looks Empty = refl
scalar_looks (Struct first rest) = refl
scalar_looks (Named name) = refl
scalar_looks Opaque = refl

pub scalar_is : (m : Module) (most : ℕ) (w : WrittenType) (shape : Shape) → IsTypeOf m most w shape → is_scalar w ≡ is_scalar_shape shape
scalar_is m most w shape h = by_looks is_scalar m most w shape (λ id room b stars. refl) h ∙ scalar_looks shape

pub pointer_looks : (shape : Shape) → is_pointer (looking (base_of shape) (stars_of shape)) ≡ is_pointer_shape shape
pointer_looks (Integer bits) = refl
pointer_looks (Float size.Single) = refl
pointer_looks (Float size.Double) = refl
pointer_looks (Pointer part) = let some = zero_less (stars_of part) in rw some refl
pointer_looks (Array count part) = refl
pointer_looks Empty = refl
pointer_looks (Struct first rest) = refl
pointer_looks (Named name) = refl
pointer_looks Opaque = refl

pub pointer_is : (m : Module) (most : ℕ) (w : WrittenType) (shape : Shape) → IsTypeOf m most w shape → is_pointer w ≡ is_pointer_shape shape
pointer_is m most w shape h = by_looks is_pointer m most w shape (λ id room b stars. refl) h ∙ pointer_looks shape

passed_deep : (b : Base) (n : ℕ) → is_passed (looking b (suc (suc n))) ≡ false
passed_deep (base.Integer bits) n = let a = suc_not_null (suc n) in let c = suc_one n in rw (a, c) refl
passed_deep base.Float n = suc_not_null (suc n)
passed_deep base.Double n = suc_not_null (suc n)
passed_deep base.Named n = suc_one n
passed_deep base.Opaque n = suc_not_null (suc n)
passed_deep base.Aggregate n = refl

pub passed_looks : (shape : Shape) → is_passed (looking (base_of shape) (stars_of shape)) ≡ is_passed_shape shape
passed_looks (Integer bits) = refl
passed_looks (Float size.Single) = refl
passed_looks (Float size.Double) = refl
passed_looks (Pointer (Integer bits)) = refl
passed_looks (Pointer (Float size.Single)) = refl
passed_looks (Pointer (Float size.Double)) = refl
passed_looks (Pointer (Named name)) = refl
passed_looks (Pointer Opaque) = refl
passed_looks (Pointer (Pointer part)) = passed_deep (base_of part) (stars_of part)
passed_looks (Pointer (Array count part)) = refl
passed_looks (Pointer Empty) = refl
passed_looks (Pointer (Struct first rest)) = refl
passed_looks (Array count part) = refl
passed_looks Empty = refl
passed_looks (Struct first rest) = refl
passed_looks (Named name) = refl
passed_looks Opaque = refl

pub passed_is : (m : Module) (most : ℕ) (w : WrittenType) (shape : Shape) → IsTypeOf m most w shape → is_passed w ≡ is_passed_shape shape
passed_is m most w shape h = by_looks is_passed m most w shape (λ id room b stars. refl) h ∙ passed_looks shape

held_deep : (b : Base) (n : ℕ) → is_held (looking b (suc (suc n))) ≡ false
held_deep (base.Integer bits) n = suc_not_null (suc n)
held_deep base.Float n = suc_not_null (suc n)
held_deep base.Double n = suc_not_null (suc n)
held_deep base.Named n = suc_one n
held_deep base.Opaque n = suc_not_null (suc n)
held_deep base.Aggregate n = refl

pub held_looks : (shape : Shape) → is_held (looking (base_of shape) (stars_of shape)) ≡ is_held_shape shape
held_looks (Integer bits) = refl
held_looks (Float size.Single) = refl
held_looks (Float size.Double) = refl
held_looks (Pointer (Integer bits)) = refl
held_looks (Pointer (Float size.Single)) = refl
held_looks (Pointer (Float size.Double)) = refl
held_looks (Pointer (Named name)) = refl
held_looks (Pointer Opaque) = refl
held_looks (Pointer (Pointer part)) = held_deep (base_of part) (stars_of part)
held_looks (Pointer (Array count part)) = refl
held_looks (Pointer Empty) = refl
held_looks (Pointer (Struct first rest)) = refl
held_looks (Array count part) = refl
held_looks Empty = refl
held_looks (Struct first rest) = refl
held_looks (Named name) = refl
held_looks Opaque = refl

pub held_is : (m : Module) (most : ℕ) (w : WrittenType) (shape : Shape) → IsTypeOf m most w shape → is_held w ≡ is_held_shape shape
held_is m most w shape h = by_looks is_held m most w shape (λ id room b stars. refl) h ∙ held_looks shape
