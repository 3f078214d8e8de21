-- Types that are allowed somewhere, and pointers to them.
use Rattle.std.proofs.Common.{◌≡◌, ℕ, ◌<◌, Bool, true, false, length, refl, sym, ap, subst, ◌∙◌, arith, inl, inr}
use Rattle.std.specs.Prelude.{nat_lt}
use Rattle.lemmas.specs.Bools.{not_true}
use Rattle.std.proofs.lemmas.Bool.Decides.{nat_tests}
use Rattle.ir_ast.specs.declared.ir_type.IrType.TheVariants as type
use Rattle.ir_ast.specs.declared.module.Module.{Module}
use Rattle.ir_tokens.specs.declared.token.Kind.TheVariants as k
use Rattle.ir_forms.specs.Cursor.{sees, start}
use Rattle.ir_forms.specs.declared.input.Input.{Input}
use Rattle.ir_forms.specs.declared.written.WrittenType.{WrittenType}
use Rattle.ir_forms.specs.Written.{firm, struct_body, type_within, type_that, any_type, scalar_within, scalar, integer_scalar, float_scalar, is_float, is_float_word, passed_type, held_type, pointer_type, is_scalar, is_passed, is_held, pointer_again, starred_again, opaque_or, opaque_type, result_by, result_type}
use Rattle.ir_print_law.specs.Shapes.{Shape, IsStruct, Integer, Float, Pointer, Array, Empty, Struct, Named, Opaque, is_struct_shape}
use Rattle.ir_print_law.specs.Parts.{IsType, IsScalar, IsFloat, IsNoFloat, IsPointer, IsPlaceType}
use Rattle.ir_print_law.specs.Printable.{IsPassed}
use Rattle.ir_print_law.proofs.Forms.{Keeps, Same}
use Rattle.ir_print_law.proofs.Shown.{word_told}
use Rattle.ir_print_law.proofs.Looks.{IsTypeOf, IsShaped, bits_are, scalar_is, passed_is, pointer_is}
use Rattle.ir_print_law.proofs.Passes.{again_passes, skip_passes}
use Rattle.ir_print_law.proofs.Reading.{Reading}
use Rattle.ir_print_law.proofs.Tokens.{Has, having, pointer_goes}
use Rattle.ir_print_law.proofs.TypesRead.{part_keeps, type_before_keeps, struct_keeps, opaque_keeps}

-- a type that is allowed somewhere
abbrev pub IsFit : Module → (WrittenType → Bool) → WrittenType → Type 0
IsFit m may_stand w = IsShaped m 64 w × (may_stand w ≡ true)

pub type_of : (m : Module) (w : WrittenType) (shape : Shape) → IsTypeOf m 64 w shape → IsType m shape w.id
type_of m w shape h = (h.has_shape, (let e = h.fits in omega (arith, e)), h.is_written)

pub scalar_of : (m : Module) (w : WrittenType) → (h : IsFit m is_scalar w) → IsScalar m h.0.0 w.id
scalar_of m w h = (type_of m w h.0.0 h.0.1, sym (scalar_is m 64 w h.0.0 h.0.1) ∙ h.1)

pub passed_of : (m : Module) (w : WrittenType) → IsFit m is_passed w → IsPassed m w.id
passed_of m w h = (h.0.0, type_of m w h.0.0 h.0.1, sym (passed_is m 64 w h.0.0 h.0.1) ∙ h.1)

is_struct_of : (shape : Shape) → IsStruct shape → is_struct_shape shape ≡ true
is_struct_of Empty h = refl
is_struct_of (Struct first rest) h = refl
is_struct_of (Integer bits) h = absurd h
is_struct_of (Float t) h = absurd h
is_struct_of (Pointer part) h = absurd h
is_struct_of (Array count part) h = absurd h
is_struct_of (Named name) h = absurd h
is_struct_of Opaque h = absurd h

module _ {m : Module} (r : Reading m) where
  -- any type, which is in the table then
  pub any_type_there : (i : Input) → Keeps r.Fore (λ w. Has r.Fore w.id) r.Back any_type (IsShaped m 64) i
  unfolding any_type type_within
  any_type_there i = part_keeps r 64 i

  pub any_type_keeps : (i : Input) → Keeps r.Fore (Same r.Fore) r.Back any_type (IsShaped m 64) i
  any_type_keeps i w o h f = let x = any_type_there i w o h f in (x.0.0, x.1)

  that_there : (may_stand : WrittenType → Bool) (i : Input) → Keeps r.Fore (λ w. Has r.Fore w.id) r.Back (type_that may_stand 63) (IsFit m may_stand) i
  unfolding type_within
  that_there may_stand i w o h f =
      let x = part_keeps r 64 i h.0 h.1 h.2 f in
      let t = h.3 in
      let same = t.2.1 ∙ t.3.1 in (
        subst (λ (y : WrittenType). Has r.Fore y.id o) t.3.0 (subst (Has r.Fore h.0.id) same x.0),
        λ b.
            let c = x.1 (subst r.Back (sym same) b) in
            (c.0, subst (IsFit m may_stand) t.3.0 (c.1, t.2.0)),
      )

  that_keeps : (may_stand : WrittenType → Bool) (i : Input) → Keeps r.Fore (Same r.Fore) r.Back (type_that may_stand 63) (IsFit m may_stand) i
  that_keeps may_stand i w o h f = let x = that_there may_stand i w o h f in (x.0.0, x.1)

  -- a type that a word holds, which is in the table then
  pub scalar_there : (i : Input) → Keeps r.Fore (λ w. Has r.Fore w.id) r.Back scalar (IsFit m is_scalar) i
  unfolding scalar scalar_within
  scalar_there i = that_there is_scalar i

  pub scalar_keeps : (i : Input) → Keeps r.Fore (Same r.Fore) r.Back scalar (IsFit m is_scalar) i
  unfolding scalar scalar_within
  scalar_keeps i = that_keeps is_scalar i

  -- a type of integers or a pointer type, and one of floating point numbers
  pub integer_scalar_keeps : (i : Input) → Keeps r.Fore (Same r.Fore) r.Back integer_scalar (λ w. IsFit m is_scalar w × IsNoFloat m w.id) i
  unfolding integer_scalar
  integer_scalar_keeps i w o h f =
      let x = scalar_keeps i h.0 h.1 h.2 f in
      let t = h.3 in
      let same = t.2.1 ∙ t.3.1 in (
        subst r.Fore same x.0,
        λ b.
            let c = x.1 (subst r.Back (sym same) b) in
            let flat = ap is_float_word (word_told m.types m.struct_names c.1.0.0 h.0.id c.1.0.1.has_shape ∙ sym (bits_are m 64 h.0 c.1.0.0 c.1.0.1)) ∙ not_true (is_float h.0) t.2.0 in
            (c.0, subst (λ (y : WrittenType). IsFit m is_scalar y × IsNoFloat m y.id) t.3.0 (c.1, flat)),
      )

  pub float_scalar_keeps : (i : Input) → Keeps r.Fore (Same r.Fore) r.Back float_scalar (λ w. IsFit m is_scalar w × IsFloat m w.id) i
  unfolding float_scalar
  float_scalar_keeps i w o h f =
      let x = scalar_keeps i h.0 h.1 h.2 f in
      let t = h.3 in
      let same = t.2.1 ∙ t.3.1 in (
        subst r.Fore same x.0,
        λ b.
            let c = x.1 (subst r.Back (sym same) b) in
            let is = ap is_float_word (word_told m.types m.struct_names c.1.0.0 h.0.id c.1.0.1.has_shape ∙ sym (bits_are m 64 h.0 c.1.0.0 c.1.0.1)) ∙ t.2.0 in
            (c.0, subst (λ (y : WrittenType). IsFit m is_scalar y × IsFloat m y.id) t.3.0 (c.1, is)),
      )

  -- the type of a call's result
  result_by_keeps : (wide : Bool) (i : Input) → Keeps r.Fore (Same r.Fore) r.Back (result_by wide) (IsFit m is_scalar) i
  result_by_keeps false i = scalar_keeps i
  result_by_keeps true i = λ w o h f.
      let x = type_before_keeps r i h.0 h.1 h.2 f in
      let t = h.3 in
      let same = t.2.1 ∙ t.3.1 in (
        subst r.Fore same x.0.0,
        λ b.
            let c = x.1 (subst r.Back (sym same) b) in
            (c.0, subst (IsFit m is_scalar) t.3.0 (c.1, t.2.0)),
      )

  pub result_type_keeps : (i : Input) → Keeps r.Fore (Same r.Fore) r.Back result_type (IsFit m is_scalar) i
  unfolding result_type
  result_type_keeps i = result_by_keeps i.wide i

  pub passed_keeps : (i : Input) → Keeps r.Fore (Same r.Fore) r.Back passed_type (IsFit m is_passed) i
  unfolding passed_type
  passed_keeps i = that_keeps is_passed i

  pub held_keeps : (i : Input) → Keeps r.Fore (Same r.Fore) r.Back held_type (IsFit m is_held) i
  unfolding held_type
  held_keeps i = that_keeps is_held i

  pub pointer_type_keeps : (i : Input) → Keeps r.Fore (Same r.Fore) r.Back pointer_type (λ w. IsPointer m w.id) i
  unfolding pointer_type
  pointer_type_keeps i w o h f =
      let x = any_type_keeps i h.0 h.1 h.2 f in
      let t = h.3 in
      let same = t.2.1 ∙ t.3.1 in (
        subst r.Fore same x.0,
        λ b.
            let c = x.1 (subst r.Back (sym same) b) in
            (c.0, subst (λ (y : WrittenType). IsPointer m y.id) t.3.0 (c.1.0, type_of m h.0 c.1.0 c.1.1, sym (pointer_is m 64 h.0 c.1.0 c.1.1) ∙ t.2.0)),
      )

  -- `{ T, .. }` as the definition of a named struct
  pub struct_body_keeps : (i : Input) → Keeps r.Fore (Same r.Fore) r.Back struct_body (λ n. (shape : Shape) × IsType m shape n × (is_struct_shape shape ≡ true)) i
  unfolding struct_body
  struct_body_keeps i n o h f =
      let x = struct_keeps r 63 (firm 63) (λ q. part_keeps q 63) i h.0 h.1 h.2 f in
      let t = h.3 in (
        subst r.Fore t.1 x.0.0,
        λ b.
            let c = x.1 (subst r.Back (sym t.1) b) in
            (c.0, (c.1.0, subst (λ (y : ℕ). IsType m c.1.0 y) t.0 (type_of m h.0 c.1.0 c.1.1), is_struct_of c.1.0 c.1.3)),
      )

  -- a pointer to the same type, or `ptr`
  pub place_type_keeps : (w : WrittenType) (i : Input) → w.id < length i.types → Keeps r.Fore (Same r.Fore) r.Back (pointer_again w) (λ n. (shape : Shape) → IsTypeOf m 64 w shape → IsPlaceType m shape w.id n) i
  unfolding pointer_again
  place_type_keeps w i there = by (sees k.Ptr i.cursor) where
    by : (t : Bool) → Keeps r.Fore (Same r.Fore) r.Back (opaque_or opaque_type (starred_again w) t) (λ n. (shape : Shape) → IsTypeOf m 64 w shape → IsPlaceType m shape w.id n) i
    by true = λ n o h f. let x = opaque_keeps r i n o h f in (x.0.0, λ back. let c = x.1 back in (c.0, λ shape own. inr (c.1.1, c.1.0)))
    by false = λ n o h f.
        let star = h.2.3 in
        let a = again_passes (having r w.id) w i h.2.0 h.2.1 h.2.2 (f, there) in
        let same = star.2.2.1 ∙ star.2.3.1 in
        let b = skip_passes (having r w.id) star.1 h.0 h.1 star.3 (subst (Has r.Fore w.id) same a.0) in
        let c = pointer_goes r (start i.cursor) (type.Pointer w.id) h.1 (λ next. (next, b.0.1)) n o h.3 b.0.0 in (
          c.0.0,
          λ back.
              let cb = c.1 back in
              let bb = b.1 cb.0 in
              let ab = a.1 (subst r.Back (sym same) bb.0) in (
                ab.0,
                λ shape own.
                    let room : nat_lt 0 w.room ≡ true = star.2.3.0 in
                    let fits = own.fits in
                    let some : 0 < w.room = grind (arith, nat_tests) in
                    inl (cb.1.1.0, cb.1.0, omega (arith, fits, some)),
              ),
        )
