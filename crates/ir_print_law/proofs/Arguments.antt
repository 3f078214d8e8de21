-- Operands with their types, pairs of operands, places and lists of arguments, as they are read.
use Rattle.std.proofs.Common.{ℕ, ◌<◌, Bool, true, false, if◌then◌else◌, List, [], ◌∷◌, length, Option, None, Some, sym, subst, ◌∙◌, arith}
use Rattle.std.specs.Prelude.{◌||◌, nat_lt, filter_map}
use Rattle.std.specs.List.{AllByRecursion}
use Rattle.ir_ast.specs.declared.argument.Argument.{Argument}
use Rattle.ir_ast.specs.declared.function.Function.{Function}
use Rattle.ir_ast.specs.declared.ir_type.IrType.TheVariants as type
use Rattle.ir_ast.specs.declared.module.Module.{Module}
use Rattle.ir_ast.specs.declared.operand.Operand.{Operand}
use Rattle.ir_tokens.specs.declared.token.Kind.TheVariants as k
use Rattle.ir_forms.specs.declared.input.Input.{Input}
use Rattle.ir_forms.specs.declared.written.WrittenType.{WrittenType}
use Rattle.ir_forms.specs.Written.{has_opaque, is_scalar, word_of}
use Rattle.ir_forms.specs.ManyWith.{Follows}
use Rattle.ir_forms.specs.declared.lists.DottedArguments.{DottedArguments}
use Rattle.ir_forms.specs.Lists.{argument, argument_takes, arguments, is_null, past_dots, dotted_argument, ends_dotted, after_dotted, dotted_arguments, at_round, typed, index, any_index, indices, ends_indices, after_index}
use Rattle.ir_forms.specs.Choices.{typed_pair}
use Rattle.ir_forms.specs.FloatOps.{float_pair}
use Rattle.ir_forms.specs.Numbers.{pair, typed_integer, condition, bit_type}
use Rattle.ir_forms.specs.Memory.{place_of}
use Rattle.ir_forms.specs.declared.decorating.Spot.TheVariants as spot
use Rattle.ir_forms.specs.declared.numbers.TwoOperands.{TwoOperands}
use Rattle.ir_forms.specs.declared.lists.IndexList.{IndexList}
use Rattle.ir_forms.specs.declared.written.Word.{Word}
use Rattle.ir_forms.specs.declared.written.Word.TheVariants as sort
use Rattle.ir_forms.specs.declared.written.FloatType.TheVariants as size
use Rattle.ir_print_law.specs.Definitions.{defined_structs}
use Rattle.ir_print_law.specs.Parts.{IsFloat, IsNoFloat, IsArgument, IsOperand, ArePair, IsCondition, IsPlaceType}
use Rattle.ir_print_law.specs.Shapes.{Shape, Integer, Float, Pointer, Array, Empty, Struct, Named, Opaque, IsWritten, word_of_shape}
use Rattle.ir_print_law.proofs.Forms.{Keeps, Same, all, all_with}
use Rattle.ir_print_law.proofs.Decorations.{decorations_pass, separator_passes}
use Rattle.ir_print_law.proofs.Looks.{IsTypeOf, bits_are}
use Rattle.ir_print_law.proofs.Operands.{AreBits, IsRead, operand_keeps}
use Rattle.ir_print_law.proofs.Passes.{expect_passes, again_passes}
use Rattle.ir_print_law.proofs.Reading.{Within}
use Rattle.ir_print_law.proofs.Tokens.{intern_goes}
use Rattle.ir_print_law.proofs.TypesThat.{IsFit, scalar_of, scalar_keeps, integer_scalar_keeps, float_scalar_keeps, place_type_keeps}

pub bits_written : (wide opaque : _) (structs : _) (shape : Shape) → IsWritten wide opaque structs shape → AreBits (word_of_shape shape)
bits_written wide opaque structs (Integer bits) h = h
bits_written wide opaque structs (Float size.Single) h = tt
bits_written wide opaque structs (Float size.Double) h = tt
bits_written wide opaque structs (Pointer part) h = tt
bits_written wide opaque structs (Array count part) h = tt
bits_written wide opaque structs Empty h = tt
bits_written wide opaque structs (Struct first rest) h = tt
bits_written wide opaque structs (Named name) h = tt
bits_written wide opaque structs Opaque h = tt

module _ {m : Module} {f : Function} (v : Within m f) where
  -- what was read as an operand of this type is one
  pub operand_at : (w : WrittenType) (h : IsFit m is_scalar w) (x : Operand) → IsRead v (word_of w) x → IsOperand m f (word_of_shape h.0.0) x
  operand_at w h x read =
      let e = bits_are m 64 w h.0.0 h.0.1 in
      subst (λ (b : Word). IsOperand m f b x) e (read (subst AreBits (sym e) (bits_written m.wide (has_opaque m.types) (defined_structs m) h.0.0 h.0.1.is_written)))

  pub typed_keeps : (i : Input) → Keeps v.reading.Fore (Same v.reading.Fore) v.reading.Back typed (IsArgument m f) i
  unfolding typed
  typed_keeps i x o h fore =
      let r = v.reading in
      let t = h.3 in
      let u = t.3 in
      let a = scalar_keeps r i h.0 h.1 h.2 fore in
      let b = operand_keeps v (word_of h.0) h.1 t.0 t.1 t.2 a.0 in (
        subst r.Fore u.1 b.0,
        λ back.
            let bb = b.1 (subst r.Back (sym u.1) back) in
            let ab = a.1 bb.0 in
            (ab.0, subst (IsArgument m f) u.0 (ab.1.0.0, scalar_of m h.0 ab.1, operand_at h.0 ab.1 t.0 bb.1)),
      )

  -- pairs and operands of integers or pointers, and of floating point numbers
  pub pair_keeps : (i : Input) → Keeps v.reading.Fore (Same v.reading.Fore) v.reading.Back pair (λ p. IsNoFloat m p.written × ArePair m f p.written p.first p.second) i
  unfolding pair
  pair_keeps i p o h fore =
      let r = v.reading in
      let t = h.3 in
      let u = t.3 in
      let w = u.3 in
      let z = w.3 in
      let a = integer_scalar_keeps r i h.0 h.1 h.2 fore in
      let b = operand_keeps v (word_of h.0) h.1 t.0 t.1 t.2 a.0 in
      let c = expect_passes r k.Comma t.1 u.0 u.1 u.2 b.0 in
      let d = operand_keeps v (word_of h.0) u.1 w.0 w.1 w.2 c.0 in (
        subst r.Fore z.1 d.0,
        λ back.
            let db = d.1 (subst r.Back (sym z.1) back) in
            let cb = c.1 db.0 in
            let bb = b.1 cb.0 in
            let ab = a.1 bb.0 in
            let fit = ab.1.0 in
            (ab.0, subst (λ (y : TwoOperands). IsNoFloat m y.written × ArePair m f y.written y.first y.second) z.0 (ab.1.1, (fit.0.0, scalar_of m h.0 fit, operand_at h.0 fit t.0 bb.1, operand_at h.0 fit w.0 db.1))),
      )

  pub float_pair_keeps : (i : Input) → Keeps v.reading.Fore (Same v.reading.Fore) v.reading.Back float_pair (λ p. IsFloat m p.written × ArePair m f p.written p.first p.second) i
  unfolding float_pair
  float_pair_keeps i p o h fore =
      let r = v.reading in
      let t = h.3 in
      let u = t.3 in
      let w = u.3 in
      let z = w.3 in
      let a = float_scalar_keeps r i h.0 h.1 h.2 fore in
      let b = operand_keeps v (word_of h.0) h.1 t.0 t.1 t.2 a.0 in
      let c = expect_passes r k.Comma t.1 u.0 u.1 u.2 b.0 in
      let d = operand_keeps v (word_of h.0) u.1 w.0 w.1 w.2 c.0 in (
        subst r.Fore z.1 d.0,
        λ back.
            let db = d.1 (subst r.Back (sym z.1) back) in
            let cb = c.1 db.0 in
            let bb = b.1 cb.0 in
            let ab = a.1 bb.0 in
            let fit = ab.1.0 in
            (ab.0, subst (λ (y : TwoOperands). IsFloat m y.written × ArePair m f y.written y.first y.second) z.0 (ab.1.1, (fit.0.0, scalar_of m h.0 fit, operand_at h.0 fit t.0 bb.1, operand_at h.0 fit w.0 db.1))),
      )

  pub typed_integer_keeps : (i : Input) → Keeps v.reading.Fore (Same v.reading.Fore) v.reading.Back typed_integer (λ x. IsNoFloat m x.written × IsArgument m f x) i
  unfolding typed_integer
  typed_integer_keeps i x o h fore =
      let r = v.reading in
      let t = h.3 in
      let u = t.3 in
      let a = integer_scalar_keeps r i h.0 h.1 h.2 fore in
      let b = operand_keeps v (word_of h.0) h.1 t.0 t.1 t.2 a.0 in (
        subst r.Fore u.1 b.0,
        λ back.
            let bb = b.1 (subst r.Back (sym u.1) back) in
            let ab = a.1 bb.0 in
            let fit = ab.1.0 in
            (ab.0, subst (λ (y : Argument). IsNoFloat m y.written × IsArgument m f y) u.0 (ab.1.1, (fit.0.0, scalar_of m h.0 fit, operand_at h.0 fit t.0 bb.1))),
      )

  pub typed_pair_keeps : (i : Input) → Keeps v.reading.Fore (Same v.reading.Fore) v.reading.Back typed_pair (λ p. ArePair m f p.written p.first p.second) i
  unfolding typed_pair
  typed_pair_keeps i p o h fore =
      let r = v.reading in
      let t = h.3 in
      let u = t.3 in
      let g = u.3 in
      let w = g.3 in
      let z = w.3 in
      let a = scalar_keeps r i h.0 h.1 h.2 fore in
      let b = operand_keeps v (word_of h.0) h.1 t.0 t.1 t.2 a.0 in
      let c = expect_passes r k.Comma t.1 u.0 u.1 u.2 b.0 in
      let e = again_passes r h.0 u.1 g.0 g.1 g.2 c.0 in
      let d = operand_keeps v (word_of h.0) g.1 w.0 w.1 w.2 e.0 in (
        subst r.Fore z.1 d.0,
        λ back.
            let db = d.1 (subst r.Back (sym z.1) back) in
            let eb = e.1 db.0 in
            let cb = c.1 eb.0 in
            let bb = b.1 cb.0 in
            let ab = a.1 bb.0 in
            (ab.0, subst (λ (y : TwoOperands). ArePair m f y.written y.first y.second) z.0 (ab.1.0.0, scalar_of m h.0 ab.1, operand_at h.0 ab.1 t.0 bb.1, operand_at h.0 ab.1 w.0 db.1)),
      )

  pub condition_keeps : (i : Input) → Keeps v.reading.Fore (Same v.reading.Fore) v.reading.Back condition (λ x. IsCondition m f x.written x.operand) i
  unfolding condition
  condition_keeps i x o h fore =
      let r = v.reading in
      let t = h.3 in
      let u = t.3 in
      let z = u.3 in
      let a = intern_goes r (type.Integer 1) i tt h.0 h.1 h.2 fore in
      let b = again_passes r (bit_type h.0) h.1 t.0 t.1 t.2 a.0 in
      let c = operand_keeps v (sort.Integer 1) t.1 u.0 u.1 u.2 b.0 in (
        subst r.Fore z.1 c.0,
        λ back.
            let cb = c.1 (subst r.Back (sym z.1) back) in
            let bb = b.1 cb.0 in
            let ab = a.1 bb.0 in
            (ab.0, subst (λ (y : Argument). IsCondition m f y.written y.operand) z.0 (ab.1.0, cb.1 (omega arith, omega arith))),
      )

  -- a place of a value of this type
  abbrev pub IsPlaceOf : WrittenType → Argument → Type 0
  IsPlaceOf held a = ((shape : Shape) → IsTypeOf m 64 held shape → IsPlaceType m shape held.id a.written) × IsOperand m f sort.Pointer a.operand

  pub place_keeps : (held : WrittenType) (i : Input) → held.id < length i.types → Keeps v.reading.Fore (Same v.reading.Fore) v.reading.Back (place_of held) (IsPlaceOf held) i
  unfolding place_of
  place_keeps held i there x o h fore =
      let r = v.reading in
      let t = h.3 in
      let u = t.3 in
      let a = place_type_keeps r held i there h.0 h.1 h.2 fore in
      let b = operand_keeps v sort.Pointer h.1 t.0 t.1 t.2 a.0 in (
        subst r.Fore u.1 b.0,
        λ back.
            let bb = b.1 (subst r.Back (sym u.1) back) in
            let ab = a.1 bb.0 in
            (ab.0, subst (IsPlaceOf held) u.0 (ab.1, bb.1 tt)),
      )

  -- ---- arguments of a call

  pub argument_keeps : (i : Input) → Keeps v.reading.Fore (Same v.reading.Fore) v.reading.Back argument (IsArgument m f) i
  unfolding argument
  argument_keeps i x o h fore =
      let r = v.reading in
      let t = h.3 in
      let u = t.3 in
      let w = u.3 in
      let z = w.3 in
      let a = scalar_keeps r i h.0 h.1 h.2 fore in
      let b = decorations_pass r spot.Argument h.1 t.0 t.1 t.2 a.0 in
      let c = operand_keeps v (word_of h.0) t.1 u.0 u.1 u.2 b.0 in
      let d = separator_passes r k.CloseRound u.1 w.0 w.1 w.2 c.0 in (
        subst r.Fore z.1 d.0,
        λ back.
            let db = d.1 (subst r.Back (sym z.1) back) in
            let cb = c.1 db.0 in
            let bb = b.1 cb.0 in
            let ab = a.1 bb.0 in
            (ab.0, subst (IsArgument m f) z.0 (ab.1.0.0, scalar_of m h.0 ab.1, operand_at h.0 ab.1 u.0 cb.1)),
      )

  pub arguments_keep : (i : Input) → Keeps v.reading.Fore (Same v.reading.Fore) v.reading.Back arguments (AllByRecursion (IsArgument m f)) i
  unfolding arguments
  arguments_keep i = all v.reading.Back v.reading.Fore (IsArgument m f) at_round argument argument_takes argument_keeps i

  -- what is kept of an argument
  abbrev IsKept : Option Argument → Type 0
  IsKept None = Unit {0}
  IsKept (Some x) = IsArgument m f x

  kept_or : (t : Bool) (x y : Option Argument) → IsKept x → IsKept y → IsKept (if t then x else y)
  kept_or true x y a b = a
  kept_or false x y a b = b

  past_is : (w : Word) (x : Argument) (outside : Bool) → IsArgument m f x → IsKept (past_dots w x outside)
  past_is sort.Pointer x outside is = kept_or (outside || is_null x.operand) None (Some x) tt is
  past_is (sort.Integer bits) x outside is = tt
  past_is sort.Float x outside is = tt
  past_is sort.Double x outside is = tt

  dotted_keeps : (s : DottedArguments) (i : Input) → Keeps v.reading.Fore (Same v.reading.Fore) v.reading.Back (dotted_argument s) IsKept i
  unfolding dotted_argument argument
  dotted_keeps s i x o h fore =
      let t = h.3 in
      let b = t.3 in
      let same = b.2.1 ∙ b.3.1 in
      let a = argument_keeps i t.0 t.1 (h.0, h.1, h.2, t.2) fore in (
        subst v.reading.Fore same a.0,
        λ back.
            let ab = a.1 (subst v.reading.Back (sym same) back) in
            (ab.0, subst IsKept b.3.0 (kept_or (nat_lt 0 s.left) (Some t.0) (past_dots (word_of h.0) t.0 b.0) ab.1 (past_is (word_of h.0) t.0 b.0 ab.1))),
      )

  all_kept : (xs : List (Option Argument)) → AllByRecursion IsKept xs → AllByRecursion (IsArgument m f) (filter_map (λ x. x) xs)
  all_kept [] h = tt
  all_kept (None ∷ xs) h = all_kept xs h.1
  all_kept (Some x ∷ xs) h = (h.0, all_kept xs h.1)

  pub dotted_arguments_keep : (fixed : ℕ) (i : Input) → Keeps v.reading.Fore (Same v.reading.Fore) v.reading.Back (dotted_arguments fixed) (AllByRecursion (IsArgument m f)) i
  unfolding dotted_arguments
  dotted_arguments_keep fixed i xs o h fore =
      let r = v.reading in
      let a = all_with r.Back r.Fore IsKept ends_dotted dotted_argument after_dotted dotted_keeps (record { left = fixed }) i h.0 h.1 h.2 fore in
      (subst r.Fore h.3.1 a.0, λ back. let ab = a.1 (subst r.Back (sym h.3.1) back) in (ab.0, subst (AllByRecursion (IsArgument m f)) h.3.0 (all_kept h.0 ab.1)))

  -- ---- indices

  index_keeps : (s : IndexList) (i : Input) → Keeps v.reading.Fore (Same v.reading.Fore) v.reading.Back (any_index s) (IsArgument m f) i
  unfolding index
  index_keeps s i x o h fore =
      let r = v.reading in
      let a = expect_passes r k.Comma i h.0 h.1 h.2 fore in
      let b = typed_keeps h.1 x o h.3 a.0 in
      (b.0, λ back. let bb = b.1 back in ((a.1 bb.0).0, bb.1))

  some_index : (i : Input) (xs : List Argument) (o : Input) → Follows ends_indices (λ c. (any_index c).says) after_index (record { is_further = false }) i xs o → 0 < length xs
  some_index i [] o h = absurd (let e = h.0 in cc)
  some_index i (x ∷ xs) o h = omega arith

  pub indices_keep : (i : Input) → Keeps v.reading.Fore (Same v.reading.Fore) v.reading.Back indices (λ xs. (0 < length xs) × AllByRecursion (IsArgument m f) xs) i
  unfolding indices
  indices_keep i xs o h fore =
      let x = all_with v.reading.Back v.reading.Fore (IsArgument m f) ends_indices any_index after_index index_keeps (record { is_further = false }) i xs o h fore in
      (x.0, λ b. let c = x.1 b in (c.0, (some_index i xs o h, c.1)))
