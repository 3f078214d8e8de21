-- Operations on integers, as they are read.
use Rattle.std.proofs.Common.{◌≡◌, ℕ, Bool, true, false, Option, None, Some, refl, sym, subst, ◌∙◌}
use Rattle.std.specs.Prelude.{◌&&◌, if◌then◌else◌}
use Rattle.grammar.specs.Grammar.{pure}
use Rattle.ir_ast.specs.declared.function.Function.{Function}
use Rattle.ir_ast.specs.declared.function.LocalSort.TheVariants as local
use Rattle.ir_ast.specs.declared.ir_type.IrType.TheVariants as type
use Rattle.ir_ast.specs.declared.module.Module.{Module}
use Rattle.ir_ast.specs.declared.numbers.Arithmetic.{Arithmetic}
use Rattle.ir_tokens.specs.declared.token.Kind.{Kind}
use Rattle.ir_ast.specs.declared.numbers.Comparison.{Comparison}
use Rattle.ir_ast.specs.declared.numbers.NumberOp.{NumberOp}
use Rattle.ir_ast.specs.declared.numbers.NumberOp.TheVariants as number
use Rattle.ir_ast.specs.declared.numbers.Resize.{Resize}
use Rattle.ir_tokens.specs.declared.token.Kind.TheVariants as k
use Rattle.ir_forms.specs.Cursor.{kind, sees, spelling}
use Rattle.ir_forms.specs.declared.input.Input.{Input}
use Rattle.ir_forms.specs.Decorations.{either}
use Rattle.ir_forms.specs.Input.{skip, unexpected}
use Rattle.ir_forms.specs.Numbers.{arithmetic, wide_of, wide_here, wide_by, wide_or_resized, wide_arithmetic, exact, is_exact, resize, comparison_of, comparison_by, comparison, compare, integer_op, arithmetic_of, arithmetic_by, resized, resize_of, resize_by}
use Rattle.ir_print_law.specs.Numbers.{IsNumberOp, MayStand, is_wide}
use Rattle.ir_print_law.proofs.Arguments.{typed_integer_keeps, pair_keeps}
use Rattle.ir_print_law.proofs.Decorations.{flagged_passes}
use Rattle.ir_print_law.proofs.Passes.{Passes, skip_passes, expect_passes, look_passes, past, pure_passes, refuse_passes}
use Rattle.ir_print_law.proofs.Reading.{Naming}
use Rattle.ir_print_law.proofs.Tokens.{intern_goes}
use Rattle.ir_print_law.proofs.TypesThat.{scalar_of, integer_scalar_keeps}
use Rattle.ir_print_law.proofs.ValueSorts.{Gives, ends}

-- an operation that is no wide form, if there is one
abbrev IsNarrow : Option Arithmetic → Type 0
IsNarrow None = Unit {0}
IsNarrow (Some y) = is_wide y ≡ false

-- the words of the six operations name no wide form
narrow_word : (x : Kind) → IsNarrow (arithmetic_of x)
narrow_word k.Add = refl
narrow_word k.Sub = refl
narrow_word k.Mul = refl
narrow_word k.And = refl
narrow_word k.Or = refl
narrow_word k.Xor = refl
narrow_word _ = tt

-- where a wide form is named, they may stand
wide_here_is : (i : Input) (y : Arithmetic) → wide_here i ≡ Some y → i.wide ≡ true
unfolding wide_here
wide_here_is i y e = pick i.wide refl e where
  pick : (t : Bool) → i.wide ≡ t → (if t && sees k.LeftOut i.cursor then wide_of (spelling i.cursor) else None) ≡ Some y → i.wide ≡ true
  pick true is e = is
  pick false is e = absurd cc

module _ {m : Module} {f : Function} {value : ℕ} (n : Naming m f value) where
  arithmetic_keeps : (y : Arithmetic) → is_wide y ≡ false → Gives n (arithmetic y value) (IsNumberOp m f)
  unfolding arithmetic
  arithmetic_keeps y narrow i x o h fore =
      let r = n.within.reading in
      let t = h.3 in
      let a = flagged_passes r i h.0 h.1 h.2 fore in
      let b = pair_keeps n.within h.1 t.0 t.1 t.2 a.0 in
      let c = ends n (local.Value t.0.written) tt (number.Arithmetic y t.0.written t.0.first t.0.second) t.1 x o t.3 b.0 in (
        c.0,
        λ back.
            let cb = c.1 back in
            let bb = b.1 cb.0 in
            ((a.1 bb.0).0, subst (IsNumberOp m f) cb.1 ((λ wide. absurd cc), bb.1.0, bb.1.1)),
      )

  exact_by_passes : (t : Bool) → Passes n.within.reading (either skip (pure tt) t)
  exact_by_passes true = skip_passes n.within.reading
  exact_by_passes false = pure_passes n.within.reading tt

  exact_passes : Passes n.within.reading exact
  unfolding exact
  exact_passes = look_passes n.within.reading is_exact (either skip (pure tt)) exact_by_passes

  -- a shift, a division or a remainder, where the wide forms may stand
  wide_keeps : (y : Arithmetic) (i : Input) → i.wide ≡ true → (x : NumberOp) (o : Input) → (wide_arithmetic y value).says i x o → n.within.reading.Fore i
      → n.After o × (n.within.reading.Back o → n.within.reading.Back i × IsNumberOp m f x)
  unfolding wide_arithmetic
  wide_keeps y i wide x o h fore =
      let r = n.within.reading in
      let t = h.3 in
      let u = t.3 in
      let a = flagged_passes r i h.0 h.1 h.2 fore in
      let b = exact_passes h.1 t.0 t.1 t.2 a.0 in
      let c = pair_keeps n.within t.1 u.0 u.1 u.2 b.0 in
      let d = ends n (local.Value u.0.written) tt (number.Arithmetic y u.0.written u.0.first u.0.second) u.1 x o u.3 c.0 in (
        d.0,
        λ back.
            let db = d.1 back in
            let cb = c.1 db.0 in
            let bb = b.1 cb.0 in
            let first = (a.1 bb.0).0 in
            (first, subst (IsNumberOp m f) db.1 ((λ _. sym (r.forms i first) ∙ wide), cb.1.0, cb.1.1)),
      )

  resize_keeps : (y : Resize) → Gives n (resize y value) (IsNumberOp m f)
  unfolding resize
  resize_keeps y i x o h fore =
      let r = n.within.reading in
      let t = h.3 in
      let u = t.3 in
      let w = u.3 in
      let a = flagged_passes r i h.0 h.1 h.2 fore in
      let b = typed_integer_keeps n.within h.1 t.0 t.1 t.2 a.0 in
      let c = expect_passes r k.To t.1 u.0 u.1 u.2 b.0 in
      let d = integer_scalar_keeps r u.1 w.0 w.1 w.2 c.0 in
      let e = ends n (local.Value w.0.id) tt (number.Resize y t.0.written t.0.operand w.0.id) w.1 x o w.3 d.0 in (
        e.0,
        λ back.
            let eb = e.1 back in
            let db = d.1 eb.0 in
            let cb = c.1 db.0 in
            let bb = b.1 cb.0 in
            ((a.1 bb.0).0, subst (IsNumberOp m f) eb.1 (bb.1.0, db.1.1, (bb.1.1, (db.1.0.0.0, scalar_of m w.0 db.1.0)))),
      )

  comparison_by_passes : (x : Option Comparison) → Passes n.within.reading (comparison_by x)
  comparison_by_passes None = refuse_passes n.within.reading unexpected
  comparison_by_passes (Some x) = past n.within.reading skip (pure x) (skip_passes n.within.reading) (pure_passes n.within.reading x)

  comparison_passes : Passes n.within.reading comparison
  unfolding comparison
  comparison_passes = look_passes n.within.reading (λ i. comparison_of (kind i.cursor)) comparison_by comparison_by_passes

  pub compare_keeps : Gives n (compare value) (IsNumberOp m f)
  unfolding compare
  compare_keeps i x o h fore =
      let r = n.within.reading in
      let t = h.3 in
      let u = t.3 in
      let w = u.3 in
      let a = flagged_passes r i h.0 h.1 h.2 fore in
      let b = comparison_passes h.1 t.0 t.1 t.2 a.0 in
      let c = pair_keeps n.within t.1 u.0 u.1 u.2 b.0 in
      let d = intern_goes r (type.Integer 1) u.1 tt w.0 w.1 w.2 c.0 in
      let e = ends n (local.Value w.0) tt (number.Compare t.0 u.0.written u.0.first u.0.second) w.1 x o w.3 d.0 in (
        e.0,
        λ back.
            let eb = e.1 back in
            let db = d.1 eb.0 in
            let cb = c.1 db.0 in
            let bb = b.1 cb.0 in
            ((a.1 bb.0).0, subst (IsNumberOp m f) eb.1 cb.1),
      )

  -- ---- by the word

  resize_by_keeps : (x : Option Resize) → Gives n (resize_by value x) (IsNumberOp m f)
  resize_by_keeps None = λ i x o h f. absurd h
  resize_by_keeps (Some y) = resize_keeps y

  wide_by_keeps : (z : Option Arithmetic) (i : Input) → wide_here i ≡ z → (x : NumberOp) (o : Input) → (wide_by value z).says i x o → n.within.reading.Fore i
      → n.After o × (n.within.reading.Back o → n.within.reading.Back i × IsNumberOp m f x)
  unfolding resized
  wide_by_keeps None i e = resize_by_keeps (resize_of (kind i.cursor)) i
  wide_by_keeps (Some y) i e = wide_keeps y i (wide_here_is i y e)

  arithmetic_by_keeps : (x : Option Arithmetic) → IsNarrow x → Gives n (arithmetic_by value x) (IsNumberOp m f)
  unfolding wide_or_resized
  arithmetic_by_keeps None narrow = λ i. wide_by_keeps (wide_here i) i refl
  arithmetic_by_keeps (Some y) narrow = arithmetic_keeps y narrow

  pub integer_op_keeps : Gives n (integer_op value) (IsNumberOp m f)
  unfolding integer_op
  integer_op_keeps i = arithmetic_by_keeps (arithmetic_of (kind i.cursor)) (narrow_word (kind i.cursor)) i
