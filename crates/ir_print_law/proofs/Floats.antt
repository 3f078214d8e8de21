-- Operations on floating point numbers, as they are read.
use Rattle.std.proofs.Common.{◌≡◌, ℕ, Bool, true, false, Option, None, Some, slice_get, refl, sym, subst, ◌∙◌}
use Rattle.std.specs.Prelude.{◌&&◌, if◌then◌else◌}
use Rattle.grammar.specs.Grammar.{pure, ◌>>◌}
use Rattle.grammar.specs.Many.{many}
use Rattle.ir_ast.specs.declared.floats.Conversion.{Conversion}
use Rattle.ir_ast.specs.declared.floats.Conversion.TheVariants as conversion
use Rattle.ir_ast.specs.declared.floats.FloatArithmetic.{FloatArithmetic}
use Rattle.ir_ast.specs.declared.floats.FloatComparison.{FloatComparison}
use Rattle.ir_ast.specs.declared.floats.FloatOp.{FloatOp}
use Rattle.ir_ast.specs.declared.floats.FloatOp.TheVariants as float
use Rattle.ir_ast.specs.declared.function.Function.{Function}
use Rattle.ir_ast.specs.declared.function.LocalSort.TheVariants as local
use Rattle.ir_ast.specs.declared.ir_type.IrType.TheVariants as type
use Rattle.ir_ast.specs.declared.module.Module.{Module}
use Rattle.ir_ast.specs.declared.numbers.NumberOp.TheVariants as number
use Rattle.ir_tokens.specs.declared.token.Kind.TheVariants as k
use Rattle.ir_forms.specs.Cursor.{sees, spelling}
use Rattle.ir_forms.specs.Decorations.{optional}
use Rattle.ir_forms.specs.FloatOps as floats
use Rattle.ir_forms.specs.Input.{skip, expect, unexpected}
use Rattle.ir_forms.specs.Written.{word_of}
use Rattle.ir_forms.specs.declared.float_ops.FloatWord.{FloatWord}
use Rattle.ir_forms.specs.declared.float_ops.FloatWord.TheVariants as word
use Rattle.ir_forms.specs.declared.input.Input.{Input}
use Rattle.ir_forms.specs.declared.written.Word.{Word}
use Rattle.ir_print_law.specs.Parts.{word_of_type}
use Rattle.ir_print_law.specs.Floats.{IsFloatOp}
use Rattle.ir_print_law.specs.Numbers.{IsNumberOp}
use Rattle.ir_print_law.proofs.Arguments.{float_pair_keeps, operand_at}
use Rattle.ir_print_law.proofs.Decorations.{optional_passes}
use Rattle.ir_print_law.proofs.Looks.{bits_are}
use Rattle.ir_print_law.proofs.Operands.{operand_keeps}
use Rattle.ir_print_law.proofs.Passes.{Passes, skip_passes, expect_passes, look_passes, past, pure_passes, refuse_passes, all_pass}
use Rattle.ir_print_law.proofs.Reading.{Naming}
use Rattle.ir_print_law.proofs.Shown.{word_told}
use Rattle.ir_print_law.proofs.Tokens.{intern_goes}
use Rattle.ir_print_law.proofs.TypesThat.{scalar_of, scalar_keeps, float_scalar_keeps}
use Rattle.ir_print_law.proofs.ValueSorts.{Gives, ends}

-- where such an operation is named, the wide forms may stand
pub float_word_wide : (i : Input) (x : FloatWord) → floats.float_word_here i ≡ Some x → i.wide ≡ true
unfolding floats.float_word_here
float_word_wide i x e = pick i.wide refl e where
  pick : (t : Bool) → i.wide ≡ t → (if t && sees k.LeftOut i.cursor then floats.float_word_of (spelling i.cursor) else None) ≡ Some x → i.wide ≡ true
  pick true is e = is
  pick false is e = absurd cc

module _ {m : Module} {f : Function} {value : ℕ} (n : Naming m f value) where
  -- the word of an operation, with its flags
  flagged_passes : Passes n.within.reading floats.flagged_float
  unfolding floats.flagged_float
  flagged_passes =
      let r = n.within.reading in
      past r (skip >> many floats.at_no_float_flag floats.float_flag floats.float_flag_takes) (pure tt)
      (past r skip (many floats.at_no_float_flag floats.float_flag floats.float_flag_takes) (skip_passes r) (all_pass r floats.at_no_float_flag floats.float_flag floats.float_flag_takes (expect_passes r k.LowercaseWord))) (pure_passes r tt)

  arithmetic_keeps : (y : FloatArithmetic) → Gives n (floats.float_arithmetic y value) (IsFloatOp m f)
  unfolding floats.float_arithmetic
  arithmetic_keeps y i x o h fore =
      let t = h.3 in
      let a = flagged_passes i h.0 h.1 h.2 fore in
      let b = float_pair_keeps n.within h.1 t.0 t.1 t.2 a.0 in
      let c = ends n (local.Value t.0.written) tt (float.Arithmetic y t.0.written t.0.first t.0.second) t.1 x o t.3 b.0 in (
        c.0,
        λ back.
            let cb = c.1 back in
            let bb = b.1 cb.0 in
            ((a.1 bb.0).0, subst (IsFloatOp m f) cb.1 bb.1),
      )

  negate_keeps : Gives n (floats.negate value) (IsFloatOp m f)
  unfolding floats.negate
  negate_keeps i x o h fore =
      let r = n.within.reading in
      let t = h.3 in
      let u = t.3 in
      let a = flagged_passes i h.0 h.1 h.2 fore in
      let b = float_scalar_keeps r h.1 t.0 t.1 t.2 a.0 in
      let c = operand_keeps n.within (word_of t.0) t.1 u.0 u.1 u.2 b.0 in
      let d = ends n (local.Value t.0.id) tt (float.Negate t.0.id u.0) u.1 x o u.3 c.0 in (
        d.0,
        λ back.
            let db = d.1 back in
            let cb = c.1 db.0 in
            let bb = b.1 cb.0 in
            let fit = bb.1.0 in
            ((a.1 bb.0).0, subst (IsFloatOp m f) db.1 (bb.1.1, (fit.0.0, scalar_of m t.0 fit, operand_at n.within t.0 fit u.0 cb.1))),
      )

  comparison_by_passes : (x : Option FloatComparison) → Passes n.within.reading (floats.float_comparison_by x)
  comparison_by_passes None = refuse_passes n.within.reading unexpected
  comparison_by_passes (Some x) = past n.within.reading skip (pure x) (skip_passes n.within.reading) (pure_passes n.within.reading x)

  comparison_passes : Passes n.within.reading floats.float_comparison
  unfolding floats.float_comparison
  comparison_passes = look_passes n.within.reading floats.float_comparison_here floats.float_comparison_by comparison_by_passes

  compare_keeps : Gives n (floats.float_compare value) (IsFloatOp m f)
  unfolding floats.float_compare
  compare_keeps i x o h fore =
      let r = n.within.reading in
      let t = h.3 in
      let u = t.3 in
      let w = u.3 in
      let a = flagged_passes i h.0 h.1 h.2 fore in
      let b = comparison_passes h.1 t.0 t.1 t.2 a.0 in
      let c = float_pair_keeps n.within t.1 u.0 u.1 u.2 b.0 in
      let d = intern_goes r (type.Integer 1) u.1 tt w.0 w.1 w.2 c.0 in
      let e = ends n (local.Value w.0) tt (float.Compare t.0 u.0.written u.0.first u.0.second) w.1 x o w.3 d.0 in (
        e.0,
        λ back.
            let eb = e.1 back in
            let db = d.1 eb.0 in
            let cb = c.1 db.0 in
            let bb = b.1 cb.0 in
            ((a.1 bb.0).0, subst (IsFloatOp m f) eb.1 cb.1),
      )

  -- the word of a change, with its flags
  conversion_passes : (x : Conversion) → Passes n.within.reading (floats.flagged_conversion x)
  conversion_passes conversion.Extend = flagged_passes
  conversion_passes conversion.Truncate = flagged_passes
  conversion_passes conversion.FromUnsigned = past n.within.reading skip (optional k.Nneg) (skip_passes n.within.reading) (optional_passes n.within.reading k.Nneg)
  conversion_passes conversion.ToSigned = skip_passes n.within.reading
  conversion_passes conversion.ToUnsigned = skip_passes n.within.reading
  conversion_passes conversion.FromSigned = skip_passes n.within.reading

  convert_keeps : (y : Conversion) → Gives n (floats.convert y value) (IsFloatOp m f)
  unfolding floats.convert
  convert_keeps y i x o h fore =
      let r = n.within.reading in
      let t1 = h.3 in
      let t2 = t1.3 in
      let t3 = t2.3 in
      let t4 = t3.3 in
      let t5 = t4.3 in
      let a = conversion_passes y i h.0 h.1 h.2 fore in
      let c = scalar_keeps r h.1 t1.0 t1.1 t1.2 a.0 in
      let d = operand_keeps n.within (word_of t1.0) t1.1 t2.0 t2.1 t2.2 c.0 in
      let e = expect_passes r k.To t2.1 t3.0 t3.1 t3.2 d.0 in
      let g = scalar_keeps r t3.1 t4.0 t4.1 t4.2 e.0 in
      let rule = t5.2 in
      let l = ends n (local.Value t4.0.id) tt (float.Convert y t1.0.id t2.0 t4.0.id) t5.1 x o t5.3 (subst n.within.reading.Fore rule.1 g.0) in (
        l.0,
        λ back.
            let lb = l.1 back in
            let gb = g.1 (subst n.within.reading.Back (sym rule.1) lb.0) in
            let eb = e.1 gb.0 in
            let db = d.1 eb.0 in
            let cb = c.1 db.0 in
            let from = cb.1 in
            let into = gb.1 in
            let from_is = word_told m.types m.struct_names from.0.0 t1.0.id from.0.1.has_shape ∙ sym (bits_are m 64 t1.0 from.0.0 from.0.1) in
            let into_is = word_told m.types m.struct_names into.0.0 t4.0.id into.0.1.has_shape ∙ sym (bits_are m 64 t4.0 into.0.0 into.0.1) in
            let may : floats.may_convert y (word_of_type (slice_get m.types t1.0.id)) (word_of_type (slice_get m.types t4.0.id)) ≡ true = rw (from_is, into_is) rule.0 in
            ((a.1 cb.0).0, subst (IsFloatOp m f) lb.1 (may, ((from.0.0, scalar_of m t1.0 from, operand_at n.within t1.0 from t2.0 db.1), (into.0.0, scalar_of m t4.0 into)))),
      )

  float_by_keeps : (x : FloatWord) → Gives n (floats.float_op value x) (IsFloatOp m f)
  float_by_keeps (word.Arithmetic x) = arithmetic_keeps x
  float_by_keeps word.Negate = negate_keeps
  float_by_keeps word.Compare = compare_keeps
  float_by_keeps (word.Convert x) = convert_keeps x

  -- an operation on floating point numbers stands in a text of the wide forms
  pub float_op_keeps : (i : Input) (x : FloatWord) → i.wide ≡ true → (y : FloatOp) (o : Input) → (floats.float_op value x).says i y o → n.within.reading.Fore i
      → n.After o × (n.within.reading.Back o → n.within.reading.Back i × IsNumberOp m f (number.Float y))
  float_op_keeps i x wide y o h fore =
      let a = float_by_keeps x i y o h fore in
      (a.0, λ back. let ab = a.1 back in (ab.0, (sym (n.within.reading.forms i ab.0) ∙ wide, ab.1)))
