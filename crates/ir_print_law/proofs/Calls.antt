-- Calls, as they are read.
use Rattle.std.proofs.Common.{inl, inr, ◌≡◌, ℕ, Bool, true, false, not, List, Option, None, Some, slice_get, refl, sym, ap, subst, ◌∙◌}
use Rattle.std.specs.List.{AllByRecursion}
use Rattle.std.specs.Prelude.{length}
use Rattle.grammar.specs.Grammar.{pure}
use Rattle.lemmas.specs.Lists.{IsIn}
use Rattle.ir_ast.specs.declared.calls.Call.{Call}
use Rattle.ir_ast.specs.declared.function.Function.{Function}
use Rattle.ir_ast.specs.declared.function.LocalSort.TheVariants as local
use Rattle.ir_ast.specs.declared.ir_type.IrType.{IrType}
use Rattle.ir_ast.specs.declared.ir_type.IrType.TheVariants as type
use Rattle.ir_ast.specs.declared.module.Module.{Module}
use Rattle.ir_ast.specs.declared.op.Op.{Op}
use Rattle.ir_ast.specs.declared.op.Op.TheVariants as op
use Rattle.ir_ast.specs.declared.operand.Constant.TheVariants as constant
use Rattle.ir_ast.specs.declared.operand.Operand.TheVariants as operand
use Rattle.ir_tokens.specs.Bytes.{Text}
use Rattle.ir_tokens.specs.declared.token.Kind.{Kind}
use Rattle.ir_tokens.specs.declared.token.Kind.TheVariants as k
use Rattle.ir_forms.specs.Calls.{parameter_after, parameter, parameter_takes, before_dots, signature_after, begins_signature, signature_by, signature, arguments_by, call_parts, called_by, called, call_after, call_of, typed_call, named_call_by, named_call, call, void_call, tail_call}
use Rattle.ir_forms.specs.Cursor.{kind, sees, left_out}
use Rattle.ir_forms.specs.Input.{skip}
use Rattle.ir_forms.specs.Lists.{separator, ends_parameters}
use Rattle.ir_forms.specs.declared.decorating.Spot.TheVariants as spot
use Rattle.ir_forms.specs.StandIns.{stand_in, first_of, null_of}
use Rattle.ir_forms.specs.Written.{is_scalar, any_type}
use Rattle.ir_forms.specs.declared.input.Input.{Input}
use Rattle.ir_forms.specs.declared.stand_ins.StandIn.{StandIn}
use Rattle.ir_forms.specs.declared.stand_ins.StandIn.TheVariants.{Itself, First, Null}
use Rattle.ir_forms.specs.declared.written.WrittenType.{WrittenType}
use Rattle.ir_forms.specs.declared.written.Word.{Word}
use Rattle.ir_forms.specs.declared.written.FloatType.TheVariants as size
use Rattle.ir_forms.specs.declared.written.Word.TheVariants as sort
use Rattle.ir_print_law.specs.Fits.{FitsType}
use Rattle.ir_print.specs.Names.{name_at}
use Rattle.ir_print_law.specs.Definitions.{functions_of}
use Rattle.ir_print_law.specs.Parts.{IsArgument, IsReturned}
use Rattle.ir_print_law.specs.Calls.{IsCall}
use Rattle.ir_print_law.specs.Casts.{IsCast}
use Rattle.ir_print_law.specs.Printable.{IsOp, gives_value, is_void}
use Rattle.ir_print_law.specs.Shapes.{Shape, Integer, Float, Pointer, Array, Empty, Struct, Named, Opaque, HasShape, word_of_shape}
use Rattle.ir_print_law.proofs.Arguments.{argument_keeps, arguments_keep, dotted_arguments_keep}
use Rattle.ir_print_law.proofs.Decorations.{decorations_pass, past_brackets_passes, separator_passes}
use Rattle.ir_print_law.proofs.Forms.{Keeps, Same, wrapped}
use Rattle.ir_print_law.proofs.Operands.{callee_keeps}
use Rattle.ir_print_law.proofs.OutsideRead.{any_type_passes, dots_pass}
use Rattle.ir_print_law.proofs.Passes.{Passes, skip_passes, expect_passes, check_passes, pure_passes, then_passes, past, look_passes, all_pass}
use Rattle.ir_print_law.proofs.Reading.{Reading, Within, Naming}
use Rattle.ir_print_law.proofs.Tokens.{intern_goes}
use Rattle.ir_print_law.proofs.TypesThat.{IsFit, scalar_of, result_type_keeps}
use Rattle.ir_print_law.proofs.ValueSorts.{Gives, ends, sort_keeps}

-- a call that gives a value, or none
abbrev pub IsGivingCall : Module → Function → (gives : Bool) → Call → Type 0
IsGivingCall m f gives x = IsCall m f x × (gives_value m (op.Call x) ≡ gives)

no_void : (types : List IrType) (names : List Text) (shape : Shape) (n : ℕ) → HasShape types names shape n → is_void (slice_get types n) ≡ false
no_void types names (Integer bits) n h = ap is_void h
no_void types names (Float size.Single) n h = ap is_void h
no_void types names (Float size.Double) n h = ap is_void h
no_void types names (Pointer part) n h = ap is_void h.1
no_void types names (Array count part) n h = ap is_void h.1
no_void types names Empty n h = ap is_void h
no_void types names (Struct first rest) n h = ap is_void h.2
no_void types names (Named name) n h = ap is_void h.1
no_void types names Opaque n h = ap is_void h

module _ {m : Module} (r : Reading m) where
  -- ---- the types of a function's parameters, before its name

  parameter_passes : Passes r parameter
  unfolding parameter
  parameter_passes = then_passes r any_type parameter_after (any_type_passes r) (λ w. past r (separator k.CloseRound) (pure w.id) (separator_passes r k.CloseRound) (pure_passes r w.id))

  signature_after_passes : Passes r signature_after
  signature_after_passes i a o h fore =
      let t1 = h.3 in
      let t2 = t1.3 in
      let t3 = t2.3 in
      let b0 = all_pass r ends_parameters parameter parameter_takes parameter_passes i h.0 h.1 h.2 fore in
      let b1 = dots_pass r h.1 t1.0 t1.1 t1.2 b0.0 in
      let b2 = expect_passes r k.CloseRound t1.1 t2.0 t2.1 t2.2 b1.0 in
      let b3 = check_passes r (λ i. not (sees k.Star i.cursor)) (λ i. left_out i.cursor) t2.1 t3.0 t3.1 t3.2 b2.0 in
      let b4 = pure_passes r (before_dots (length h.0) t1.0) t3.1 a o t3.3 b3.0 in
      (b4.0, λ b. b0.1 (b1.1 (b2.1 (b3.1 (b4.1 b).0).0).0).0)

  signature_by_passes : (t : Bool) → Passes r (signature_by t)
  signature_by_passes true = past r skip signature_after (skip_passes r) signature_after_passes
  signature_by_passes false = pure_passes r None

  signature_passes : Passes r signature
  unfolding signature
  signature_passes = look_passes r begins_signature signature_by signature_by_passes

module _ {m : Module} {f : Function} (v : Within m f) where
  called_by_keeps : (x : Kind) (i : Input) → Keeps v.reading.Fore (Same v.reading.Fore) v.reading.Back (called_by x) (λ s. IsIn (name_at m.symbols s) (functions_of m)) i
  called_by_keeps k.GlobalName i = callee_keeps v.reading i
  called_by_keeps _ i = λ a o h f. absurd h

  called_keeps : (i : Input) → Keeps v.reading.Fore (Same v.reading.Fore) v.reading.Back called (λ s. IsIn (name_at m.symbols s) (functions_of m)) i
  unfolding called
  called_keeps i = called_by_keeps (kind i.cursor) i

  -- a call, where it may return what it does, which has this type
  abbrev IsReturning : ℕ → Call → Type 0
  IsReturning returned x = (IsReturned m returned → IsCall m f x) × (x.returned ≡ returned)

  arguments_by_keep : (fixed : Option ℕ) (i : Input) → Keeps v.reading.Fore (Same v.reading.Fore) v.reading.Back (arguments_by fixed) (AllByRecursion (IsArgument m f)) i
  arguments_by_keep None i = arguments_keep v i
  arguments_by_keep (Some fixed) i = dotted_arguments_keep v fixed i

  call_parts_keep : (returned : ℕ) (fixed : Option ℕ) (i : Input) → Keeps v.reading.Fore (Same v.reading.Fore) v.reading.Back (call_parts returned fixed) (IsReturning returned) i
  call_parts_keep returned fixed i x o h fore =
      let r = v.reading in
      let t = h.3 in
      let u = t.3 in
      let w = u.3 in
      let z = w.3 in
      let a = called_keeps i h.0 h.1 h.2 fore in
      let b = expect_passes r k.OpenRound h.1 t.0 t.1 t.2 a.0 in
      let c = arguments_by_keep fixed t.1 u.0 u.1 u.2 b.0 in
      let d = expect_passes r k.CloseRound u.1 w.0 w.1 w.2 c.0 in
      let e = decorations_pass r spot.Call w.1 z.0 z.1 z.2 d.0 in (
        subst r.Fore z.3.1 e.0,
        λ back.
            let eb = e.1 (subst r.Back (sym z.3.1) back) in
            let db = d.1 eb.0 in
            let cb = c.1 db.0 in
            let bb = b.1 cb.0 in
            let ab = a.1 bb.0 in
            (ab.0, subst (IsReturning returned) z.3.0 ((λ is. (is, ab.1, cb.1)), refl)),
      )

  pub call_after_keeps : (returned : ℕ) (i : Input) → Keeps v.reading.Fore (Same v.reading.Fore) v.reading.Back (call_after returned) (IsReturning returned) i
  unfolding call_after
  call_after_keeps returned i x o h fore =
      let a = signature_passes v.reading i h.0 h.1 h.2 fore in
      let b = call_parts_keep returned h.0 h.1 x o h.3 a.0 in
      (b.0, λ back. let bb = b.1 back in ((a.1 bb.0).0, bb.1))

  -- `void @f(..)` after the word
  pub void_call_keeps : (i : Input) → Keeps v.reading.Fore (Same v.reading.Fore) v.reading.Back void_call (IsGivingCall m f false) i
  unfolding void_call
  void_call_keeps i x o h fore =
      let r = v.reading in
      let t = h.2 in
      let a = skip_passes r i t.0 t.1 t.2 fore in
      let b = intern_goes r type.Void t.1 tt h.0 h.1 t.3 a.0 in
      let c = call_after_keeps h.0 h.1 x o h.3 b.0 in (
        c.0,
        λ back.
            let cb = c.1 back in
            let bb = b.1 cb.0 in
            let none = ap (λ z. not (is_void (slice_get m.types z))) cb.1.1 ∙ ap (λ z. not (is_void z)) bb.1.0 in
            ((a.1 bb.0).0, (cb.1.0 (inl bb.1.0), none)),
      )

-- null is printed at each type
fits_null : (bits : Word) → FitsType bits constant.Null
fits_null sort.Pointer = tt
fits_null (sort.Integer bits) = tt
fits_null sort.Float = tt
fits_null sort.Double = tt

-- an operation that gives a value
abbrev pub IsGivingOp : Module → Function → Op → Type 0
IsGivingOp m f x = IsOp m f x × (gives_value m x ≡ true)

module _ {m : Module} {f : Function} {value : ℕ} (n : Naming m f value) where
  -- after the type of its result
  call_of_keeps : (w : WrittenType) → Gives n (call_of value w.id) (λ x. IsFit m is_scalar w → IsGivingCall m f true x)
  call_of_keeps w i x o h fore =
      let r = n.within.reading in
      let u = h.3 in
      let b = call_after_keeps n.within w.id i h.0 h.1 h.2 fore in
      let c = sort_keeps n (local.Value w.id) h.1 tt u.0 u.1 u.2 b.0 in (
        subst n.After u.3.1 c.0,
        λ back.
            let cb = c.1 (subst r.Back (sym u.3.1) back) in
            let bb = b.1 cb.0 in (
              bb.0,
              λ fit.
                  let scalar_is = scalar_of m w fit in
                  let some = no_void m.types m.struct_names fit.0.0 w.id scalar_is.0.0 in
                  let given = ap (λ z. not (is_void (slice_get m.types z))) bb.1.1 ∙ ap not some in
                  subst (IsGivingCall m f true) u.3.0 (bb.1.0 (inr (fit.0.0, scalar_is)), given),
            ),
      )

  pub typed_call_keeps : Gives n (typed_call value) (IsGivingCall m f true)
  typed_call_keeps i x o h fore =
      let a = result_type_keeps n.within.reading i h.0 h.1 h.2 fore in
      let b = call_of_keeps h.0 h.1 x o h.3 a.0 in
      (b.0, λ back. let bb = b.1 back in let ab = a.1 bb.0 in (ab.0, bb.1 ab.1))

  -- ---- what stands in the place of a call

  first_of_keeps : Gives n (first_of value) (IsCast m f)
  unfolding first_of
  first_of_keeps i x o h fore =
      let r = n.within.reading in
      let t1 = h.3 in
      let t2 = t1.3 in
      let t3 = t2.3 in
      let t4 = t3.3 in
      let b0 = skip_passes r i h.0 h.1 h.2 fore in
      let b1 = expect_passes r k.OpenRound h.1 t1.0 t1.1 t1.2 b0.0 in
      let b2 = argument_keeps n.within t1.1 t2.0 t2.1 t2.2 b1.0 in
      let b3 = past_brackets_passes r t2.1 t3.0 t3.1 t3.2 b2.0 in
      let b4 = decorations_pass r spot.Call t3.1 t4.0 t4.1 t4.2 b3.0 in
      let c = ends n (local.Value t2.0.written) tt (record { from = t2.0.written; operand = t2.0.operand; to = t2.0.written }) t4.1 x o t4.3 b4.0 in (
        c.0,
        λ back.
            let cb = c.1 back in
            let bb = b2.1 (b3.1 (b4.1 cb.0).0).0 in
            ((b0.1 (b1.1 bb.0).0).0, subst (IsCast m f) cb.1 (bb.1, (bb.1.0, bb.1.1))),
      )

  null_of_keeps : (w : WrittenType) → Gives n (null_of value w.id) (λ x. IsFit m is_scalar w → IsCast m f x)
  unfolding null_of
  null_of_keeps w i x o h fore =
      let r = n.within.reading in
      let t1 = h.3 in
      let t2 = t1.3 in
      let t3 = t2.3 in
      let b0 = skip_passes r i h.0 h.1 h.2 fore in
      let b1 = expect_passes r k.OpenRound h.1 t1.0 t1.1 t1.2 b0.0 in
      let b2 = past_brackets_passes r t1.1 t2.0 t2.1 t2.2 b1.0 in
      let b3 = decorations_pass r spot.Call t2.1 t3.0 t3.1 t3.2 b2.0 in
      let c = ends n (local.Value w.id) tt (record { from = w.id; operand = operand.Constant constant.Null; to = w.id }) t3.1 x o t3.3 b3.0 in (
        c.0,
        λ back.
            let cb = c.1 back in (
              (b0.1 (b1.1 (b2.1 (b3.1 cb.0).0).0).0).0,
              λ fit.
                  let scalar_is = scalar_of m w fit in
                  subst (IsCast m f) cb.1 ((fit.0.0, scalar_is, fits_null (word_of_shape fit.0.0)), (fit.0.0, scalar_is)),
            ),
      )

  named_call_by_keeps : (w : WrittenType) (x : StandIn) → Gives n (named_call_by value w.id x) (λ y. IsFit m is_scalar w → IsGivingOp m f y)
  named_call_by_keeps w Itself i =
      wrapped n.within.reading.Back n.within.reading.Fore n.After (λ x. IsFit m is_scalar w → IsGivingCall m f true x) (λ y. IsFit m is_scalar w → IsGivingOp m f y) op.Call (call_of value w.id) i
      (λ x h fit. h fit) (call_of_keeps w i)
  named_call_by_keeps w First i =
      wrapped n.within.reading.Back n.within.reading.Fore n.After (IsCast m f) (λ y. IsFit m is_scalar w → IsGivingOp m f y) op.Cast (first_of value) i (λ x h fit. (h, refl)) (first_of_keeps i)
  named_call_by_keeps w Null i =
      wrapped n.within.reading.Back n.within.reading.Fore n.After (λ x. IsFit m is_scalar w → IsCast m f x) (λ y. IsFit m is_scalar w → IsGivingOp m f y) op.Cast (null_of value w.id) i
      (λ x h fit. (h fit, refl)) (null_of_keeps w i)

  named_call_keeps : Gives n (named_call value) (IsGivingOp m f)
  named_call_keeps i x o h fore =
      let a = result_type_keeps n.within.reading i h.0 h.1 h.2 fore in
      let b = named_call_by_keeps h.0 (stand_in h.1) h.1 x o h.3 a.0 in
      (b.0, λ back. let bb = b.1 back in let ab = a.1 bb.0 in (ab.0, bb.1 ab.1))

  pub call_keeps : Gives n (call value) (IsGivingOp m f)
  unfolding call
  call_keeps i x o h fore =
      let r = n.within.reading in
      let t = h.3 in
      let a = skip_passes r i h.0 h.1 h.2 fore in
      let b = decorations_pass r spot.Result h.1 t.0 t.1 t.2 a.0 in
      let c = named_call_keeps t.1 x o t.3 b.0 in
      (c.0, λ back. let cb = c.1 back in let bb = b.1 cb.0 in ((a.1 bb.0).0, cb.1))

  pub tail_call_keeps : Gives n (tail_call value) (IsGivingOp m f)
  unfolding tail_call
  tail_call_keeps i x o h fore =
      let r = n.within.reading in
      let t = h.2 in
      let a = skip_passes r i t.0 t.1 t.2 fore in
      let same = t.3.1 in
      let b = call_keeps h.1 x o h.3 (subst r.Fore same a.0) in
      (b.0, λ back. let bb = b.1 back in ((a.1 (subst r.Back (sym same) bb.0)).0, bb.1))
