-- What stands between instructions preserves what holds of the state.
use Rattle.std.proofs.Common.{◌≡◌, Bool, true, false, sym, subst}
use Rattle.grammar.specs.Grammar.{pure, ◌>>◌}
use Rattle.grammar.specs.Many.{many}
use Rattle.ir_ast.specs.declared.module.Module.{Module}
use Rattle.ir_ast.specs.declared.op.Op.{Op}
use Rattle.ir_tokens.specs.declared.token.Kind.TheVariants as k
use Rattle.ir_forms.specs.Cursor.{kind, sees}
use Rattle.ir_forms.specs.declared.input.Input.{Input}
use Rattle.ir_forms.specs.Input.{skip, expect}
use Rattle.ir_forms.specs.Decorations.{either, past_brackets, trailing}
use Rattle.ir_forms.specs.Lists.{separator}
use Rattle.ir_forms.specs.Records.{record_after, debug_record, is_tail, drops, bundle_after, bundle, bundle_takes, at_square, bundle_list, bundles, dropped_arguments, dropped_after, dropped_call, dropped_by, dropped, effectless_by, effectless, effectless_takes, at_no_record, debug_records, trail_of, instruction_end, trailed}
use Rattle.ir_forms.specs.declared.decorating.Spot.TheVariants as spot
use Rattle.ir_forms.specs.declared.decorating.Trail.{Trail}
use Rattle.ir_forms.specs.declared.decorating.Trail.TheVariants as trail
use Rattle.ir_print_law.proofs.Decorations.{past_brackets_passes, decorations_pass, trailing_passes, separator_passes}
use Rattle.ir_print_law.proofs.Forms.{Keeps, Same}
use Rattle.ir_print_law.proofs.Passes.{Passes, skip_passes, expect_passes, pure_passes, past, look_passes, all_pass}
use Rattle.ir_print_law.proofs.Reading.{Reading}

module _ {m : Module} (r : Reading m) where
  debug_record_passes : Passes r debug_record
  unfolding debug_record
  debug_record_passes = past r (expect k.DebugRecord) record_after (expect_passes r k.DebugRecord) (past r (expect k.OpenRound) past_brackets (expect_passes r k.OpenRound) (past_brackets_passes r))

  -- ---- calls that are dropped

  bundle_passes : Passes r bundle
  unfolding bundle
  bundle_passes =
      past r (expect k.Quoted) bundle_after (expect_passes r k.Quoted)
      (past r (expect k.OpenRound >> past_brackets) (separator k.CloseSquare) (past r (expect k.OpenRound) past_brackets (expect_passes r k.OpenRound) (past_brackets_passes r)) (separator_passes r k.CloseSquare))

  bundles_by : (t : Bool) → Passes r (either bundle_list (pure tt) t)
  bundles_by true =
      past r (skip >> many at_square bundle bundle_takes) (expect k.CloseSquare)
      (past r skip (many at_square bundle bundle_takes) (skip_passes r) (all_pass r at_square bundle bundle_takes bundle_passes)) (expect_passes r k.CloseSquare)
  bundles_by false = pure_passes r tt

  bundles_pass : Passes r bundles
  unfolding bundles
  bundles_pass = look_passes r (λ i. sees k.OpenSquare i.cursor) (either bundle_list (pure tt)) bundles_by

  arguments_pass : Passes r dropped_arguments
  arguments_pass i a o h f =
      let t1 = h.3 in
      let t2 = t1.3 in
      let t3 = t2.3 in
      let b0 = expect_passes r k.OpenRound i h.0 h.1 h.2 f in
      let b1 = past_brackets_passes r h.1 t1.0 t1.1 t1.2 b0.0 in
      let b2 = decorations_pass r spot.Call t1.1 t2.0 t2.1 t2.2 b1.0 in
      let b3 = bundles_pass t2.1 t3.0 t3.1 t3.2 b2.0 in
      let b4 = trailing_passes r trail.Other t3.1 a o t3.3 b3.0 in
      (b4.0, λ b. b0.1 (b1.1 (b2.1 (b3.1 (b4.1 b).0).0).0).0)

  dropped_call_passes : Passes r dropped_call
  unfolding dropped_call
  dropped_call_passes =
      past r (expect k.Call) dropped_after (expect_passes r k.Call)
      (past r (expect k.Void >> expect k.GlobalName) dropped_arguments (past r (expect k.Void) (expect k.GlobalName) (expect_passes r k.Void) (expect_passes r k.GlobalName)) arguments_pass)

  dropped_by_passes : (t : Bool) → Passes r (dropped_by t)
  dropped_by_passes true = past r skip dropped_call (skip_passes r) dropped_call_passes
  dropped_by_passes false = dropped_call_passes

  dropped_passes : Passes r dropped
  unfolding dropped
  dropped_passes = look_passes r (λ i. is_tail (kind i.cursor)) dropped_by dropped_by_passes

  -- ---- before and after an instruction

  effectless_by_passes : (t : Bool) → Passes r (effectless_by t)
  effectless_by_passes true = dropped_passes
  effectless_by_passes false = debug_record_passes

  effectless_passes : Passes r effectless
  unfolding effectless
  effectless_passes = look_passes r drops effectless_by effectless_by_passes

  pub debug_records_pass : Passes r debug_records
  unfolding debug_records
  debug_records_pass = past r (many at_no_record effectless effectless_takes) (pure tt) (all_pass r at_no_record effectless effectless_takes effectless_passes) (pure_passes r tt)

  pub instruction_end_passes : (t : Trail) → Passes r (instruction_end t)
  unfolding instruction_end
  instruction_end_passes t = past r (trailing t) debug_records (trailing_passes r t) debug_records_pass

  pub trailed_keeps : (x : Op) (i : Input) → Keeps r.Fore (Same r.Fore) r.Back (trailed x) (λ y. x ≡ y) i
  trailed_keeps x i y o h f =
      let a = instruction_end_passes (trail_of x) i h.0 h.1 h.2 f in
      (subst r.Fore h.3.1 a.0, λ b. ((a.1 (subst r.Back (sym h.3.1) b)).0, h.3.0))
