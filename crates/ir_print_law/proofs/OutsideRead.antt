-- Dots, and what stands before addresses outside, preserve what holds of the state.
use Rattle.std.proofs.Common.{Bool, true, false}
use Rattle.grammar.specs.Grammar.{pure, ◌>>◌}
use Rattle.ir_ast.specs.declared.module.Module.{Module}
use Rattle.ir_tokens.specs.declared.token.Kind.TheVariants as k
use Rattle.ir_forms.specs.Input.{skip, expect}
use Rattle.ir_forms.specs.Decorations.{flagged_word}
use Rattle.ir_forms.specs.Lists.{at_dots, dots_by, dots}
use Rattle.ir_forms.specs.Outside.{lost_here, element_begin, cast_begin}
use Rattle.ir_forms.specs.Written.{any_type}
use Rattle.ir_print_law.proofs.Decorations.{flagged_passes}
use Rattle.ir_print_law.proofs.Passes.{Passes, skip_passes, expect_passes, lost_passes, pure_passes, past, look_passes}
use Rattle.ir_print_law.proofs.Reading.{Reading}
use Rattle.ir_print_law.proofs.TypesThat.{any_type_keeps}

module _ {m : Module} (r : Reading m) where
  dots_by_pass : (t : Bool) → Passes r (dots_by t)
  dots_by_pass true = past r (lost_here >> skip) (pure true) (past r lost_here skip (lost_passes r) (skip_passes r)) (pure_passes r true)
  dots_by_pass false = pure_passes r false

  -- dots, if they are there
  pub dots_pass : Passes r dots
  unfolding dots
  dots_pass = look_passes r at_dots dots_by dots_by_pass

  -- ---- addresses

  pub any_type_passes : Passes r any_type
  any_type_passes i a o h f = let x = any_type_keeps r i a o h f in (x.0, λ b. ((x.1 b).0, tt))

  pub element_begin_passes : Passes r element_begin
  unfolding element_begin
  element_begin_passes =
      past r (flagged_word >> expect k.OpenRound >> any_type) (expect k.Comma)
      (past r (flagged_word >> expect k.OpenRound) any_type (past r flagged_word (expect k.OpenRound) (flagged_passes r) (expect_passes r k.OpenRound)) any_type_passes) (expect_passes r k.Comma)

  pub cast_begin_passes : Passes r cast_begin
  unfolding cast_begin
  cast_begin_passes = past r skip (expect k.OpenRound) (skip_passes r) (expect_passes r k.OpenRound)
