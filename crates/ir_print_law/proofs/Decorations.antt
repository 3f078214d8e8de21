-- Decorations preserve what holds of the state.
use Rattle.std.proofs.Common.{Bool, true, false, not}
use Rattle.std.specs.Prelude.{nat_lt}
use Rattle.grammar.specs.Grammar.{pure, look, checked, ◌>>◌}
use Rattle.ir_ast.specs.declared.module.Module.{Module}
use Rattle.ir_tokens.specs.declared.token.Kind.{Kind}
use Rattle.ir_tokens.specs.declared.token.Kind.TheVariants as k
use Rattle.ir_forms.specs.Cursor.{kind, sees}
use Rattle.ir_forms.specs.Input.{skip, expect, unexpected, unread, limit}
use Rattle.ir_forms.specs.ManyWith.{many_with}
use Rattle.ir_forms.specs.Decorations.{either, any_token, in_brackets, in_brackets_takes, has_room, are_closed, after_bracket, bracketed, past_brackets, is_operand, word_end_by, word_end, word, metadata, decoration_by, decoration, decoration_takes, at_no_decoration, same_spot, decorations, optional, flag, flag_takes, at_no_flag, same_flags, flags, flagged, flagged_word, aligned, may_align, is_global, placed, trail_by, trail_after, comma_trail, comma_trail_takes, at_no_trail, same_trail, trailing, begins_count}
use Rattle.ir_forms.specs.declared.decorating.Brackets.{Brackets}
use Rattle.ir_forms.specs.declared.decorating.FlagsAfter.{FlagsAfter}
use Rattle.ir_forms.specs.declared.decorating.Spot.{Spot}
use Rattle.ir_forms.specs.declared.decorating.Spot.TheVariants as spot
use Rattle.ir_forms.specs.declared.decorating.Trail.{Trail}
use Rattle.ir_forms.specs.Lists.{separator, comma, sees_no}
use Rattle.ir_forms.specs.Starts.{is_flag_of}
use Rattle.ir_print_law.proofs.Passes.{Passes, skip_passes, expect_passes, check_passes, pure_passes, refuse_passes, past, look_passes, all_with_pass}
use Rattle.ir_print_law.proofs.Reading.{Reading}

module _ {m : Module} (r : Reading m) where
  pub optional_passes : (x : Kind) → Passes r (optional x)
  unfolding optional
  optional_passes x = look_passes r (λ i. sees x i.cursor) (either skip (pure tt)) by where
    by : (t : Bool) → Passes r (either skip (pure tt) t)
    by true = skip_passes r
    by false = pure_passes r tt

  pub any_token_passes : Passes r any_token
  unfolding any_token
  any_token_passes =
      past r (checked (λ i. not (sees k.End i.cursor)) unexpected) (look (λ i. kind i.cursor) (λ x. skip >> pure x)) (check_passes r (λ i. not (sees k.End i.cursor)) unexpected)
      (look_passes r (λ i. kind i.cursor) (λ x. skip >> pure x) (λ x. past r skip (pure x) (skip_passes r) (pure_passes r x)))

  in_brackets_passes : (b : Brackets) → Passes r (in_brackets b)
  in_brackets_passes b = past r (has_room b) any_token (check_passes r (λ _. nat_lt b.depth 4294967295) limit) any_token_passes

  pub past_brackets_passes : Passes r past_brackets
  unfolding past_brackets bracketed
  past_brackets_passes =
      past r bracketed (pure tt) (all_with_pass r are_closed in_brackets in_brackets_takes after_bracket (record { depth = 1 }) in_brackets_passes) (pure_passes r tt)

  word_end_by_passes : (s : Spot) (x : Kind) → Passes r (word_end_by s x)
  word_end_by_passes s k.OpenRound = past r skip past_brackets (skip_passes r) past_brackets_passes
  word_end_by_passes s k.Quoted = skip_passes r
  word_end_by_passes s k.Number = look_passes r (is_operand s) (either (pure tt) skip) by where
    by : (t : Bool) → Passes r (either (pure tt) skip t)
    by true = pure_passes r tt
    by false = skip_passes r
  word_end_by_passes s _ = pure_passes r tt

  word_passes : (s : Spot) → Passes r (word s)
  unfolding word_end
  word_passes s = past r skip (word_end s) (skip_passes r) (look_passes r (λ i. kind i.cursor) (word_end_by s) (word_end_by_passes s))

  metadata_passes : Passes r metadata
  metadata_passes = past r skip (expect k.MetadataNumber) (skip_passes r) (expect_passes r k.MetadataNumber)

  decoration_by_passes : (s : Spot) (x : Kind) → Passes r (decoration_by s x)
  decoration_by_passes s k.LowercaseWord = word_passes s
  decoration_by_passes s k.Align = word_passes s
  decoration_by_passes s k.External = word_passes s
  decoration_by_passes s k.ExternWeak = word_passes s
  decoration_by_passes s k.Comdat = word_passes s
  decoration_by_passes s k.AttributeGroup = skip_passes r
  decoration_by_passes s k.MetadataName = metadata_passes
  decoration_by_passes s _ = refuse_passes r unexpected

  decoration_passes : (s : Spot) → Passes r (decoration s)
  unfolding decoration
  decoration_passes s = look_passes r (λ i. kind i.cursor) (decoration_by s) (decoration_by_passes s)

  pub decorations_pass : (s : Spot) → Passes r (decorations s)
  unfolding decorations
  decorations_pass s =
      past r (many_with at_no_decoration decoration decoration_takes same_spot s) (pure tt) (all_with_pass r at_no_decoration decoration decoration_takes same_spot s decoration_passes) (pure_passes r tt)

  flag_passes : (f : FlagsAfter) → Passes r (flag f.word)
  unfolding flag
  flag_passes f = past r (checked (λ i. is_flag_of f.word (kind i.cursor)) unexpected) skip (check_passes r (λ i. is_flag_of f.word (kind i.cursor)) unexpected) (skip_passes r)

  flags_pass : (word : Kind) → Passes r (flags word)
  unfolding flags
  flags_pass word =
      past r (many_with at_no_flag (λ f. flag f.word) flag_takes same_flags (record { word = word })) (pure tt)
      (all_with_pass r at_no_flag (λ f. flag f.word) flag_takes same_flags (record { word = word }) flag_passes) (pure_passes r tt)

  pub flagged_passes : Passes r flagged_word
  unfolding flagged_word
  flagged_passes = look_passes r (λ i. kind i.cursor) flagged (λ word. past r skip (flags word) (skip_passes r) (flags_pass word))

  -- ---- after an instruction or a global

  aligned_passes : (t : Bool) → Passes r (aligned t)
  aligned_passes true = past r skip (expect k.Number) (skip_passes r) (expect_passes r k.Number)
  aligned_passes false = refuse_passes r unexpected

  placed_passes : (t : Bool) → Passes r (placed t)
  placed_passes true = word_passes spot.Global
  placed_passes false = refuse_passes r unexpected

  trail_by_passes : (t : Trail) (x : Kind) → Passes r (trail_by t x)
  trail_by_passes t k.MetadataName = metadata_passes
  trail_by_passes t k.Align = aligned_passes (may_align t)
  trail_by_passes t k.Comdat = placed_passes (is_global t)
  trail_by_passes t k.LowercaseWord = placed_passes (is_global t)
  trail_by_passes t _ = refuse_passes r (unread (begins_count t))

  comma_trail_passes : (t : Trail) → Passes r (comma_trail t)
  unfolding comma_trail
  comma_trail_passes t = past r (expect k.Comma) (trail_after t) (expect_passes r k.Comma) (look_passes r (λ i. kind i.cursor) (trail_by t) (trail_by_passes t))

  pub trailing_passes : (t : Trail) → Passes r (trailing t)
  unfolding trailing
  trailing_passes t =
      past r (many_with at_no_trail comma_trail comma_trail_takes same_trail t) (pure tt) (all_with_pass r at_no_trail comma_trail comma_trail_takes same_trail t comma_trail_passes) (pure_passes r tt)

  -- ---- between the parts of a list

  separator_by : (x : Kind) (t : Bool) → Passes r (either (pure tt) (comma x) t)
  separator_by x true = pure_passes r tt
  separator_by x false = past r (expect k.Comma) (sees_no x) (expect_passes r k.Comma) (check_passes r (λ i. not (sees x i.cursor)) unexpected)

  pub separator_passes : (x : Kind) → Passes r (separator x)
  unfolding separator
  separator_passes x = look_passes r (λ i. sees x i.cursor) (either (pure tt) (comma x)) (separator_by x)
