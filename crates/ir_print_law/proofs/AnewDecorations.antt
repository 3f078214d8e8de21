-- Decorations are read alike in both.
use Rattle.std.proofs.Common.{◌≡◌, Bool, true, false, not, refl, sym, ap, ap₂, ◌∙◌}
use Rattle.std.specs.Prelude.{nat_lt, ◌&&◌, ◌||◌}
use Rattle.grammar.specs.Grammar.{pure, ◌>>◌}
use Rattle.ir_tokens.specs.declared.token.Kind.{Kind}
use Rattle.ir_tokens.specs.declared.token.Kind.TheVariants as k
use Rattle.ir_forms.specs.Cursor.{kind, sees, kind_after, sees_float}
use Rattle.ir_forms.specs.declared.input.Input.{Input}
use Rattle.ir_forms.specs.Input.{skip, unexpected, unread, limit}
use Rattle.ir_forms.specs.Decorations.{either, any_token, in_brackets, in_brackets_takes, are_closed, after_bracket, bracketed, past_brackets, is_argument, ends_operand, is_operand, word_end_by, word_end, word, metadata, decoration_by, begins_decoration, decoration, decoration_takes, at_no_decoration, same_spot, decorations, optional, flag, flag_takes, at_no_flag, same_flags, flags, flagged, flagged_word, aligned, may_align, is_global, placed, trail_by, comma_trail, comma_trail_takes, at_no_trail, same_trail, trailing, begins_count}
use Rattle.ir_forms.specs.declared.decorating.Brackets.{Brackets}
use Rattle.ir_forms.specs.declared.decorating.FlagsAfter.{FlagsAfter}
use Rattle.ir_forms.specs.declared.decorating.Spot.{Spot}
use Rattle.ir_forms.specs.declared.decorating.Spot.TheVariants as spot
use Rattle.ir_forms.specs.declared.decorating.Trail.{Trail}
use Rattle.ir_forms.specs.Lists.{separator, comma}
use Rattle.ir_forms.specs.Starts.{is_flag_of}
use Rattle.ir_print_law.proofs.Seats.{float_seen_same, Seat, Beside, kind_same, sees_same, line_same, after_same}
use Rattle.ir_print_law.proofs.Sim.{Any, Equal, At, Both, Same, past, both, give, gives, refuses, so, looks_at, tells, by_kind, kinds, kinds_at, lists_by}
use Rattle.ir_print_law.proofs.AnewSteps.{skip_same, expect_same, rule}

module _ (s : Seat) where
  pub kind_is : (i j : Input) → Beside s i j → kind i.cursor ≡ kind j.cursor
  kind_is i j b = kind_same s i.cursor j.cursor b.along

  pub sees_is : (x : Kind) (i j : Input) → Beside s i j → sees x i.cursor ≡ sees x j.cursor
  sees_is x i j b = sees_same s x i.cursor j.cursor b.along

  pub nothing : Same s {A = Unit {0}} (pure tt)
  nothing = gives s {A = Unit {0}} {B = Unit {0}} tt tt

  pub optional_same : (x : Kind) → Same s (optional x)
  unfolding optional
  optional_same x = tells s (λ i. sees x i.cursor) (either skip (pure tt)) (sees_is x) which where
    which : (t : Bool) → Same s (either skip (pure tt) t)
    which true = skip_same s
    which false = nothing

  any_token_at : Both s Equal any_token any_token
  unfolding any_token
  any_token_at i j = past s (rule s (λ i. not (sees k.End i.cursor)) unexpected (λ i j b. ap not (sees_is k.End i j b)) i j)
      (λ i j. kinds s (λ x. skip >> pure x) (λ x. skip >> pure x) i j (λ x. past s (skip_same s i j) (λ i j. give s {V = Equal} x x refl)))

  in_brackets_at : (b : Brackets) → Both s Equal (in_brackets b) (in_brackets b)
  in_brackets_at b i j = past s (rule s (λ _. nat_lt b.depth 4294967295) limit (λ i j beside. refl) i j) any_token_at

  pub past_brackets_same : Same s past_brackets
  unfolding past_brackets bracketed
  past_brackets_same = both s
      (lists_by s are_closed in_brackets in_brackets_takes after_bracket (λ c i j beside. refl) (λ c i j. so s {V = Equal} (λ o p a b e. ap (after_bracket c) e) (in_brackets_at c i j)) (record { depth = 1 })) nothing

  word_end_by_at : (p : Spot) (i j : Input) (x : Kind) → kind j.cursor ≡ x → At s Any (word_end_by p x) (word_end_by p x) i j
  word_end_by_at p i j k.OpenRound e = both s (skip_same s) past_brackets_same i j
  word_end_by_at p i j k.Quoted e = skip_same s i j
  word_end_by_at p i j k.Number e = looks_at s (is_operand p) (is_operand p) (either (pure tt) skip) (either (pure tt) skip) i j
      (λ b. ap (λ (x : Kind). is_argument p && (ends_operand x || (i.wide && sees_float i.cursor))) (after_same s i.cursor j.cursor b.along (λ is. let same : k.Number ≡ k.CloseBrace = sym e ∙ is in cc))
      ∙ ap (λ (x : Bool). is_argument p && (ends_operand (kind_after j.cursor) || (x && sees_float i.cursor))) b.forms
      ∙ ap (λ (x : Bool). is_argument p && (ends_operand (kind_after j.cursor) || (j.wide && x))) (float_seen_same s i.cursor j.cursor b.along))
      (λ t told. which t) where
        which : (t : Bool) → At s Any (either (pure tt) skip t) (either (pure tt) skip t) i j
        which true = nothing i j
        which false = skip_same s i j
  word_end_by_at p i j _ e = nothing i j

  word_same : (p : Spot) → Same s (word p)
  unfolding word_end
  word_same p = both s (skip_same s) (λ i j. kinds_at s (word_end_by p) (word_end_by p) i j (word_end_by_at p i j))

  metadata_same : Same s metadata
  metadata_same = both s (skip_same s) (expect_same s k.MetadataNumber)

  decoration_by_same : (p : Spot) (x : Kind) → Same s (decoration_by p x)
  decoration_by_same p k.LowercaseWord = word_same p
  decoration_by_same p k.Align = word_same p
  decoration_by_same p k.External = word_same p
  decoration_by_same p k.ExternWeak = word_same p
  decoration_by_same p k.Comdat = word_same p
  decoration_by_same p k.AttributeGroup = skip_same s
  decoration_by_same p k.MetadataName = metadata_same
  decoration_by_same p _ = refuses s unexpected

  decoration_same : (p : Spot) → Same s (decoration p)
  unfolding decoration
  decoration_same p = by_kind s (decoration_by p) (decoration_by_same p)

  pub decorations_same : (p : Spot) → Same s (decorations p)
  unfolding decorations
  decorations_same p = both s
      (lists_by s at_no_decoration decoration decoration_takes same_spot
      (λ c i j b. ap₂ (λ (f : Bool) (x : Kind). not (begins_decoration c f x)) (line_same s i.cursor j.cursor b.along) (kind_is i j b))
      (λ c i j. so s {V = Any} (λ o p a b e. refl) (decoration_same c i j)) p) nothing

  flag_same : (f : FlagsAfter) → Same s (flag f.word)
  unfolding flag
  flag_same f = both s (rule s (λ i. is_flag_of f.word (kind i.cursor)) unexpected (λ i j b. ap (is_flag_of f.word) (kind_is i j b))) (skip_same s)

  flags_same : (word : Kind) → Same s (flags word)
  unfolding flags
  flags_same word = both s
      (lists_by s at_no_flag (λ f. flag f.word) flag_takes same_flags (λ f i j b. ap (λ (x : Kind). not (is_flag_of f.word x)) (kind_is i j b))
      (λ f i j. so s {V = Any} (λ o p a b e. refl) (flag_same f i j)) (record { word = word })) nothing

  pub flagged_same : Same s flagged_word
  unfolding flagged_word
  flagged_same = by_kind s flagged (λ word. both s (skip_same s) (flags_same word))

  -- ---- after an instruction

  aligned_same : (t : Bool) → Same s (aligned t)
  aligned_same true = both s (skip_same s) (expect_same s k.Number)
  aligned_same false = refuses s unexpected

  placed_same : (t : Bool) → Same s (placed t)
  placed_same true = word_same spot.Global
  placed_same false = refuses s unexpected

  trail_by_same : (t : Trail) (x : Kind) → Same s (trail_by t x)
  trail_by_same t k.MetadataName = metadata_same
  trail_by_same t k.Align = aligned_same (may_align t)
  trail_by_same t k.Comdat = placed_same (is_global t)
  trail_by_same t k.LowercaseWord = placed_same (is_global t)
  trail_by_same t _ = refuses s (unread (begins_count t))

  comma_trail_same : (t : Trail) → Same s (comma_trail t)
  unfolding comma_trail
  comma_trail_same t = both s (expect_same s k.Comma) (by_kind s (trail_by t) (trail_by_same t))

  pub trailing_same : (t : Trail) → Same s (trailing t)
  unfolding trailing
  trailing_same t = both s
      (lists_by s at_no_trail comma_trail comma_trail_takes same_trail (λ c i j b. ap not (sees_is k.Comma i j b)) (λ c i j. so s {V = Any} (λ o p a b e. refl) (comma_trail_same c i j)) t) nothing

  -- ---- between the parts of a list

  separator_by : (x : Kind) (t : Bool) → Same s (either (pure tt) (comma x) t)
  separator_by x true = nothing
  separator_by x false = both s (expect_same s k.Comma) (rule s (λ i. not (sees x i.cursor)) unexpected (λ i j b. ap not (sees_is x i j b)))

  pub separator_same : (x : Kind) → Same s (separator x)
  unfolding separator
  separator_same x = tells s (λ i. sees x i.cursor) (either (pure tt) (comma x)) (sees_is x) (separator_by x)
