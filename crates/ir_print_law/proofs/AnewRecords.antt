-- What stands between instructions is read alike in both, and so is what stands in the place of a call.
use Rattle.std.proofs.Common.{◌≡◌, Bool, true, false, not, if◌then◌else◌, refl, sym, ap, ap₂, subst, ◌∙◌, rules}
use Rattle.std.specs.Prelude.{◌&&◌, ◌||◌}
use Rattle.grammar.specs.Grammar.{pure}
use Rattle.ir_ast.specs.declared.op.Op.{Op}
use Rattle.ir_tokens.specs.declared.token.Kind.{Kind}
use Rattle.ir_tokens.specs.declared.token.Kind.TheVariants as k
use Rattle.ir_tokens.specs.contracts.token.Kind.{the_type}
use Rattle.ir_tokens.specs.Bytes.{Text}
use Rattle.ir_forms.specs.Cursor.{kind, kind_after, kind_third, name_third, next, same_kind, sees}
use Rattle.ir_forms.specs.Place.{Place}
use Rattle.ir_forms.specs.Intrinsics.{is_dropped, is_left_out}
use Rattle.ir_forms.specs.StandIns.{stand_in_by, stand_in}
use Rattle.ir_forms.specs.declared.stand_ins.StandIn.TheVariants.{Itself}
use Rattle.ir_forms.specs.declared.input.Input.{Input}
use Rattle.ir_forms.specs.Decorations.{either}
use Rattle.ir_forms.specs.Records.{debug_record, is_tail, calls_dropped, drops_at, drops, bundle, bundle_takes, at_square, bundle_list, bundles, dropped_arguments, dropped_call, dropped_by, dropped, effectless_by, effectless, effectless_takes, at_no_record, debug_records, trail_of, instruction_end, trailed}
use Rattle.ir_forms.specs.declared.decorating.Spot.TheVariants as spot
use Rattle.ir_forms.specs.declared.decorating.Trail.{Trail}
use Rattle.ir_forms.specs.declared.decorating.Trail.TheVariants as trail
use Rattle.ir_print_law.proofs.Seats.{Seat, Along, Beside, name_same, kind_same, after_same, third_same, third_name_same, next_along}
use Rattle.ir_print_law.proofs.Sim.{Between, Any, At, Both, Same, past, both, gives, tells, lists}
use Rattle.ir_print_law.proofs.AnewSteps.{skip_same, expect_same}
use Rattle.ir_print_law.proofs.AnewDecorations.{kind_is, sees_is, nothing, past_brackets_same, decorations_same, trailing_same, separator_same}
use denote.Enum.Bare.{same_true}

-- the same may follow both operations
abbrev pub Trails : Between Op Op
Trails o p x y = trail_of x ≡ trail_of y

-- two kinds of which it is told that they are the same
pub equals_is : (x y : Kind) → same_kind x y ≡ true → x ≡ y
unfolding same_kind
equals_is x y e = same_true the_type (search rules) _ _ e

-- what is asked of the third token of a call that is dropped
abbrev names_dropped : Place → Bool
names_dropped c = same_kind (kind_third c) k.GlobalName && is_dropped (name_third c)

-- and of the second
abbrev voids_dropped : Place → Bool
voids_dropped c = same_kind (kind_after c) k.Void && names_dropped c

module _ (s : Seat) where
  -- ---- calls that are dropped

  calls_by : (c d : Place) → Along s c d → (t : Bool) → same_kind (kind d) k.Call ≡ t → calls_dropped c ≡ calls_dropped d
  calls_by c d a false e = ap (λ (x : Bool). x && voids_dropped c) (ap (λ (x : Kind). same_kind x k.Call) (kind_same s c d a) ∙ e) ∙ sym (ap (λ (x : Bool). x && voids_dropped d) e)
  calls_by c d a true e = ap₂ (λ (x y : Bool). x && y) (ap (λ (x : Kind). same_kind x k.Call) (kind_same s c d a)) (void_by (same_kind (kind_after d) k.Void) refl) where
    first : kind d ≡ k.CloseBrace → ⊥
    first close = let one : k.Call ≡ k.CloseBrace = sym (equals_is (kind d) k.Call e) ∙ close in cc

    after : kind_after c ≡ kind_after d
    after = after_same s c d a first

    void_by : (t : Bool) → same_kind (kind_after d) k.Void ≡ t → voids_dropped c ≡ voids_dropped d
    void_by false is = ap (λ (x : Bool). x && names_dropped c) (ap (λ (x : Kind). same_kind x k.Void) after ∙ is) ∙ sym (ap (λ (x : Bool). x && names_dropped d) is)
    void_by true is =
        let second : kind_after d ≡ k.CloseBrace → ⊥ = λ close. let one : k.Void ≡ k.CloseBrace = sym (equals_is (kind_after d) k.Void is) ∙ close in cc in
        ap₂ (λ (x y : Bool). x && y) (ap (λ (x : Kind). same_kind x k.Void) after)
        (ap₂ (λ (x y : Bool). x && y) (ap (λ (x : Kind). same_kind x k.GlobalName) (third_same s c d a first second)) (ap is_dropped (third_name_same s c d a first second)))

  calls_same : (c d : Place) → Along s c d → calls_dropped c ≡ calls_dropped d
  calls_same c d a = calls_by c d a (same_kind (kind d) k.Call) refl

  at_by : (c d : Place) → Along s c d → (t : Bool) → is_tail (kind d) ≡ t → drops_at c ≡ drops_at d
  at_by c d a false e =
      ap (λ (t : Bool). if t then calls_dropped (next c) else calls_dropped c) (ap is_tail (kind_same s c d a) ∙ e) ∙ calls_same c d a
      ∙ sym (ap (λ (t : Bool). if t then calls_dropped (next d) else calls_dropped d) e)
  at_by c d a true e =
      let on = next_along s c d a (λ close. let bad = sym (ap is_tail close) ∙ e in cc) in
      ap (λ (t : Bool). if t then calls_dropped (next c) else calls_dropped c) (ap is_tail (kind_same s c d a) ∙ e) ∙ calls_same (next c) (next d) on
      ∙ sym (ap (λ (t : Bool). if t then calls_dropped (next d) else calls_dropped d) e)

  drops_same : (i j : Input) → Beside s i j → drops i ≡ drops j
  drops_same i j b = ap₂ (λ (x y : Bool). x && y) b.forms (at_by i.cursor j.cursor b.along (is_tail (kind j.cursor)) refl)

  bundle_same : Same s bundle
  unfolding bundle
  bundle_same = both s (expect_same s k.Quoted) (both s (both s (expect_same s k.OpenRound) (past_brackets_same s)) (separator_same s k.CloseSquare))

  bundles_by : (t : Bool) → Same s (either bundle_list (pure tt) t)
  bundles_by true = both s (both s (skip_same s) (lists s at_square bundle bundle_takes (λ i j b. sees_is s k.CloseSquare i j b) bundle_same)) (expect_same s k.CloseSquare)
  bundles_by false = nothing s

  bundles_same : Same s bundles
  unfolding bundles
  bundles_same = tells s (λ i. sees k.OpenSquare i.cursor) (either bundle_list (pure tt)) (sees_is s k.OpenSquare) bundles_by

  arguments_same : Same s dropped_arguments
  arguments_same i j =
      past s (expect_same s k.OpenRound i j) (λ i j. past s (past_brackets_same s i j) (λ i j. past s (decorations_same s spot.Call i j) (λ i j. past s (bundles_same i j) (trailing_same s trail.Other))))

  dropped_call_same : Same s dropped_call
  unfolding dropped_call
  dropped_call_same = both s (expect_same s k.Call) (both s (both s (expect_same s k.Void) (expect_same s k.GlobalName)) arguments_same)

  dropped_by_same : (t : Bool) → Same s (dropped_by t)
  dropped_by_same true = both s (skip_same s) dropped_call_same
  dropped_by_same false = dropped_call_same

  dropped_same : Same s dropped
  unfolding dropped
  dropped_same = tells s (λ i. is_tail (kind i.cursor)) dropped_by (λ i j b. ap is_tail (kind_is s i j b)) dropped_by_same

  -- ---- before an instruction

  debug_record_same : Same s debug_record
  unfolding debug_record
  debug_record_same = both s (expect_same s k.DebugRecord) (both s (expect_same s k.OpenRound) (past_brackets_same s))

  effectless_by_same : (t : Bool) → Same s (effectless_by t)
  effectless_by_same true = dropped_same
  effectless_by_same false = debug_record_same

  effectless_same : Same s effectless
  unfolding effectless
  effectless_same = tells s drops effectless_by drops_same effectless_by_same

  none_same : (i j : Input) → Beside s i j → at_no_record i ≡ at_no_record j
  none_same i j b = ap₂ (λ (x y : Bool). not (x || y)) (sees_is s k.DebugRecord i j b) (drops_same i j b)

  pub debug_records_same : Same s debug_records
  unfolding debug_records
  debug_records_same = both s (lists s at_no_record effectless effectless_takes none_same effectless_same) (nothing s)

  -- ---- after an instruction

  pub instruction_end_same : (t : Trail) → Same s (instruction_end t)
  unfolding instruction_end
  instruction_end_same t = both s (trailing_same s t) debug_records_same

  -- two operations that the same may follow, with what follows them
  pub trailed_at : (x y : Op) → trail_of x ≡ trail_of y → Both s Any (trailed x) (trailed y)
  trailed_at x y same i j =
      past s (subst (λ (t : Trail). At s Any (instruction_end (trail_of x)) (instruction_end t) i j) same (instruction_end_same (trail_of x) i j)) (gives s x y)

  -- ---- in the place of a call

  pub stands_same : (i j : Input) → Beside s i j → stand_in i ≡ stand_in j
  stands_same i j b =
      ap₂ (λ (t : Bool) (called : Text). if t then stand_in_by (is_left_out true called) called else Itself)
      (ap₂ (λ (x y : Bool). x && y) b.forms (sees_is s k.GlobalName i j b)) (name_same s i.cursor j.cursor b.along)
