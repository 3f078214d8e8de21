-- The function of a call and its arguments are read alike in both.
use Rattle.std.proofs.Common.{◌≡◌, ℕ, Bool, true, false, not, length, Option, None, Some, is_some, refl, ap, ap₂}
use Rattle.std.specs.Prelude.{◌&&◌}
use Rattle.ir_tokens.specs.declared.token.Kind.{Kind}
use Rattle.ir_tokens.specs.declared.token.Kind.TheVariants as k
use Rattle.grammar.specs.Grammar.{pure}
use Rattle.ir_forms.specs.Calls.{called_by, called, parameter, parameter_takes, before_dots, no_star, signature_after, begins_signature, signature_by, signature, arguments_by, call_parts, call_after}
use Rattle.ir_forms.specs.Cursor.{sees, left_out}
use Rattle.ir_forms.specs.Input.{unread}
use Rattle.ir_forms.specs.Lists.{ends_parameters}
use Rattle.ir_forms.specs.Starts.{is_indirect_callee}
use Rattle.ir_forms.specs.declared.decorating.Spot.TheVariants as spot
use Rattle.ir_forms.specs.declared.input.Input.{Input}
use Rattle.ir_print_law.proofs.Seats.{Seat, Beside, sees_same}
use Rattle.ir_print_law.proofs.Sim.{Any, Both, Same, past, by, and, then, give, gives, refuses, by_kind, looks, lists}
use Rattle.ir_print_law.proofs.AnewSteps.{skip_same, expect_same, rule}
use Rattle.ir_print_law.proofs.AnewDecorations.{decorations_same, separator_same}
use Rattle.ir_print_law.proofs.AnewOperands.{BothSome, arguments_same, dotted_arguments_at, parameters_end, dots_at}
use Rattle.ir_print_law.proofs.AnewTypes.{any_type_at}
use Rattle.ir_print_law.proofs.Names.{callee_same}

module _ (s : Seat) where
  -- ---- the types of parameters

  parameter_same : Same s parameter
  unfolding parameter
  parameter_same i j = and s (any_type_at s i j) (λ v u i j. past s (separator_same s k.CloseRound i j) (gives s v.id u.id))

  no_star_same : Same s no_star
  no_star_same = rule s (λ i. not (sees k.Star i.cursor)) (λ i. left_out i.cursor) (λ i j b. ap not (sees_same s k.Star i.cursor j.cursor b.along))

  before_at : (n m : ℕ) (t : Bool) → Both s BothSome (pure (before_dots n t)) (pure (before_dots m t))
  before_at n m true i j = give s {V = BothSome} (Some n) (Some m) refl
  before_at n m false i j = give s {V = BothSome} None None refl

  after_at : Both s BothSome signature_after signature_after
  after_at i j =
      and s (lists s ends_parameters parameter parameter_takes (parameters_end s) parameter_same i j) (λ xs ys i j. by s (dots_at s i j) (λ t i j.
      past s (expect_same s k.CloseRound i j) (λ i j. past s (no_star_same i j) (before_at (length xs) (length ys) t))))

  begins_same : (i j : Input) → Beside s i j → begins_signature i ≡ begins_signature j
  unfolding begins_signature
  begins_same i j b = ap₂ (λ (x y : Bool). x && y) b.forms (sees_same s k.OpenRound i.cursor j.cursor b.along)

  by_at : (t : Bool) → Both s BothSome (signature_by t) (signature_by t)
  by_at true i j = past s (skip_same s i j) after_at
  by_at false i j = give s {V = BothSome} None None refl

  signature_at : Both s BothSome signature signature
  unfolding signature
  signature_at i j = looks s begins_signature begins_signature signature_by signature_by i j (begins_same i j) (λ t. by_at t i j)

  -- ---- the function and its arguments

  called_by_same : (x : Kind) → Same s (called_by x)
  called_by_same k.GlobalName = callee_same s
  called_by_same _ = refuses s (unread is_indirect_callee)

  called_same : Same s called
  unfolding called
  called_same = by_kind s called_by called_by_same

  arguments_by_at : (x y : Option ℕ) → is_some x ≡ is_some y → Both s Any (arguments_by x) (arguments_by y)
  arguments_by_at None None same i j = arguments_same s i j
  arguments_by_at (Some n) (Some m) same i j = dotted_arguments_at s n m i j
  arguments_by_at None (Some m) same i j = absurd cc
  arguments_by_at (Some n) None same i j = absurd cc

  parts_at : (a b : ℕ) (x y : Option ℕ) → is_some x ≡ is_some y → Both s Any (call_parts a x) (call_parts b y)
  parts_at a b x y same i j =
      and s (called_same i j) (λ f g i j. past s (expect_same s k.OpenRound i j) (λ i j.
      and s (arguments_by_at x y same i j) (λ xs ys i j. past s (expect_same s k.CloseRound i j) (λ i j.
      past s (decorations_same s spot.Call i j) (gives s (record { returned = a; callee = f; arguments = xs }) (record { returned = b; callee = g; arguments = ys }))))))

  -- a call after the type of its result
  pub call_after_at : (a b : ℕ) → Both s Any (call_after a) (call_after b)
  unfolding call_after
  call_after_at a b i j = then s (signature_at i j) (λ x y m q same _ _. parts_at a b x y same m q)
