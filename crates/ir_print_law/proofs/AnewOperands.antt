-- Operands and lists of them are read alike in both.
use Rattle.std.proofs.Common.{◌≡◌, ℕ, zero, suc, Bool, true, false, not, List, inl, Option, None, Some, refl, sym, ap, ap₂, subst, ◌∙◌}
use Rattle.std.specs.Prelude.{◌&&◌, ◌||◌, is_some, unwrap_or, filter_map}
use Rattle.grammar.specs.Grammar.{pure, step, ◌>>◌}
use Rattle.ir_ast.specs.declared.operand.Constant.{Constant}
use Rattle.ir_ast.specs.declared.operand.Constant.TheVariants as c
use Rattle.ir_ast.specs.declared.operand.Operand.TheVariants as o
use Rattle.ir_tokens.specs.declared.token.Kind.{Kind}
use Rattle.ir_tokens.specs.declared.token.Kind.TheVariants as k
use Rattle.ir_forms.specs.Cursor.{kind_after, sees, sees_float, start, left_out}
use Rattle.ir_forms.specs.Number as numbers
use Rattle.ir_forms.specs.declared.fault.Fault.TheVariants.{OutOfRange}
use Rattle.ir_forms.specs.declared.input.Input.{Input}
use Rattle.ir_forms.specs.declared.written.WrittenType.{WrittenType}
use Rattle.ir_forms.specs.declared.decorating.Spot.TheVariants as spot
use Rattle.ir_forms.specs.Input.{Form, unexpected, unread, skip, sees_is}
use Rattle.ir_forms.specs.FloatNumbers.{float_bits}
use Rattle.ir_forms.specs.declared.written.Word.TheVariants as sort
use Rattle.ir_forms.specs.Operand.{bits_of_word, held_float, float_at, float_or_zero, float_number, number_by, word_by, after_run, after_run_falls, begins_unread_operand, begins_other_operand, zero_of, truth_of, number_at, number_or_zero, number, constant_by, constant, cast_operand_by, cast_operand, cast_to, cast, element_by, element_operand, operand_by, operand}
use Rattle.ir_forms.specs.Outside.{with_lost_here, with_lost_here_falls, lost_here, names_outside, outside_name, element_begin, cast_begin, about, outside_begin_by, outside_begin, outside_rest, outside}
use Rattle.ir_forms.specs.declared.lists.DottedArguments.{DottedArguments}
use Rattle.ir_forms.specs.Lists.{at_round, argument_of, argument, argument_takes, arguments, is_address_outside, kept_argument, dotted_argument, dotted_takes, ends_dotted, after_dotted, dotted_arguments, at_dots, ends_parameters, dots_by, dots, is_metadata, typed, index, any_index, index_takes, at_no_comma, ends_indices, after_index, indices}
use Rattle.ir_forms.specs.Written.{word_of}
use Rattle.ir_forms.specs.declared.written.Word.{Word}
use Rattle.ir_print_law.proofs.Seats.{Seat, Beside, grown_itself, run_same, float_seen_same, past_run_either, spelling_same, sees_same, after_same}
use Rattle.ir_print_law.proofs.Sim.{Between, Any, Equal, At, Both, Same, past, both, and, then, then_said, give, gives, refuses, so, looks, looks_any, by_kind, kinds, lists, lists_with, lists_by}
use Rattle.ir_print_law.proofs.AnewSteps.{steps, takes, skip_same, expect_same, rule}
use Rattle.ir_print_law.proofs.Names.{outside_same, used_value_at, used_global_same}
use Rattle.ir_print_law.proofs.AnewTypes.{Written, bits_same, any_type_at, scalar_at, pointer_type_at}
use Rattle.ir_print_law.proofs.AnewDecorations.{past_brackets_same, flagged_same, decorations_same, separator_same}

-- both are there, or neither is
abbrev pub BothSome : {A B : Type 0} → Between (Option A) (Option B)
BothSome o p a b = is_some a ≡ is_some b

module _ (s : Seat) where
  -- ---- constants

  number_at_same : (bits : Word) (i j : Input) → Beside s i j → number_at bits i ≡ number_at bits j
  unfolding number_at
  number_at_same bits i j b = ap (λ (t : List ℕ). numbers.constant t (bits_of_word bits)) (spelling_same s i.cursor j.cursor b.along)

  number_is : (bits : Word) → Both s Equal (number bits) (number bits)
  unfolding number
  number_is bits i j = past s (rule s (λ i. is_some (number_at bits i)) (λ i. OutOfRange (start i.cursor)) (λ i j b. ap (λ (n : Option ℕ). is_some n) (number_at_same bits i j b)) i j)
      (λ i j. takes s {V = Equal} (number_or_zero bits) (number_or_zero bits) i j (λ b. ap (λ (n : Option ℕ). c.Number (unwrap_or n 0)) (number_at_same bits i j b)))

  word : (x : Constant) → Both s Equal (skip >> pure x) (skip >> pure x)
  word x i j = past s (skip_same s i j) (λ i j. give s {V = Equal} x x refl)

  float_at_same : (w : Word) (i j : Input) → Beside s i j → float_at w i ≡ float_at w j
  unfolding float_at
  float_at_same w i j b = ap (λ (t : List ℕ). held_float w (float_bits t)) (run_same s i.cursor j.cursor b.along)

  sees_float_same : (i j : Input) → Beside s i j → sees_float i.cursor ≡ sees_float j.cursor
  sees_float_same i j b = float_seen_same s i.cursor j.cursor b.along

  -- after the tokens of a floating point number
  float_step : (w : Word) (i j : Input) → sees_float j.cursor ≡ true → At s Equal (step (float_or_zero w) after_run after_run_falls) (step (float_or_zero w) after_run after_run_falls) i j
  unfolding sees_float
  float_step w i j float = steps s {V = Equal} (float_or_zero w) (float_or_zero w) after_run after_run after_run_falls after_run_falls i j
      (λ b. (past_run_either s i.cursor j.cursor b.along float, b.own, b.symbols, b.structs, b.missing, b.functions, b.forms, grown_itself i, grown_itself j))
      (λ b. ap (λ (n : Option ℕ). c.Float (unwrap_or n 0)) (float_at_same w i j b))

  float_number_is : (w : Word) → Both s Equal (float_number w) (float_number w)
  unfolding float_number
  float_number_is w i j =
      then_said s (both s (rule s (λ i. sees_float i.cursor) unexpected sees_float_same) (rule s (λ i. is_some (float_at w i)) (λ i. OutOfRange (start i.cursor)) (λ i j b. ap (λ (n : Option ℕ). is_some n) (float_at_same w i j b))) i j)
      (λ a b m q v x y said. float_step w m q (ap (λ (p : Input). sees_float p.cursor) (sym (said.2.1 ∙ said.3.1)) ∙ said.2.0))

  number_by_at : (w : Word) → Both s Equal (number_by w) (number_by w)
  number_by_at sort.Pointer = number_is sort.Pointer
  number_by_at (sort.Integer bits) = number_is (sort.Integer bits)
  number_by_at sort.Float = float_number_is sort.Float
  number_by_at sort.Double = float_number_is sort.Double

  word_by_at : (w : Word) → Both s Equal (word_by w) (word_by w)
  word_by_at sort.Pointer = refuses s (unread begins_unread_operand)
  word_by_at (sort.Integer bits) = refuses s (unread begins_unread_operand)
  word_by_at sort.Float = float_number_is sort.Float
  word_by_at sort.Double = float_number_is sort.Double

  constant_by_at : (bits : Word) (x : Kind) → Both s Equal (constant_by bits x) (constant_by bits x)
  constant_by_at bits k.Number = number_by_at bits
  constant_by_at bits k.Word = word_by_at bits
  constant_by_at bits k.True = word (truth_of bits true)
  constant_by_at bits k.False = word (truth_of bits false)
  constant_by_at bits k.Null = word c.Null
  constant_by_at bits k.Undef = word (zero_of bits)
  constant_by_at bits k.Zeroinitializer = word (zero_of bits)
  constant_by_at bits _ = refuses s (unread begins_unread_operand)

  pub constant_at : (bits : Word) → Both s Equal (constant bits) (constant bits)
  unfolding constant
  constant_at bits i j = kinds s (constant_by bits) (constant_by bits) i j (λ x. constant_by_at bits x i j)

  -- ---- operands

  cast_operand_by_same : (x : Kind) → Same s (cast_operand_by x)
  cast_operand_by_same k.GlobalName = used_global_same s
  cast_operand_by_same _ = refuses s (unread begins_other_operand)

  cast_operand_same : Same s cast_operand
  unfolding cast_operand
  cast_operand_same = by_kind s cast_operand_by cast_operand_by_same

  cast_to_at : (v u : WrittenType) (g h : ℕ) → Both s Any (cast_to v g) (cast_to u h)
  cast_to_at v u g h i j =
      past s (expect_same s k.To i j) (λ i j. and s (pointer_type_at s i j) (λ x y i j. past s (expect_same s k.CloseRound i j) (gives s (o.CastGlobal v.id g x.id) (o.CastGlobal u.id h y.id))))

  cast_same : Same s cast
  unfolding cast
  cast_same i j = past s (skip_same s i j) (λ i j. past s (expect_same s k.OpenRound i j) (λ i j. and s (pointer_type_at s i j) (λ v u i j. and s (cast_operand_same i j) (λ g h. cast_to_at v u g h))))

  -- ---- addresses outside

  lost_same : Same s lost_here
  unfolding lost_here
  lost_same i j =
      steps s {V = Any} (λ _. tt) (λ _. tt) with_lost_here with_lost_here with_lost_here_falls with_lost_here_falls i j
      (λ b. (inl b.along, b.own, b.symbols, b.structs, b.missing, b.functions, b.forms, grown_itself i, grown_itself j)) (λ b. tt)

  names_outside_same : (i j : Input) → Beside s i j → names_outside i ≡ names_outside j
  names_outside_same i j b = ap₂ (λ (x y : Bool). x && y) (sees_same s k.GlobalName i.cursor j.cursor b.along) (outside_same s i j b)

  outside_name_same : Same s outside_name
  unfolding outside_name
  outside_name_same i j = past s (rule s names_outside (λ i. left_out i.cursor) names_outside_same i j) (used_global_same s)

  element_begin_same : Same s element_begin
  unfolding element_begin
  element_begin_same i j = past s (past s (past s (flagged_same s i j) (expect_same s k.OpenRound)) (any_type_at s)) (expect_same s k.Comma)

  cast_begin_same : Same s cast_begin
  unfolding cast_begin
  cast_begin_same = both s (skip_same s) (expect_same s k.OpenRound)

  about_same : (inner : Form ℕ) → Same s inner → Same s (about inner)
  about_same inner each i j = past s (any_type_at s i j) (λ i j. and s (each i j) (λ a b i j. past s (past_brackets_same s i j) (gives s a b)))

  begin_by_at : (x : Kind) → Both s BothSome (outside_begin_by x) (outside_begin_by x)
  begin_by_at k.Getelementptr i j = past s (element_begin_same i j) (λ i j. give s {V = BothSome} None None refl)
  begin_by_at k.Bitcast i j = past s (cast_begin_same i j) (λ i j. give s {V = BothSome} None None refl)
  begin_by_at _ i j = and s (outside_name_same i j) (λ a b i j. give s {V = BothSome} (Some a) (Some b) refl)

  begin_at : Both s BothSome outside_begin outside_begin
  unfolding outside_begin
  begin_at i j = kinds s outside_begin_by outside_begin_by i j (λ x. begin_by_at x i j)

  rest_at : (inner : Form ℕ) → Same s inner → (x y : Option ℕ) → is_some x ≡ is_some y → (i j : Input) → At s Any (outside_rest inner x) (outside_rest inner y) i j
  rest_at inner each None None same i j = about_same inner each i j
  rest_at inner each (Some a) (Some b) same i j = gives s a b i j
  rest_at inner each None (Some b) same i j = absurd cc
  rest_at inner each (Some a) None same i j = absurd cc

  outside_read_same : (n : ℕ) → Same s (outside n)
  unfolding outside
  outside_read_same zero i j = outside_name_same i j
  outside_read_same (suc n) i j = then s (begin_at i j) (λ x y m q same _ _. rest_at (outside n) (outside_read_same n) x y same m q)

  element_by_same : (w : Word) (t : Bool) → Same s (element_by w t)
  element_by_same sort.Pointer true i j = and s (past s (lost_same i j) (outside_read_same 3)) (λ a b. gives s (o.Global a) (o.Global b))
  element_by_same sort.Pointer false i j = and s (constant_at sort.Pointer i j) (λ a b. gives s (o.Constant a) (o.Constant b))
  element_by_same (sort.Integer bits) t i j = and s (constant_at (sort.Integer bits) i j) (λ a b. gives s (o.Constant a) (o.Constant b))
  element_by_same sort.Float t i j = and s (constant_at sort.Float i j) (λ a b. gives s (o.Constant a) (o.Constant b))
  element_by_same sort.Double t i j = and s (constant_at sort.Double i j) (λ a b. gives s (o.Constant a) (o.Constant b))

  element_same : (w : Word) → Same s (element_operand w)
  unfolding element_operand
  element_same w i j = looks s (λ i. i.wide) (λ i. i.wide) (element_by w) (element_by w) i j (λ b. b.forms) (λ t. element_by_same w t i j)

  -- ---- operands

  operand_by_same : (bits : Word) (x : Kind) → Same s (operand_by bits x)
  operand_by_same bits k.LocalName i j = and s (used_value_at s i j) (λ a b. gives s (o.Local a) (o.Local b))
  operand_by_same bits k.LocalNumber i j = and s (used_value_at s i j) (λ a b. gives s (o.Local a) (o.Local b))
  operand_by_same bits k.GlobalName i j = and s (used_global_same s i j) (λ a b. gives s (o.Global a) (o.Global b))
  operand_by_same bits k.Bitcast i j = cast_same i j
  operand_by_same bits k.Getelementptr i j = element_same bits i j
  operand_by_same bits _ i j = and s (constant_at bits i j) (λ a b. gives s (o.Constant a) (o.Constant b))

  pub operand_same : (bits : Word) → Same s (operand bits)
  unfolding operand
  operand_same bits = by_kind s (operand_by bits) (operand_by_same bits)

  -- at the types of both
  pub operand_at : (bits other : Word) → bits ≡ other → Both s Any (operand bits) (operand other)
  operand_at bits other same i j = subst (λ (x : Word). At s Any (operand bits) (operand x) i j) same (operand_same bits i j)

  -- ---- lists

  argument_of_at : (v u : WrittenType) (i j : Input) → Written i j v u → At s Any (argument_of v) (argument_of u) i j
  argument_of_at v u i j h =
      past s (decorations_same s spot.Argument i j) (λ m q. and s (operand_at (word_of v) (word_of u) (bits_same i j v u h) m q) (λ x y i j.
      past s (separator_same s k.CloseRound i j) (gives s (record { written = v.id; operand = x }) (record { written = u.id; operand = y }))))

  pub argument_same : Same s argument
  unfolding argument
  argument_same i j = then s (scalar_at s i j) (λ v u m q h x y. argument_of_at v u m q h)

  pub arguments_same : Same s arguments
  unfolding arguments
  arguments_same = lists s at_round argument argument_takes (λ i j b. sees_same s k.CloseRound i.cursor j.cursor b.along) argument_same

  dotted_at : (c d : DottedArguments) → Both s Any (dotted_argument c) (dotted_argument d)
  unfolding dotted_argument
  dotted_at c d i j = then s (scalar_at s i j) (λ v u m q h x y. and s (argument_of_at v u m q h) (λ a b i j.
      and s (looks_any s (is_address_outside a.operand) (is_address_outside b.operand) pure pure i j (λ t r. gives s t r i j))
      (λ t r. gives s (kept_argument c.left (word_of v) a t) (kept_argument d.left (word_of u) b r))))

  -- nothing is asked of what came before
  abbrev Anyhow : Input → Input → DottedArguments → DottedArguments → Type 0
  Anyhow i j c d = Unit {0}

  pub dotted_arguments_at : (n m : ℕ) → Both s Any (dotted_arguments n) (dotted_arguments m)
  unfolding dotted_arguments
  dotted_arguments_at n m i j =
      and s (lists_with s Anyhow ends_dotted dotted_argument dotted_takes after_dotted (record {
        stops = λ i j c d one b. sees_same s k.CloseRound i.cursor j.cursor b.along;
        goes = λ i j c d one. so s {V = Any} (λ o p a b v. tt) (dotted_at c d i j);
      }) (record { left = n }) (record { left = m }) i j tt)
      (λ xs ys. gives s (filter_map (λ x. x) xs) (filter_map (λ x. x) ys))

  -- ---- dots

  dots_here : (i j : Input) → Beside s i j → at_dots i ≡ at_dots j
  unfolding at_dots
  dots_here i j b = ap₂ (λ (x y : Bool). x && y) b.forms (sees_same s k.Dots i.cursor j.cursor b.along)

  -- a list of parameters ends in both, or in neither
  pub parameters_end : (i j : Input) → Beside s i j → ends_parameters i ≡ ends_parameters j
  parameters_end i j b = ap₂ (λ (x y : Bool). x || y) (sees_same s k.CloseRound i.cursor j.cursor b.along) (dots_here i j b)

  pub dots_at : Both s Equal dots dots
  unfolding dots
  dots_at i j = looks s at_dots at_dots dots_by dots_by i j (dots_here i j) (λ t. by_at t i j) where
    by_at : (t : Bool) → Both s Equal (dots_by t) (dots_by t)
    by_at true i j = past s (both s lost_same (skip_same s) i j) (λ i j. give s {V = Equal} true true refl)
    by_at false i j = give s {V = Equal} false false refl

  -- ---- pairs of a type and an operand

  pub typed_same : Same s typed
  unfolding typed
  typed_same i j = then s (scalar_at s i j) (λ v u m q h x y. and s (operand_at (word_of v) (word_of u) (bits_same m q v u h) m q) (λ a b. gives s (record { written = v.id; operand = a }) (record { written = u.id; operand = b })))

  index_same : Same s index
  unfolding index
  index_same = both s (expect_same s k.Comma) typed_same

  -- no comma follows in both, or in neither
  pub comma_same : (i j : Input) → Beside s i j → at_no_comma i ≡ at_no_comma j
  comma_same i j b = which (sees k.Comma j.cursor) refl where
    same : sees k.Comma i.cursor ≡ sees k.Comma j.cursor
    same = sees_same s k.Comma i.cursor j.cursor b.along

    which : (t : Bool) → sees k.Comma j.cursor ≡ t → at_no_comma i ≡ at_no_comma j
    which false e = ap (λ (x : Bool). not x || is_metadata (kind_after i.cursor)) (same ∙ e) ∙ sym (ap (λ (x : Bool). not x || is_metadata (kind_after j.cursor)) e)
    which true e =
        let is = sees_is k.Comma j e in
        let after = after_same s i.cursor j.cursor b.along (λ close. let one : k.Comma ≡ k.CloseBrace = sym is ∙ close in cc) in
        ap (λ (x : Bool). not x || is_metadata (kind_after i.cursor)) same ∙ ap (λ (x : Kind). not (sees k.Comma j.cursor) || is_metadata x) after

  pub indices_same : Same s indices
  unfolding indices
  indices_same = lists_by s ends_indices any_index index_takes after_index (λ c i j b. ap (λ (x : Bool). c.is_further && x) (comma_same i j b)) (λ c i j. so s {V = Any} (λ o p a b e. refl) (index_same i j)) (record { is_further = false })
