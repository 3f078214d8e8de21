-- Operations are read alike in both.
use Rattle.std.proofs.Common.{◌≡◌, ℕ, Bool, true, false, not, Option, None, Some, refl, sym, ap, ap₂, subst, ◌∙◌}
use Rattle.std.specs.Prelude.{cond, ◌&&◌}
use Rattle.ir_tokens.specs.declared.token.Kind.{Kind}
use Rattle.ir_tokens.specs.declared.token.Kind.TheVariants as k
use Rattle.grammar.specs.Grammar.{pure, look}
use Rattle.ir_ast.specs.declared.calls.Call.{Call}
use Rattle.ir_ast.specs.declared.casts.Cast.{Cast}
use Rattle.ir_ast.specs.declared.function.LocalSort.TheVariants as local
use Rattle.ir_ast.specs.declared.ir_type.IrType.TheVariants as type
use Rattle.ir_ast.specs.declared.memory.MemoryOp.{MemoryOp}
use Rattle.ir_ast.specs.declared.memory.MemoryOp.TheVariants as memory
use Rattle.ir_ast.specs.declared.numbers.Arithmetic.{Arithmetic}
use Rattle.ir_ast.specs.declared.numbers.Comparison.{Comparison}
use Rattle.ir_ast.specs.declared.numbers.NumberOp.TheVariants as number
use Rattle.ir_ast.specs.declared.numbers.NumberOp.{NumberOp}
use Rattle.ir_ast.specs.declared.numbers.Resize.{Resize}
use Rattle.ir_ast.specs.declared.op.Op.{Op}
use Rattle.ir_ast.specs.declared.op.Op.TheVariants as op
use Rattle.ir_ast.specs.declared.operand.Constant.TheVariants as constant
use Rattle.ir_ast.specs.declared.operand.Operand.TheVariants as operand
use Rattle.ir_forms.specs.Cursor.{kind, kind_after, kind_third, same_kind, sees}
use Rattle.ir_forms.specs.declared.choices.Entries.{Entries}
use Rattle.ir_forms.specs.declared.decorating.Spot.TheVariants as spot
use Rattle.ir_forms.specs.declared.decorating.Trail.TheVariants as trail
use Rattle.ir_forms.specs.declared.input.Input.{Input}
use Rattle.ir_forms.specs.declared.site.Site.{Site}
use Rattle.ir_forms.specs.declared.written.WrittenType.{WrittenType}
use Rattle.ir_forms.specs.Input.{Form, unexpected, skip}
use Rattle.ir_forms.specs.Decorations.{either}
use Rattle.ir_forms.specs.Records.{trail_of}
use Rattle.ir_forms.specs.Ops.{as_op}
use Rattle.ir_forms.specs.FloatOps as floats
use Rattle.ir_forms.specs.FloatOps.{float_word_here, number_op_by, as_number}
use Rattle.ir_forms.specs.declared.float_ops.FloatWord.{FloatWord}
use Rattle.ir_print_law.proofs.AnewFloats.{float_word_same, float_op_same}
use Rattle.ir_forms.specs.Instructions.{wide_op_by, wide_op, named_op_by}
use Rattle.ir_forms.specs.Written.{is_scalar, word_of}
use Rattle.ir_forms.specs.Numbers.{typed_integer, pair, arithmetic_of, arithmetic, wide_here, wide_by, wide_or_resized, wide_arithmetic, exact, is_exact, resize_of, resize, comparison_of, comparison_by, comparison, compare, bit_type, condition, resize_by, resized, arithmetic_by, integer_op}
use Rattle.ir_forms.specs.Memory.{held_by, counts, is_integer_word, count_type, counted_by, count, single, counted, local_by, local_of, alloca, place_of, load, store}
use Rattle.ir_forms.specs.Elements.{element}
use Rattle.ir_forms.specs.Casts.{bitcast, freezes, freeze}
use Rattle.ir_forms.specs.Choices.{typed_pair, select, separated, incoming, entry, entry_takes, ends_entries, after_entry, all_entries, is_local, begins_phi, at_no_phi, phi_value_by, phi_value, phi, phi_takes, phis}
use Rattle.ir_forms.specs.StandIns.{stand_in, first_of, null_of}
use Rattle.ir_forms.specs.declared.stand_ins.StandIn.{StandIn}
use Rattle.ir_forms.specs.declared.stand_ins.StandIn.TheVariants.{Itself, First, Null}
use Rattle.ir_forms.specs.Calls.{call_of, typed_call, named_call_by, named_call, call, valued, unnamed, void_call, numbered_call, call_by, call_statement_after, call_statement, sees_call, tail_call, tail_call_statement}
use Rattle.ir_forms.specs.declared.written.Word.{Word}
use Rattle.ir_forms.specs.declared.written.Word.TheVariants as sort
use Rattle.ir_print_law.specs.Shapes.{Integer}
use Rattle.ir_print_law.proofs.Seats.{Seat, Beside, sees_same, spelling_same, kind_same, after_same, third_same}
use Rattle.ir_print_law.proofs.Sim.{Between, Any, Equal, At, Both, Same, past, both, by, and, then, give, gives, refuses, tested, so, tells, by_kind, kinds, looks, lists, lists_by}
use Rattle.ir_print_law.proofs.AnewSteps.{skip_same, expect_same, seen}
use Rattle.ir_print_law.proofs.Names.{set_sort_at, new_value_at, numbered_value_at, unnamed_value_at, incoming_label_at}
use Rattle.ir_print_law.proofs.AnewTypes.{Written, written_later, bits_same, intern_at, integer_scalar_at, scalar_at, result_type_at, any_type_at}
use Rattle.ir_print_law.proofs.Again.{again_at, pointer_again_at}
use Rattle.ir_print_law.proofs.AnewOperands.{operand_same, operand_at, argument_same, typed_same, comma_same, indices_same}
use Rattle.ir_print_law.proofs.AnewCalls.{call_after_at}
use Rattle.ir_print_law.proofs.AnewDecorations.{optional_same, past_brackets_same, decorations_same, flagged_same}
use Rattle.ir_print_law.proofs.AnewRecords.{Trails, equals_is, stands_same, instruction_end_same, trailed_at}

module _ (s : Seat) where
  -- ---- numbers

  pair_same : Same s pair
  unfolding pair
  pair_same i j = then s (integer_scalar_at s i j) (λ v u m q h x y.
      let bits = bits_same m q v u h in
      and s (operand_at s (word_of v) (word_of u) bits m q) (λ a b i j. past s (expect_same s k.Comma i j) (λ i j. and s (operand_at s (word_of v) (word_of u) bits i j)
      (λ c d. gives s (record { written = v.id; first = a; second = c }) (record { written = u.id; first = b; second = d })))))

  arithmetic_same : (x : Arithmetic) (value : ℕ) → Same s (arithmetic x value)
  unfolding arithmetic
  arithmetic_same x value i j =
      past s (flagged_same s i j) (λ i j. and s (pair_same i j) (λ a b i j. past s (set_sort_at s value (local.Value a.written) (local.Value b.written) refl i j)
      (gives s (number.Arithmetic x a.written a.first a.second) (number.Arithmetic x b.written b.first b.second))))

  exact_by_same : (t : Bool) → Same s (either skip (pure tt) t)
  exact_by_same true = skip_same s
  exact_by_same false = gives s tt tt

  exact_alike : (i j : Input) → Beside s i j → is_exact i ≡ is_exact j
  unfolding is_exact
  exact_alike i j b = rw (sees_same s k.LowercaseWord i.cursor j.cursor b.along, spelling_same s i.cursor j.cursor b.along) refl

  exact_same : Same s exact
  unfolding exact
  exact_same = tells s is_exact (either skip (pure tt)) exact_alike exact_by_same

  wide_same : (x : Arithmetic) (value : ℕ) → Same s (wide_arithmetic x value)
  unfolding wide_arithmetic
  wide_same x value i j =
      past s (flagged_same s i j) (λ i j. past s (exact_same i j) (λ i j. and s (pair_same i j) (λ a b i j. past s (set_sort_at s value (local.Value a.written) (local.Value b.written) refl i j)
      (gives s (number.Arithmetic x a.written a.first a.second) (number.Arithmetic x b.written b.first b.second)))))

  typed_integer_same : Same s typed_integer
  unfolding typed_integer
  typed_integer_same i j = then s (integer_scalar_at s i j) (λ v u m q h x y.
      and s (operand_at s (word_of v) (word_of u) (bits_same m q v u h) m q) (λ a b. gives s (record { written = v.id; operand = a }) (record { written = u.id; operand = b })))

  resize_same : (x : Resize) (value : ℕ) → Same s (resize x value)
  unfolding resize
  resize_same x value i j =
      past s (flagged_same s i j) (λ i j. and s (typed_integer_same i j) (λ a b i j. past s (expect_same s k.To i j) (λ i j. and s (integer_scalar_at s i j) (λ v u i j.
      past s (set_sort_at s value (local.Value v.id) (local.Value u.id) refl i j) (gives s (number.Resize x a.written a.operand v.id) (number.Resize x b.written b.operand u.id))))))

  comparison_by_same : (x : Option Comparison) → Same s (comparison_by x)
  comparison_by_same None = refuses s unexpected
  comparison_by_same (Some x) = both s (skip_same s) (gives s x x)

  comparison_same : Same s comparison
  unfolding comparison
  comparison_same = tells s (λ i. comparison_of (kind i.cursor)) comparison_by (λ i j b. ap comparison_of (kind_same s i.cursor j.cursor b.along)) comparison_by_same

  compare_same : (value : ℕ) → Same s (compare value)
  unfolding compare
  compare_same value i j =
      past s (flagged_same s i j) (λ i j. and s (comparison_same i j) (λ x y i j. and s (pair_same i j) (λ a b i j. and s (intern_at s (type.Integer 1) (type.Integer 1) i j) (λ c d i j.
      past s (set_sort_at s value (local.Value c) (local.Value d) refl i j) (gives s (number.Compare x a.written a.first a.second) (number.Compare y b.written b.first b.second))))))

  pub condition_same : Same s condition
  unfolding condition
  condition_same i j =
      then s (intern_at s (type.Integer 1) (type.Integer 1) i j) (λ a b m q v x y. past s (again_at s (bit_type a) (bit_type b) m q (Integer 1, v.0, v.1)) (λ i j.
      and s (operand_same s (sort.Integer 1) i j) (λ c d. gives s (record { written = a; operand = c }) (record { written = b; operand = d }))))

  resize_by_same : (value : ℕ) (x : Option Resize) → Same s (resize_by value x)
  resize_by_same value None = refuses s unexpected
  resize_by_same value (Some x) = resize_same x value

  resized_same : (value : ℕ) → Same s (resized value)
  unfolding resized
  resized_same value = tells s (λ i. resize_of (kind i.cursor)) (resize_by value) (λ i j b. ap resize_of (kind_same s i.cursor j.cursor b.along)) (resize_by_same value)

  wide_by_same : (value : ℕ) (x : Option Arithmetic) → Same s (wide_by value x)
  wide_by_same value None = resized_same value
  wide_by_same value (Some x) = wide_same x value

  wide_here_same : (i j : Input) → Beside s i j → wide_here i ≡ wide_here j
  unfolding wide_here
  wide_here_same i j b = rw (b.forms, sees_same s k.LeftOut i.cursor j.cursor b.along, spelling_same s i.cursor j.cursor b.along) refl

  wide_or_resized_same : (value : ℕ) → Same s (wide_or_resized value)
  unfolding wide_or_resized
  wide_or_resized_same value = tells s wide_here (wide_by value) wide_here_same (wide_by_same value)

  arithmetic_by_same : (value : ℕ) (x : Option Arithmetic) → Same s (arithmetic_by value x)
  arithmetic_by_same value None = wide_or_resized_same value
  arithmetic_by_same value (Some x) = arithmetic_same x value

  integer_op_same : (value : ℕ) → Same s (integer_op value)
  unfolding integer_op
  integer_op_same value = tells s (λ i. arithmetic_of (kind i.cursor)) (arithmetic_by value) (λ i j b. ap arithmetic_of (kind_same s i.cursor j.cursor b.along)) (arithmetic_by_same value)

  -- ---- memory

  -- the same may follow both operations on memory
  abbrev Memories : Between MemoryOp MemoryOp
  Memories o p x y = Trails o p (op.Memory x) (op.Memory y)

  -- a type of integers
  count_type_at : Both s Written count_type count_type
  unfolding count_type
  count_type_at i j = then s (scalar_at s i j) (λ w u m q h x y.
      then s (tested s (λ _. is_integer_word (word_of w)) (λ _. is_integer_word (word_of u)) unexpected unexpected m q (λ b e. ap is_integer_word (sym (bits_same m q w u h)) ∙ e))
      (λ _ _ n r _ z e. give s {V = Written} w u (written_later m q n r w u z e h)))

  counted_by_same : Same s counted_by
  unfolding counted_by
  counted_by_same i j = then s (count_type_at i j) (λ v u m q h x y. and s (operand_at s (word_of v) (word_of u) (bits_same m q v u h) m q) (λ a b. gives s (record { written = v.id; operand = a }) (record { written = u.id; operand = b })))

  count_same : Same s count
  unfolding count
  count_same = both s (expect_same s k.Comma) counted_by_same

  -- a count follows in both, or in neither
  counts_same : (i j : Input) → Beside s i j → counts i ≡ counts j
  unfolding counts sees
  counts_same i j b = ap (λ (x : Bool). x && (sees k.Comma i.cursor && same_kind (kind_after i.cursor) k.IntegerType)) b.forms ∙ ap (λ (x : Bool). j.wide && x) (which (sees k.Comma j.cursor) refl) where
    same : sees k.Comma i.cursor ≡ sees k.Comma j.cursor
    same = sees_same s k.Comma i.cursor j.cursor b.along

    which : (t : Bool) → sees k.Comma j.cursor ≡ t → (sees k.Comma i.cursor && same_kind (kind_after i.cursor) k.IntegerType) ≡ (sees k.Comma j.cursor && same_kind (kind_after j.cursor) k.IntegerType)
    which false e = ap (λ (x : Bool). x && same_kind (kind_after i.cursor) k.IntegerType) (same ∙ e) ∙ sym (ap (λ (x : Bool). x && same_kind (kind_after j.cursor) k.IntegerType) e)
    which true e =
        let after = after_same s i.cursor j.cursor b.along (λ close. let one : k.Comma ≡ k.CloseBrace = sym (equals_is (kind j.cursor) k.Comma e) ∙ close in cc) in
        ap (λ (x : Bool). x && same_kind (kind_after i.cursor) k.IntegerType) same ∙ ap (λ (x : Kind). sees k.Comma j.cursor && same_kind x k.IntegerType) after

  -- the same may follow what an alloca makes, a slot or a buffer
  single_trail : (v : WrittenType) → trail_of (op.Memory (single v)) ≡ trail.Slot
  single_trail v = by (is_scalar v) where
    by : (b : Bool) → trail_of (op.Memory (cond b (memory.Alloca v.id) (memory.Buffer v.id None))) ≡ trail.Slot
    by true = refl
    by false = refl

  local_by_at : (v u : WrittenType) (t : Bool) → Both s Memories (local_by v t) (local_by u t)
  local_by_at v u true i j = and s (count_same i j) (λ x y i j. give s {V = Memories} (counted v x) (counted u y) refl)
  local_by_at v u false i j = give s {V = Memories} (single v) (single u) (single_trail v ∙ sym (single_trail u))

  local_at : (v u : WrittenType) → Both s Memories (local_of v) (local_of u)
  local_at v u i j = looks s {V = Memories} counts counts (local_by v) (local_by u) i j (counts_same i j) (λ t. local_by_at v u t i j)

  held_by_at : (wide : Bool) → Both s Written (held_by wide) (held_by wide)
  held_by_at true = any_type_at s
  held_by_at false = scalar_at s

  held_at : Both s Written (look (λ i. i.wide) held_by) (look (λ i. i.wide) held_by)
  held_at i j = looks s (λ i. i.wide) (λ i. i.wide) held_by held_by i j (λ beside. beside.forms) (λ t. held_by_at t i j)

  alloca_at : (value : ℕ) → Both s Memories (alloca value) (alloca value)
  unfolding alloca
  alloca_at value i j =
      past s (skip_same s i j) (λ i j. and s (held_at i j) (λ v u i j. then s (local_at v u i j) (λ a b m q h x y. past s (set_sort_at s value (local.Slot v.id) (local.Slot u.id) refl m q)
      (λ i j. give s {V = Memories} a b h))))

  place_at : (v u : WrittenType) (i j : Input) → Written i j v u → At s Any (place_of v) (place_of u) i j
  unfolding place_of
  place_at v u i j h =
      and s (pointer_again_at s v u i j h) (λ a b i j. and s (operand_same s sort.Pointer i j) (λ c d. gives s (record { written = a; operand = c }) (record { written = b; operand = d })))

  load_at : (value : ℕ) → Both s Memories (load value) (load value)
  unfolding load
  load_at value i j =
      past s (skip_same s i j) (λ i j. past s (optional_same s k.Volatile i j) (λ i j. then s (scalar_at s i j) (λ v u m q h x y. then s (expect_same s k.Comma m q) (λ _ _ n r _ z e.
      and s (place_at v u n r (written_later m q n r v u z e h)) (λ a b i j. past s (set_sort_at s value (local.Value v.id) (local.Value u.id) refl i j)
      (λ i j. give s {V = Memories} (memory.Load v.id a.written a.operand) (memory.Load u.id b.written b.operand) refl))))))

  store_at : Both s Memories store store
  unfolding store
  store_at i j =
      past s (skip_same s i j) (λ i j. past s (optional_same s k.Volatile i j) (λ i j. then s (scalar_at s i j) (λ v u m q h x y.
      then s (operand_at s (word_of v) (word_of u) (bits_same m q v u h) m q) (λ a b m1 q1 _ x1 y1. then s (expect_same s k.Comma m1 q1) (λ _ _ m2 q2 _ x2 y2.
      and s (place_at v u m2 q2 (written_later m1 q1 m2 q2 v u x2 y2 (written_later m q m1 q1 v u x1 y1 h))) (λ c d i j.
      give s {V = Memories} (memory.Store v.id a c.written c.operand) (memory.Store u.id b d.written d.operand) refl))))))

  -- ---- getelementptr and bitcast

  element_same : (site : Site) (value : ℕ) → Same s (element site value)
  unfolding element
  element_same site value i j =
      past s (flagged_same s i j) (λ i j. then s (any_type_at s i j) (λ v u m q h x y. then s (expect_same s k.Comma m q) (λ _ _ n r _ z e.
      and s (place_at v u n r (written_later m q n r v u z e h)) (λ a b i j. and s (indices_same s i j) (λ xs ys i j.
      past s (set_sort_at s value (local.Element site.block site.place) (local.Element site.block site.place) refl i j)
      (gives s (record { source = v.id; base_type = a.written; base = a.operand; indices = xs }) (record { source = u.id; base_type = b.written; base = b.operand; indices = ys })))))))

  bitcast_same : (value : ℕ) → Same s (bitcast value)
  unfolding bitcast
  bitcast_same value i j =
      past s (skip_same s i j) (λ i j. and s (typed_same s i j) (λ a b i j. past s (expect_same s k.To i j) (λ i j. and s (scalar_at s i j) (λ v u i j.
      past s (set_sort_at s value (local.Value v.id) (local.Value u.id) refl i j) (gives s (record { from = a.written; operand = a.operand; to = v.id }) (record { from = b.written; operand = b.operand; to = u.id }))))))

  freeze_same : (value : ℕ) → Same s (freeze value)
  unfolding freeze
  freeze_same value i j =
      past s (skip_same s i j) (λ i j. and s (typed_same s i j) (λ a b i j. past s (set_sort_at s value (local.Value a.written) (local.Value b.written) refl i j)
      (gives s (record { from = a.written; operand = a.operand; to = a.written }) (record { from = b.written; operand = b.operand; to = b.written }))))

  freezes_same : (i j : Input) → Beside s i j → freezes i ≡ freezes j
  unfolding freezes
  freezes_same i j b = rw (b.forms, spelling_same s i.cursor j.cursor b.along) refl

  -- ---- select and phi

  typed_pair_same : Same s typed_pair
  unfolding typed_pair
  typed_pair_same i j =
      then s (scalar_at s i j) (λ v u m q h x y.
      then s (operand_at s (word_of v) (word_of u) (bits_same m q v u h) m q) (λ a b m1 q1 _ x1 y1. then s (expect_same s k.Comma m1 q1) (λ _ _ m2 q2 _ x2 y2.
      let later = written_later m1 q1 m2 q2 v u x2 y2 (written_later m q m1 q1 v u x1 y1 h) in
      past s (again_at s v u m2 q2 later.3) (λ i j. and s (operand_at s (word_of v) (word_of u) (bits_same m q v u h) i j)
      (λ c d. gives s (record { written = v.id; first = a; second = c }) (record { written = u.id; first = b; second = d }))))))

  select_same : (value : ℕ) → Same s (select value)
  unfolding select
  select_same value i j =
      past s (skip_same s i j) (λ i j. and s (condition_same i j) (λ a b i j. past s (expect_same s k.Comma i j) (λ i j. and s (typed_pair_same i j) (λ c d i j.
      past s (set_sort_at s value (local.Value c.written) (local.Value d.written) refl i j)
      (gives s (record { condition_type = a.written; condition = a.operand; written = c.written; chosen = c.first; other = c.second })
      (record { condition_type = b.written; condition = b.operand; written = d.written; chosen = d.first; other = d.second }))))))

  separated_same : (t : Bool) → Same s (separated t)
  unfolding separated
  separated_same true = expect_same s k.Comma
  separated_same false = gives s {A = Unit {0}} {B = Unit {0}} tt tt

  incoming_same : (bits : Word) → Same s (incoming bits)
  unfolding incoming
  incoming_same bits i j =
      past s (expect_same s k.OpenSquare i j) (λ i j. and s (operand_same s bits i j) (λ a b i j. past s (expect_same s k.Comma i j) (λ i j. and s (incoming_label_at s i j) (λ c d i j.
      past s (expect_same s k.CloseSquare i j) (gives s (record { operand = a; from = c }) (record { operand = b; from = d }))))))

  entry_same : (e : Entries) → Same s (entry e)
  unfolding entry
  entry_same e = both s (separated_same e.is_further) (incoming_same e.word)

  entries_same : (bits : Word) → Same s (all_entries bits)
  unfolding all_entries
  entries_same bits =
      lists_by s ends_entries entry entry_takes after_entry (λ c i j b. ap (λ (x : Bool). c.is_further && x) (comma_same s i j b)) (λ c i j. so s {V = Any} (λ o p a b e. refl) (entry_same c i j))
      (record { word = bits; is_further = false })

  entries_at : (bits other : Word) → bits ≡ other → Both s Any (all_entries bits) (all_entries other)
  entries_at bits other same i j = subst (λ (x : Word). At s Any (all_entries bits) (all_entries x) i j) same (entries_same bits i j)

  -- a name is no brace that closes
  local_apart : (x : Kind) → is_local x ≡ true → x ≡ k.CloseBrace → ⊥
  local_apart x is same = let bad = sym (ap is_local same) ∙ is in cc

  phi_same_by : (i j : Input) → Beside s i j → (t : Bool) → is_local (kind j.cursor) ≡ t → begins_phi i ≡ begins_phi j
  phi_same_by i j b false e =
      ap (λ (x : Bool). x && (same_kind (kind_after i.cursor) k.Equals && same_kind (kind_third i.cursor) k.Phi)) (ap is_local (kind_same s i.cursor j.cursor b.along) ∙ e)
      ∙ sym (ap (λ (x : Bool). x && (same_kind (kind_after j.cursor) k.Equals && same_kind (kind_third j.cursor) k.Phi)) e)
  phi_same_by i j b true e = ap₂ (λ (x y : Bool). x && y) (ap is_local (kind_same s i.cursor j.cursor b.along)) (which (same_kind (kind_after j.cursor) k.Equals) refl) where
    first : kind j.cursor ≡ k.CloseBrace → ⊥
    first = local_apart (kind j.cursor) e

    after : kind_after i.cursor ≡ kind_after j.cursor
    after = after_same s i.cursor j.cursor b.along first

    which : (t : Bool) → same_kind (kind_after j.cursor) k.Equals ≡ t
        → (same_kind (kind_after i.cursor) k.Equals && same_kind (kind_third i.cursor) k.Phi) ≡ (same_kind (kind_after j.cursor) k.Equals && same_kind (kind_third j.cursor) k.Phi)
    which false is =
        ap (λ (x : Bool). x && same_kind (kind_third i.cursor) k.Phi) (ap (λ (x : Kind). same_kind x k.Equals) after ∙ is)
        ∙ sym (ap (λ (x : Bool). x && same_kind (kind_third j.cursor) k.Phi) is)
    which true is =
        let third = third_same s i.cursor j.cursor b.along first (λ close. let one : k.Equals ≡ k.CloseBrace = sym (equals_is (kind_after j.cursor) k.Equals is) ∙ close in cc) in
        ap₂ (λ (x y : Kind). same_kind x k.Equals && same_kind y k.Phi) after third

  no_phi_same : (i j : Input) → Beside s i j → at_no_phi i ≡ at_no_phi j
  no_phi_same i j b = ap not (phi_same_by i j b (is_local (kind j.cursor)) refl)

  phi_value_by_at : (x : Kind) → Both s Equal (phi_value_by x) (phi_value_by x)
  phi_value_by_at k.LocalName = new_value_at s
  phi_value_by_at k.LocalNumber = numbered_value_at s
  phi_value_by_at _ = refuses s unexpected

  phi_value_at : Both s Equal phi_value phi_value
  unfolding phi_value
  phi_value_at i j = kinds s phi_value_by phi_value_by i j (λ x. phi_value_by_at x i j)

  phi_same : Same s phi
  unfolding phi
  phi_same i j =
      by s (phi_value_at i j) (λ value i j. past s (expect_same s k.Equals i j) (λ i j. past s (expect_same s k.Phi i j) (λ i j. then s (scalar_at s i j) (λ v u m q h x y.
      and s (entries_at (word_of v) (word_of u) (bits_same m q v u h) m q) (λ xs ys i j. past s (set_sort_at s value (local.Value v.id) (local.Value u.id) refl i j) (λ i j.
      past s (instruction_end_same s trail.Other i j) (gives s (record { value = value; written = v.id; incoming = xs }) (record { value = value; written = u.id; incoming = ys }))))))))

  pub phis_same : Same s phis
  unfolding phis
  phis_same = lists s at_no_phi phi phi_takes no_phi_same phi_same

  -- ---- calls

  call_of_at : (value a b : ℕ) → Both s Any (call_of value a) (call_of value b)
  call_of_at value a b i j = and s (call_after_at s a b i j) (λ x y i j. past s (set_sort_at s value (local.Value a) (local.Value b) refl i j) (gives s x y))

  typed_call_same : (value : ℕ) → Same s (typed_call value)
  typed_call_same value i j = and s (result_type_at s i j) (λ v u. call_of_at value v.id u.id)

  -- an operation after which the same may follow
  pub valued_at : (value : ℕ) (x y : Op) → trail_of x ≡ trail_of y → Both s Any (valued value x) (valued value y)
  valued_at value x y same i j = and s (trailed_at s x y same i j) (λ a b. gives s (record { result = Some value; op = a }) (record { result = Some value; op = b }))

  pub unnamed_at : (x y : Op) → trail_of x ≡ trail_of y → Both s Any (unnamed x) (unnamed y)
  unnamed_at x y same i j = and s (trailed_at s x y same i j) (λ a b. gives s (record { result = None; op = a }) (record { result = None; op = b }))

  call_op : {g : Form Call} → Same s g → Both s Trails (as_op op.Call g) (as_op op.Call g)
  call_op same i j = and s (same i j) (λ x y i j. give s {V = Trails} (op.Call x) (op.Call y) refl)

  -- ---- what stands in the place of a call

  first_of_same : (value : ℕ) → Same s (first_of value)
  unfolding first_of
  first_of_same value i j =
      past s (skip_same s i j) (λ i j. past s (expect_same s k.OpenRound i j) (λ i j. and s (argument_same s i j) (λ x y i j. past s (past_brackets_same s i j) (λ i j.
      past s (decorations_same s spot.Call i j) (λ i j. past s (set_sort_at s value (local.Value x.written) (local.Value y.written) refl i j)
      (gives s (record { from = x.written; operand = x.operand; to = x.written }) (record { from = y.written; operand = y.operand; to = y.written })))))))

  null_of_at : (value a b : ℕ) → Both s Any (null_of value a) (null_of value b)
  unfolding null_of
  null_of_at value a b i j =
      past s (skip_same s i j) (λ i j. past s (expect_same s k.OpenRound i j) (λ i j. past s (past_brackets_same s i j) (λ i j.
      past s (decorations_same s spot.Call i j) (λ i j. past s (set_sort_at s value (local.Value a) (local.Value b) refl i j)
      (gives s (record { from = a; operand = operand.Constant constant.Null; to = a }) (record { from = b; operand = operand.Constant constant.Null; to = b }))))))

  cast_op : {g h : Form Cast} → Both s Any g h → Both s Trails (as_op op.Cast g) (as_op op.Cast h)
  cast_op same i j = and s (same i j) (λ x y i j. give s {V = Trails} (op.Cast x) (op.Cast y) refl)

  named_call_by_at : (value a b : ℕ) (x : StandIn) → Both s Trails (named_call_by value a x) (named_call_by value b x)
  named_call_by_at value a b Itself = λ i j. and s (call_of_at value a b i j) (λ x y i j. give s {V = Trails} (op.Call x) (op.Call y) refl)
  named_call_by_at value a b First = cast_op (first_of_same value)
  named_call_by_at value a b Null = cast_op (null_of_at value a b)

  named_call_at : (value : ℕ) → Both s Trails (named_call value) (named_call value)
  named_call_at value i j =
      and s (result_type_at s i j) (λ v u i j.
      looks s {V = Trails} stand_in stand_in (named_call_by value v.id) (named_call_by value u.id) i j (stands_same s i j) (λ x. named_call_by_at value v.id u.id x i j))

  call_at : (value : ℕ) → Both s Trails (call value) (call value)
  unfolding call
  call_at value i j = past s (skip_same s i j) (λ i j. past s (decorations_same s spot.Result i j) (named_call_at value))

  void_call_same : Same s void_call
  unfolding void_call
  void_call_same i j = and s (past s (skip_same s i j) (intern_at s type.Void type.Void)) (λ a b. call_after_at s a b)

  numbered_call_same : Same s numbered_call
  unfolding numbered_call
  numbered_call_same i j = by s (unnamed_value_at s i j) (λ value i j. then s (call_op (typed_call_same value) i j) (λ x y m q same g h. valued_at value x y same m q))

  call_by_same : (x : Kind) → Same s (call_by x)
  call_by_same k.Void i j = then s (call_op void_call_same i j) (λ x y m q same g h. unnamed_at x y same m q)
  call_by_same _ i j = numbered_call_same i j

  statement_after_same : Same s call_statement_after
  statement_after_same = both s (decorations_same s spot.Result) (by_kind s call_by call_by_same)

  pub call_statement_same : Same s call_statement
  unfolding call_statement
  call_statement_same = both s (skip_same s) statement_after_same

  sees_call_same : Same s sees_call
  sees_call_same = both s (skip_same s) (seen s k.Call)

  tail_call_at : (value : ℕ) → Both s Trails (tail_call value) (tail_call value)
  unfolding tail_call
  tail_call_at value i j = past s (sees_call_same i j) (call_at value)

  pub tail_statement_same : Same s tail_call_statement
  unfolding tail_call_statement
  tail_statement_same = both s sees_call_same call_statement_same

  -- ---- the operations that have a name

  number_op : {g : Form NumberOp} → Same s g → Both s Trails (as_op op.Number g) (as_op op.Number g)
  number_op same i j = and s (same i j) (λ x y i j. give s {V = Trails} (op.Number x) (op.Number y) refl)

  memory_op : {g : Form MemoryOp} → Both s Memories g g → Both s Trails (as_op op.Memory g) (as_op op.Memory g)
  memory_op same i j = then s (same i j) (λ x y m q h g f. give s {V = Trails} (op.Memory x) (op.Memory y) h)

  pub store_op : Both s Trails (as_op op.Memory store) (as_op op.Memory store)
  store_op = memory_op store_at

  number_op_by_at : (value : ℕ) (x : Option FloatWord) → Both s Trails (number_op_by value x) (number_op_by value x)
  number_op_by_at value None = number_op (integer_op_same value)
  number_op_by_at value (Some x) = λ i j. and s (float_op_same s value x i j) (λ x y i j. give s {V = Trails} (as_number x) (as_number y) refl)

  wide_op_by_at : (value : ℕ) (x : Bool) → Both s Trails (wide_op_by value x) (wide_op_by value x)
  unfolding floats.number_op
  wide_op_by_at value true = λ i j. and s (freeze_same value i j) (λ x y i j. give s {V = Trails} (op.Cast x) (op.Cast y) refl)
  wide_op_by_at value false = λ i j. looks s {V = Trails} float_word_here float_word_here (number_op_by value) (number_op_by value) i j (λ b. float_word_same s i j b) (λ x. number_op_by_at value x i j)

  wide_op_at : (value : ℕ) → Both s Trails (wide_op value) (wide_op value)
  unfolding wide_op
  wide_op_at value i j = looks s {V = Trails} freezes freezes (wide_op_by value) (wide_op_by value) i j (freezes_same i j) (λ x. wide_op_by_at value x i j)

  pub named_op_by_at : (site : Site) (value : ℕ) (x : Kind) → Both s Trails (named_op_by site value x) (named_op_by site value x)
  named_op_by_at site value k.Alloca = memory_op (alloca_at value)
  named_op_by_at site value k.Bitcast = λ i j. and s (bitcast_same value i j) (λ x y i j. give s {V = Trails} (op.Cast x) (op.Cast y) refl)
  named_op_by_at site value k.Load = memory_op (load_at value)
  named_op_by_at site value k.Getelementptr = λ i j. and s (element_same site value i j) (λ x y i j. give s {V = Trails} (op.Element x) (op.Element y) refl)
  named_op_by_at site value k.Icmp = number_op (compare_same value)
  named_op_by_at site value k.Select = λ i j. and s (select_same value i j) (λ x y i j. give s {V = Trails} (op.Choice x) (op.Choice y) refl)
  named_op_by_at site value k.Call = call_at value
  named_op_by_at site value k.Tail = tail_call_at value
  named_op_by_at site value k.Notail = tail_call_at value
  named_op_by_at site value k.LeftOut = wide_op_at value
  named_op_by_at site value _ = number_op (integer_op_same value)
