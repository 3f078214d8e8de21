-- The blocks of a function are read alike in both.
use Rattle.std.proofs.Common.{◌≡◌, ℕ, Bool, true, false, not, List, [], Option, refl, sym, ap, ap₂, subst, ◌∙◌}
use Rattle.std.specs.Prelude.{◌&&◌, nat_lt}
use Rattle.grammar.specs.Grammar.{pure, checked, ◌>>=◌, ◌>>◌}
use Rattle.ir_tokens.specs.declared.token.Kind.{Kind}
use Rattle.ir_tokens.specs.declared.token.Kind.TheVariants as k
use Rattle.ir_ast.specs.declared.ends.Case.{Case}
use Rattle.ir_ast.specs.declared.ends.End.TheVariants as end
use Rattle.ir_ast.specs.declared.function.LocalSort.TheVariants as local
use Rattle.ir_ast.specs.declared.operand.Constant.{Constant}
use Rattle.ir_forms.specs.CaseValues.{value_of, is_among, with_value}
use Rattle.ir_forms.specs.Cursor.{sees, start, left_out}
use Rattle.ir_forms.specs.declared.case_values.CaseValue.{CaseValue}
use Rattle.ir_forms.specs.declared.decorating.Spot.TheVariants as spot
use Rattle.ir_forms.specs.declared.decorating.Trail.TheVariants as trail
use Rattle.ir_forms.specs.declared.ends.Cases.{Cases}
use Rattle.ir_forms.specs.declared.fault.Fault.TheVariants.{DefinedTwice}
use Rattle.ir_forms.specs.declared.input.Input.{Input}
use Rattle.ir_forms.specs.declared.site.Site.{Site}
use Rattle.ir_forms.specs.declared.written.WrittenType.{WrittenType}
use Rattle.ir_forms.specs.Decorations.{either}
use Rattle.ir_forms.specs.Ends.{jump, branch, br, case_constant, case_of, case, case_takes, at_square, after_case, all_cases, bracketed_cases, switch, returned_value, ret, terminator_by, terminator, ends_block, block_end}
use Rattle.ir_forms.specs.Input.{limit, unexpected, skip}
use Rattle.ir_forms.specs.Instructions.{named_op_by, named_op, named_after, instruction_by, instruction, placed, placed_takes, at_terminator, body}
use Rattle.ir_forms.specs.Operand.{constant}
use Rattle.ir_forms.specs.Sites.{first_of, afterwards}
use Rattle.ir_forms.specs.Written.{word_of}
use Rattle.ir_forms.specs.Lists.{at_round}
use Rattle.ir_forms.specs.declared.written.Word.{Word}
use Rattle.ir_text.specs.Blocks.{label_by, block_label, block, further, further_takes, at_close, after_block, blocks}
use Rattle.ir_text.specs.Parameters.{parameter_type_by, parameter_type, parameter_name_by, parameter_name, parameter, parameter_takes, parameters}
use Rattle.ir_print_law.proofs.Seats.{Seat, Grown, kind_same, sees_same}
use Rattle.ir_print_law.proofs.Sim.{Between, Any, Equal, At, Both, Same, past, both, by, and, then, give, gives, refuses, tested, so, growing, looks_any, tells, by_kind, kinds, lists, lists_by, lists_with}
use Rattle.ir_print_law.proofs.AnewSteps.{skip_same, expect_same, rule}
use Rattle.ir_print_law.proofs.Names.{set_sort_at, new_value_at, numbered_value_at, unnamed_value_at, target_at, label_at, numbered_label_at, unnamed_label_at}
use Rattle.ir_print_law.proofs.AnewTypes.{Written, written_later, bits_same, integer_scalar_at, scalar_at, passed_at}
use Rattle.ir_print_law.proofs.Again.{again_at}
use Rattle.ir_print_law.proofs.AnewOperands.{constant_at, operand_at, typed_same}
use Rattle.ir_print_law.proofs.AnewDecorations.{decorations_same, trailing_same, separator_same}
use Rattle.ir_print_law.proofs.AnewRecords.{debug_records_same}
use Rattle.ir_print_law.proofs.Ops.{condition_same, phis_same, call_statement_same, tail_statement_same, valued_at, unnamed_at, store_op, named_op_by_at}

module _ (s : Seat) where
  -- ---- br

  jump_same : Same s jump
  jump_same i j = and s (target_at s i j) (λ a b. gives s (end.Jump a) (end.Jump b))

  branch_same : Same s branch
  unfolding branch
  branch_same i j =
      and s (condition_same s i j) (λ a b i j. past s (expect_same s k.Comma i j) (λ i j. and s (target_at s i j) (λ c d i j. past s (expect_same s k.Comma i j) (λ i j. and s (target_at s i j)
      (λ e f. gives s (end.Branch a.written a.operand c e) (end.Branch b.written b.operand d f))))))

  br_same : Same s br
  unfolding br
  br_same = both s (skip_same s) (tells s (λ i. sees k.Label i.cursor) (either jump branch) (λ i j b. sees_same s k.Label i.cursor j.cursor b.along) which) where
    which : (t : Bool) → Same s (either jump branch t)
    which true = jump_same
    which false = branch_same

  -- ---- switch

  case_constant_at : (bits other : Word) (seen more : List CaseValue) → bits ≡ other → seen ≡ more → Both s Equal (case_constant bits seen) (case_constant other more)
  unfolding case_constant
  case_constant_at bits other seen more e f i j =
      looks_any s (λ i. start i.cursor) (λ i. start i.cursor) (λ place. constant bits >>= λ x. checked (λ _. not (is_among (value_of x) seen)) (λ _. DefinedTwice place) >> pure x)
      (λ place. constant other >>= λ x. checked (λ _. not (is_among (value_of x) more)) (λ _. DefinedTwice place) >> pure x) i j
      (λ from there. by s (subst (λ (b : Word). At s Equal (constant bits) (constant b) i j) e (constant_at s bits i j)) (λ x i j.
      past s (tested s (λ _. not (is_among (value_of x) seen)) (λ _. not (is_among (value_of x) more)) (λ _. DefinedTwice from) (λ _. DefinedTwice there) i j
      (λ b is. sym (ap (λ (l : List CaseValue). not (is_among (value_of x) l)) f) ∙ is)) (λ i j. give s {V = Equal} x x refl)))

  -- both cases have one constant
  abbrev SameCase : Between Case Case
  SameCase o p a b = a.constant ≡ b.constant

  case_of_at : (x : Constant) → Both s SameCase (case_of x) (case_of x)
  case_of_at x i j = past s (expect_same s k.Comma i j) (λ i j. and s (target_at s i j) (λ a b i j. give s {V = SameCase} (record { constant = x; target = a }) (record { constant = x; target = b }) refl))

  -- what both know before a case
  abbrev SameCases : Input → Input → Cases → Cases → Type 0
  SameCases i j c d = Written i j c.written d.written × (c.seen ≡ d.seen)

  case_at : (i j : Input) (c d : Cases) → SameCases i j c d → At s (λ o p a b. SameCases o p (after_case c a) (after_case d b)) (case c) (case d) i j
  unfolding case
  case_at i j c d h =
      so s {V = λ o p a b. Grown i o × Grown j p × SameCase o p a b} (λ o p a b v. (written_later i j o p c.written d.written v.0 v.1 h.0, ap₂ (λ (x : Constant) (l : List CaseValue). with_value (value_of x) l) v.2 h.1))
      (growing s {V = SameCase} (past s (again_at s c.written d.written i j h.0.3) (λ m q.
      by s (case_constant_at (word_of c.written) (word_of d.written) c.seen d.seen (bits_same i j c.written d.written h.0) h.1 m q) case_of_at)))

  bracketed_at : (v u : WrittenType) (i j : Input) → Written i j v u → At s Any (bracketed_cases v) (bracketed_cases u) i j
  unfolding bracketed_cases all_cases
  bracketed_at v u i j h =
      then s (expect_same s k.OpenSquare i j) (λ _ _ m q _ x y.
      and s (lists_with s SameCases at_square case case_takes after_case (record { stops = λ i j c d r b. sees_same s k.CloseSquare i.cursor j.cursor b.along; goes = case_at })
      (record { written = v; seen = [] }) (record { written = u; seen = [] }) m q (written_later i j m q v u x y h, refl)) (λ xs ys i j. past s (expect_same s k.CloseSquare i j) (gives s xs ys)))

  switch_same : Same s switch
  unfolding switch
  switch_same i j =
      past s (skip_same s i j) (λ i j. then s (integer_scalar_at s i j) (λ v u m q h x y.
      then s (operand_at s (word_of v) (word_of u) (bits_same m q v u h) m q) (λ a b m1 q1 _ x1 y1.
      then s (expect_same s k.Comma m1 q1) (λ _ _ m2 q2 _ x2 y2.
      then s (target_at s m2 q2) (λ c d m3 q3 _ x3 y3.
      and s (bracketed_at v u m3 q3 (written_later m2 q2 m3 q3 v u x3 y3 (written_later m1 q1 m2 q2 v u x2 y2 (written_later m q m1 q1 v u x1 y1 h)))) (λ xs ys.
      gives s (end.Switch v.id a c xs) (end.Switch u.id b d ys)))))))

  -- ---- the end of a block

  returned_same : Same s returned_value
  returned_same i j = and s (typed_same s i j) (λ a b. gives s (end.Return a) (end.Return b))

  ret_same : Same s ret
  unfolding ret
  ret_same = both s (skip_same s) (tells s (λ i. sees k.Void i.cursor) (either (skip >> pure end.ReturnVoid) returned_value) (λ i j b. sees_same s k.Void i.cursor j.cursor b.along) which) where
    which : (t : Bool) → Same s (either (skip >> pure end.ReturnVoid) returned_value t)
    which true = both s (skip_same s) (gives s end.ReturnVoid end.ReturnVoid)
    which false = returned_same

  terminator_by_same : (x : Kind) → Same s (terminator_by x)
  terminator_by_same k.Ret = ret_same
  terminator_by_same k.Br = br_same
  terminator_by_same k.Switch = switch_same
  terminator_by_same k.Unreachable = both s (skip_same s) (gives s end.Unreachable end.Unreachable)
  terminator_by_same _ = refuses s unexpected

  block_end_same : Same s block_end
  unfolding block_end terminator
  block_end_same i j = and s (by_kind s terminator_by terminator_by_same i j) (λ x y. λ i j. past s (trailing_same s trail.Other i j) (gives s x y))

  -- ---- the body of a block

  named_after_same : (site : Site) (value : ℕ) → Same s (named_after site value)
  unfolding named_op
  named_after_same site value i j =
      past s (expect_same s k.Equals i j) (λ i j. then s (kinds s (named_op_by site value) (named_op_by site value) i j (λ x. named_op_by_at s site value x i j)) (λ x y m q same g h. valued_at s value x y same m q))

  instruction_by_same : (site : Site) (x : Kind) → Same s (instruction_by site x)
  instruction_by_same site k.LocalName i j = by s (new_value_at s i j) (λ value. named_after_same site value)
  instruction_by_same site k.LocalNumber i j = by s (numbered_value_at s i j) (λ value. named_after_same site value)
  instruction_by_same site k.Call i j = call_statement_same s i j
  instruction_by_same site k.Tail i j = tail_statement_same s i j
  instruction_by_same site k.Notail i j = tail_statement_same s i j
  instruction_by_same site k.Store i j = then s (store_op s i j) (λ x y m q same g h. unnamed_at s x y same m q)
  instruction_by_same site _ i j = refuses s unexpected i j

  placed_same : (site : Site) → Same s (placed site)
  unfolding instruction
  placed_same site = both s (rule s (λ _. nat_lt site.place 4294967295) limit (λ i j b. refl)) (by_kind s (instruction_by site) (instruction_by_same site))

  body_same : (number : ℕ) → Same s (body number)
  unfolding body
  body_same number =
      lists_by s at_terminator placed placed_takes afterwards (λ c i j b. ap ends_block (kind_same s i.cursor j.cursor b.along)) (λ c i j. so s {V = Any} (λ o p a b e. refl) (placed_same c i j)) (first_of number)

  -- ---- blocks

  label_by_at : (number : ℕ) (x : Kind) → Both s Equal (label_by number x) (label_by number x)
  label_by_at number k.LabelName = label_at s number
  label_by_at number k.LabelNumber = numbered_label_at s number
  label_by_at number _ = unnamed_label_at s number

  block_same : (number : ℕ) → Same s (block number)
  unfolding block block_label
  block_same number i j =
      and s (past s (rule s (λ _. nat_lt number 65535) limit (λ i j b. refl) i j) (λ i j. kinds s (label_by number) (label_by number) i j (λ x. label_by_at number x i j))) (λ l n i j.
      past s (debug_records_same s i j) (λ i j. and s (phis_same s i j) (λ ps qs i j. and s (body_same number i j) (λ xs ys i j. and s (block_end_same i j)
      (λ e f. gives s (record { label = l; phis = ps; body = xs; end = e }) (record { label = n; phis = qs; body = ys; end = f }))))))

  pub blocks_same : Same s blocks
  unfolding blocks
  blocks_same =
      lists_by s at_close further further_takes after_block (λ c i j b. ap (λ (x : Bool). nat_lt 0 c.count && x) (sees_same s k.CloseBrace i.cursor j.cursor b.along))
      (λ c i j. so s {V = Any} (λ o p a b e. refl) (block_same c.count i j)) (record { count = 0 })

  -- ---- parameters

  parameter_type_by_at : (x : Kind) → Both s Written (parameter_type_by x) (parameter_type_by x)
  parameter_type_by_at k.Void = refuses s (λ i. left_out i.cursor)
  parameter_type_by_at _ = passed_at s

  parameter_name_by_at : (x : Kind) → Both s Equal (parameter_name_by x) (parameter_name_by x)
  parameter_name_by_at k.LocalName = new_value_at s
  parameter_name_by_at k.LocalNumber = numbered_value_at s
  parameter_name_by_at k.Comma = unnamed_value_at s
  parameter_name_by_at k.CloseRound = unnamed_value_at s
  parameter_name_by_at _ = refuses s unexpected

  parameter_same : Same s parameter
  unfolding parameter parameter_type parameter_name
  parameter_same i j =
      and s (kinds s parameter_type_by parameter_type_by i j (λ x. parameter_type_by_at x i j)) (λ v u i j. past s (decorations_same s spot.Parameter i j) (λ i j.
      by s (kinds s parameter_name_by parameter_name_by i j (λ x. parameter_name_by_at x i j)) (λ value i j. past s (set_sort_at s value (local.Value v.id) (local.Value u.id) refl i j) (λ i j.
      past s (separator_same s k.CloseRound i j) (gives s (record { written = v.id; value = value }) (record { written = u.id; value = value }))))))

  pub parameters_same : Same s parameters
  unfolding parameters
  parameters_same = lists s at_round parameter parameter_takes (λ i j b. sees_same s k.CloseRound i.cursor j.cursor b.along) parameter_same
