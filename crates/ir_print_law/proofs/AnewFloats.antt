-- Operations on floating point numbers are read alike in both.
use Rattle.std.proofs.Common.{◌≡◌, ℕ, Bool, true, false, not, List, Option, None, Some, refl, sym, ap, ap₂, ◌∙◌}
use Rattle.std.specs.Prelude.{◌&&◌}
use Rattle.grammar.specs.Grammar.{pure, ◌>>◌}
use Rattle.ir_ast.specs.declared.floats.Conversion.{Conversion}
use Rattle.ir_ast.specs.declared.floats.Conversion.TheVariants as conversion
use Rattle.ir_ast.specs.declared.floats.FloatArithmetic.{FloatArithmetic}
use Rattle.ir_ast.specs.declared.floats.FloatComparison.{FloatComparison}
use Rattle.ir_ast.specs.declared.floats.FloatOp.TheVariants as float
use Rattle.ir_ast.specs.declared.function.LocalSort.TheVariants as local
use Rattle.ir_ast.specs.declared.ir_type.IrType.TheVariants as type
use Rattle.ir_tokens.specs.declared.token.Kind.TheVariants as k
use Rattle.ir_forms.specs.Cursor.{sees, spelling}
use Rattle.ir_forms.specs.FloatOps as floats
use Rattle.ir_forms.specs.Input.{skip, expect, unexpected}
use Rattle.ir_forms.specs.Written.{word_of}
use Rattle.ir_forms.specs.declared.float_ops.FloatWord.{FloatWord}
use Rattle.ir_forms.specs.declared.float_ops.FloatWord.TheVariants as word
use Rattle.ir_forms.specs.declared.input.Input.{Input}
use Rattle.ir_print_law.proofs.Seats.{Seat, Beside, sees_same, spelling_same}
use Rattle.ir_print_law.proofs.Sim.{Any, At, Same, past, both, and, then, gives, refuses, tells, lists, tested}
use Rattle.ir_print_law.proofs.AnewSteps.{skip_same, expect_same}
use Rattle.ir_print_law.proofs.AnewDecorations.{optional_same}
use Rattle.ir_print_law.proofs.AnewOperands.{operand_at}
use Rattle.ir_print_law.proofs.AnewTypes.{bits_same, intern_at, scalar_at, float_scalar_at}
use Rattle.ir_print_law.proofs.Names.{set_sort_at}

module _ (s : Seat) where
  -- ---- words and flags

  pub float_word_same : (i j : Input) → Beside s i j → floats.float_word_here i ≡ floats.float_word_here j
  unfolding floats.float_word_here
  float_word_same i j b = rw (b.forms, sees_same s k.LeftOut i.cursor j.cursor b.along, spelling_same s i.cursor j.cursor b.along) refl

  flag_alike : (i j : Input) → Beside s i j → floats.at_no_float_flag i ≡ floats.at_no_float_flag j
  unfolding floats.at_float_flag
  flag_alike i j b = rw (sees_same s k.LowercaseWord i.cursor j.cursor b.along, spelling_same s i.cursor j.cursor b.along) refl

  flagged_same : Same s floats.flagged_float
  unfolding floats.flagged_float
  flagged_same =
      both s (both s (skip_same s) (lists s floats.at_no_float_flag floats.float_flag floats.float_flag_takes flag_alike (expect_same s k.LowercaseWord))) (gives s tt tt)

  -- ---- operations

  float_pair_same : Same s floats.float_pair
  unfolding floats.float_pair
  float_pair_same i j = then s (float_scalar_at s i j) (λ v u m q h x y.
      let bits = bits_same m q v u h in
      and s (operand_at s (word_of v) (word_of u) bits m q) (λ a b i j. past s (expect_same s k.Comma i j) (λ i j. and s (operand_at s (word_of v) (word_of u) bits i j)
      (λ c d. gives s (record { written = v.id; first = a; second = c }) (record { written = u.id; first = b; second = d })))))

  arithmetic_same : (x : FloatArithmetic) (value : ℕ) → Same s (floats.float_arithmetic x value)
  unfolding floats.float_arithmetic
  arithmetic_same x value i j =
      past s (flagged_same i j) (λ i j. and s (float_pair_same i j) (λ a b i j. past s (set_sort_at s value (local.Value a.written) (local.Value b.written) refl i j)
      (gives s (float.Arithmetic x a.written a.first a.second) (float.Arithmetic x b.written b.first b.second))))

  negate_same : (value : ℕ) → Same s (floats.negate value)
  unfolding floats.negate
  negate_same value i j =
      past s (flagged_same i j) (λ i j. then s (float_scalar_at s i j) (λ v u m q h x y.
      and s (operand_at s (word_of v) (word_of u) (bits_same m q v u h) m q) (λ a b i j. past s (set_sort_at s value (local.Value v.id) (local.Value u.id) refl i j)
      (gives s (float.Negate v.id a) (float.Negate u.id b)))))

  comparison_by_same : (x : Option FloatComparison) → Same s (floats.float_comparison_by x)
  comparison_by_same None = refuses s unexpected
  comparison_by_same (Some x) = both s (skip_same s) (gives s x x)

  comparison_same : Same s floats.float_comparison
  unfolding floats.float_comparison floats.float_comparison_here
  comparison_same = tells s floats.float_comparison_here floats.float_comparison_by (λ i j b. ap floats.float_comparison_of (spelling_same s i.cursor j.cursor b.along)) comparison_by_same

  compare_same : (value : ℕ) → Same s (floats.float_compare value)
  unfolding floats.float_compare
  compare_same value i j =
      past s (flagged_same i j) (λ i j. and s (comparison_same i j) (λ x y i j. and s (float_pair_same i j) (λ a b i j. and s (intern_at s (type.Integer 1) (type.Integer 1) i j) (λ c d i j.
      past s (set_sort_at s value (local.Value c) (local.Value d) refl i j) (gives s (float.Compare x a.written a.first a.second) (float.Compare y b.written b.first b.second))))))

  conversion_same : (x : Conversion) → Same s (floats.flagged_conversion x)
  conversion_same conversion.Extend = flagged_same
  conversion_same conversion.Truncate = flagged_same
  conversion_same conversion.FromUnsigned = both s (skip_same s) (optional_same s k.Nneg)
  conversion_same conversion.ToSigned = skip_same s
  conversion_same conversion.ToUnsigned = skip_same s
  conversion_same conversion.FromSigned = skip_same s

  convert_same : (x : Conversion) (value : ℕ) → Same s (floats.convert x value)
  unfolding floats.convert
  convert_same x value i j =
      past s (conversion_same x i j) (λ i j. then s (scalar_at s i j) (λ v u m q h x1 y1.
      let first = bits_same m q v u h in
      and s (operand_at s (word_of v) (word_of u) first m q) (λ a b i j. past s (expect_same s k.To i j) (λ i j. then s (scalar_at s i j) (λ w z m2 q2 g x2 y2.
      let second = bits_same m2 q2 w z g in
      past s (tested s (λ _. floats.may_convert x (word_of v) (word_of w)) (λ _. floats.may_convert x (word_of u) (word_of z)) unexpected unexpected m2 q2 (λ b e. sym (ap₂ (floats.may_convert x) first second) ∙ e))
      (λ i j. past s (set_sort_at s value (local.Value w.id) (local.Value z.id) refl i j) (gives s (float.Convert x v.id a w.id) (float.Convert x u.id b z.id))))))))

  pub float_op_same : (value : ℕ) (x : FloatWord) → Same s (floats.float_op value x)
  float_op_same value (word.Arithmetic x) = arithmetic_same x value
  float_op_same value word.Negate = negate_same value
  float_op_same value word.Compare = compare_same value
  float_op_same value (word.Convert x) = convert_same x value
