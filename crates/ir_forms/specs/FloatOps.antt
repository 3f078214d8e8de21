-- Operations on floating point numbers, of the wide forms.
use Rattle.std.specs.Prelude.{ℕ, Bool, true, false, not, ◌&&◌, ◌||◌, if◌then◌else◌, Option, Some, None, codes}
use Rattle.std.specs.Str.{bytes_eq}
use Rattle.grammar.specs.Grammar.{pure, checked, refuse, look, ◌>>=◌, ◌>>◌}
use Rattle.grammar.specs.Many.{many}
use Rattle.grammar.specs.Takes.{Takes}
use Rattle.ir_tokens.specs.declared.token.Kind.TheVariants as k
use Rattle.ir_tokens.specs.Bytes.{Text}
use Rattle.ir_ast.specs.declared.ir_type.IrType.TheVariants as type
use Rattle.ir_ast.specs.declared.floats.Conversion.{Conversion}
use Rattle.ir_ast.specs.declared.floats.Conversion.TheVariants as v
use Rattle.ir_ast.specs.declared.floats.FloatArithmetic.{FloatArithmetic}
use Rattle.ir_ast.specs.declared.floats.FloatArithmetic.TheVariants as a
use Rattle.ir_ast.specs.declared.floats.FloatComparison.{FloatComparison}
use Rattle.ir_ast.specs.declared.floats.FloatComparison.TheVariants as c
use Rattle.ir_ast.specs.declared.floats.FloatOp.{FloatOp}
use Rattle.ir_ast.specs.declared.floats.FloatOp.TheVariants as float
use Rattle.ir_ast.specs.declared.numbers.NumberOp.TheVariants as number
use Rattle.ir_ast.specs.declared.op.Op.{Op}
use Rattle.ir_ast.specs.declared.op.Op.TheVariants as op
use Rattle.ir_forms.specs.declared.float_ops.FloatWord.{FloatWord}
use Rattle.ir_forms.specs.declared.float_ops.FloatWord.TheVariants.{Arithmetic, Negate, Compare, Convert}
use Rattle.ir_forms.specs.declared.input.Input.{Input}
use Rattle.ir_forms.specs.declared.numbers.TwoOperands.{TwoOperands}
use Rattle.ir_forms.specs.declared.written.Word.{Word}
use Rattle.ir_forms.specs.declared.written.Word.TheVariants as sort
use Rattle.ir_forms.specs.declared.written.WrittenType.{WrittenType}
use Rattle.ir_forms.specs.Cursor.{sees, spelling}
use Rattle.ir_forms.specs.Decorations.{optional}
use Rattle.ir_forms.specs.Input.{Form, unexpected, skip, expect, expect_takes}
use Rattle.ir_forms.specs.Names.{set_type}
use Rattle.ir_forms.specs.Numbers.{integer_op}
use Rattle.ir_forms.specs.Operand.{operand}
use Rattle.ir_forms.specs.Ops.{as_op}
use Rattle.ir_forms.specs.Written.{scalar, float_scalar, intern, word_of, is_float_word}

-- ---- the word

-- the operation of two numbers that a word names
abbrev pub arithmetic_of : Text → Option FloatArithmetic
arithmetic_of word =
    if bytes_eq word (codes "fadd") then Some a.Add
    else (if bytes_eq word (codes "fsub") then Some a.Subtract
    else (if bytes_eq word (codes "fmul") then Some a.Multiply
    else (if bytes_eq word (codes "fdiv") then Some a.Divide
    else (if bytes_eq word (codes "frem") then Some a.Remainder
    else None))))

-- the change of a number that a word names
abbrev pub conversion_of : Text → Option Conversion
conversion_of word =
    if bytes_eq word (codes "fpext") then Some v.Extend
    else (if bytes_eq word (codes "fptrunc") then Some v.Truncate
    else (if bytes_eq word (codes "fptosi") then Some v.ToSigned
    else (if bytes_eq word (codes "fptoui") then Some v.ToUnsigned
    else (if bytes_eq word (codes "sitofp") then Some v.FromSigned
    else (if bytes_eq word (codes "uitofp") then Some v.FromUnsigned
    else None)))))

-- `fneg` and `fcmp`
abbrev pub other_of : Text → Option FloatWord
other_of word = if bytes_eq word (codes "fneg") then Some Negate else (if bytes_eq word (codes "fcmp") then Some Compare else None)

-- a change of a number, if the word names one, or else one of those two
abbrev pub conversion_or_other : Text → Option Conversion → Option FloatWord
conversion_or_other word None = other_of word
conversion_or_other word (Some x) = Some (Convert x)

-- an operation of two numbers, if the word names one, or else one of the others
abbrev pub arithmetic_or_other : Text → Option FloatArithmetic → Option FloatWord
arithmetic_or_other word None = conversion_or_other word (conversion_of word)
arithmetic_or_other word (Some x) = Some (Arithmetic x)

-- what a word names
abbrev pub float_word_of : Text → Option FloatWord
float_word_of word = arithmetic_or_other word (arithmetic_of word)

-- what the next token names, where the wide forms may stand
unfoldable pub float_word_here : Input → Option FloatWord
float_word_here i = if i.wide && sees k.LeftOut i.cursor then float_word_of (spelling i.cursor) else None

-- ---- flags

-- a flag says what may be taken for granted of the numbers
abbrev pub is_float_flag : Text → Bool
is_float_flag word =
    bytes_eq word (codes "nnan") || bytes_eq word (codes "ninf") || bytes_eq word (codes "nsz") || bytes_eq word (codes "arcp")
    || bytes_eq word (codes "contract") || bytes_eq word (codes "afn") || bytes_eq word (codes "reassoc") || bytes_eq word (codes "fast")

-- a flag is here
unfoldable pub at_float_flag : Input → Bool
at_float_flag i = sees k.LowercaseWord i.cursor && is_float_flag (spelling i.cursor)

-- no flag is here
abbrev pub at_no_float_flag : Input → Bool
at_no_float_flag i = not (at_float_flag i)

-- a flag
abbrev pub float_flag : Form (Unit {0})
float_flag = expect k.LowercaseWord

pub float_flag_takes : Takes float_flag
float_flag_takes = expect_takes k.LowercaseWord (λ x. cc)

-- the word of an operation, with the flags after it
unfoldable pub flagged_float : Form (Unit {0})
flagged_float = skip >> many at_no_float_flag float_flag float_flag_takes >> pure tt

-- ---- operations of two numbers, and of one

-- `T V, W`, of floating point numbers
unfoldable pub float_pair : Form TwoOperands
float_pair = do
  w ← float_scalar
  x ← operand (word_of w)
  expect k.Comma
  y ← operand (word_of w)
  pure (record { written = w.id; first = x; second = y })

-- `fadd T V, W`, and so for the other four
unfoldable pub float_arithmetic : FloatArithmetic → ℕ → Form FloatOp
float_arithmetic x value = do
  flagged_float
  p ← float_pair
  set_type value p.written
  pure (float.Arithmetic x p.written p.first p.second)

-- `fneg T V`
unfoldable pub negate : ℕ → Form FloatOp
negate value = do
  flagged_float
  w ← float_scalar
  x ← operand (word_of w)
  set_type value w.id
  pure (float.Negate w.id x)

-- ---- comparisons

-- a comparison that a number which is none makes false
abbrev pub ordered_of : Text → Option FloatComparison
ordered_of word =
    if bytes_eq word (codes "false") then Some c.Never
    else (if bytes_eq word (codes "oeq") then Some c.OrderedEqual
    else (if bytes_eq word (codes "ogt") then Some c.OrderedGreater
    else (if bytes_eq word (codes "oge") then Some c.OrderedGreaterOrEqual
    else (if bytes_eq word (codes "olt") then Some c.OrderedLess
    else (if bytes_eq word (codes "ole") then Some c.OrderedLessOrEqual
    else (if bytes_eq word (codes "one") then Some c.OrderedNotEqual
    else (if bytes_eq word (codes "ord") then Some c.Ordered
    else None)))))))

-- a comparison that a number which is none makes true
abbrev pub unordered_of : Text → Option FloatComparison
unordered_of word =
    if bytes_eq word (codes "uno") then Some c.Unordered
    else (if bytes_eq word (codes "ueq") then Some c.UnorderedEqual
    else (if bytes_eq word (codes "ugt") then Some c.UnorderedGreater
    else (if bytes_eq word (codes "uge") then Some c.UnorderedGreaterOrEqual
    else (if bytes_eq word (codes "ult") then Some c.UnorderedLess
    else (if bytes_eq word (codes "ule") then Some c.UnorderedLessOrEqual
    else (if bytes_eq word (codes "une") then Some c.UnorderedNotEqual
    else (if bytes_eq word (codes "true") then Some c.Always
    else None)))))))

-- one of these, if the word names one, or else one of those
abbrev pub ordered_or_other : Text → Option FloatComparison → Option FloatComparison
ordered_or_other word None = unordered_of word
ordered_or_other word (Some x) = Some x

-- the comparison that a word names
abbrev pub float_comparison_of : Text → Option FloatComparison
float_comparison_of word = ordered_or_other word (ordered_of word)

-- the comparison that the next token names
unfoldable pub float_comparison_here : Input → Option FloatComparison
float_comparison_here i = float_comparison_of (spelling i.cursor)

-- the word of a comparison
abbrev pub float_comparison_by : Option FloatComparison → Form FloatComparison
float_comparison_by None = refuse unexpected
float_comparison_by (Some x) = skip >> pure x

-- what is asked of the operands
unfoldable pub float_comparison : Form FloatComparison
float_comparison = look float_comparison_here float_comparison_by

-- `fcmp C T V, W`, whose value is an i1
unfoldable pub float_compare : ℕ → Form FloatOp
float_compare value = do
  flagged_float
  x ← float_comparison
  p ← float_pair
  bit ← intern (type.Integer 1)
  set_type value bit
  pure (float.Compare x p.written p.first p.second)

-- ---- changes of a number

-- an integer
abbrev pub is_integer_word : Word → Bool
is_integer_word (sort.Integer bits) = true
is_integer_word _ = false

-- a number of 32 bits becomes one of 64
abbrev pub is_wider : (from to : Word) → Bool
is_wider sort.Float sort.Double = true
is_wider _ _ = false

-- a change of a word to another one is of this sort
abbrev pub may_convert : Conversion → (from to : Word) → Bool
may_convert v.Extend from to = is_wider from to
may_convert v.Truncate from to = is_wider to from
may_convert v.ToSigned from to = is_float_word from && is_integer_word to
may_convert v.ToUnsigned from to = is_float_word from && is_integer_word to
may_convert v.FromSigned from to = is_integer_word from && is_float_word to
may_convert v.FromUnsigned from to = is_integer_word from && is_float_word to

-- the types before here are those of such a change
abbrev pub convertible : Conversion → (from to : WrittenType) → Form (Unit {0})
convertible x from to = checked (λ _. may_convert x (word_of from) (word_of to)) unexpected

-- the word of a change with the flags that may stand after it: those of floating point numbers, or that an integer without a sign is not below zero with one
abbrev pub flagged_conversion : Conversion → Form (Unit {0})
flagged_conversion v.Extend = flagged_float
flagged_conversion v.Truncate = flagged_float
flagged_conversion v.FromUnsigned = skip >> optional k.Nneg
flagged_conversion _ = skip

-- `fpext T V to U`, and so for the other five
unfoldable pub convert : Conversion → ℕ → Form FloatOp
convert x value = do
  flagged_conversion x
  w ← scalar
  y ← operand (word_of w)
  expect k.To
  u ← scalar
  convertible x w u
  set_type value u.id
  pure (float.Convert x w.id y u.id)

-- ---- by the word

-- an operation on floating point numbers
abbrev pub float_op : ℕ → FloatWord → Form FloatOp
float_op value (Arithmetic x) = float_arithmetic x value
float_op value Negate = negate value
float_op value Compare = float_compare value
float_op value (Convert x) = convert x value

-- an operation on floating point numbers as one of any numbers
abbrev pub as_number : FloatOp → Op
as_number x = op.Number (number.Float x)

-- an operation on floating point numbers, if the word names one, or else one on integers
abbrev pub number_op_by : ℕ → Option FloatWord → Form Op
number_op_by value None = as_op op.Number (integer_op value)
number_op_by value (Some x) = as_op as_number (float_op value x)

-- an operation on numbers
unfoldable pub number_op : ℕ → Form Op
number_op value = look float_word_here (number_op_by value)
