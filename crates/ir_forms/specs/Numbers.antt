-- Operations on integers.
use Rattle.std.specs.Prelude.{ℕ, Bool, true, false, ◌&&◌, if◌then◌else◌, Option, Some, None, codes}
use Rattle.std.specs.Str.{bytes_eq}
use Rattle.grammar.specs.Grammar.{pure, refuse, look, ◌>>=◌, ◌>>◌}
use Rattle.ir_tokens.specs.declared.token.Kind.{Kind}
use Rattle.ir_tokens.specs.declared.token.Kind.TheVariants as k
use Rattle.ir_tokens.specs.Bytes.{Text}
use Rattle.ir_ast.specs.declared.ir_type.IrType.TheVariants as type
use Rattle.ir_ast.specs.declared.argument.Argument.{Argument}
use Rattle.ir_ast.specs.declared.numbers.Arithmetic.{Arithmetic}
use Rattle.ir_ast.specs.declared.numbers.Arithmetic.TheVariants as a
use Rattle.ir_ast.specs.declared.numbers.Resize.{Resize}
use Rattle.ir_ast.specs.declared.numbers.Resize.TheVariants as r
use Rattle.ir_ast.specs.declared.numbers.Comparison.{Comparison}
use Rattle.ir_ast.specs.declared.numbers.Comparison.TheVariants as c
use Rattle.ir_ast.specs.declared.numbers.NumberOp.{NumberOp}
use Rattle.ir_ast.specs.declared.numbers.NumberOp.TheVariants as number
use Rattle.ir_forms.specs.declared.written.Base.TheVariants.{Integer}
use Rattle.ir_forms.specs.declared.written.Word.TheVariants as sort
use Rattle.ir_forms.specs.declared.written.WrittenType.{WrittenType}
use Rattle.ir_forms.specs.Cursor.{kind, sees, spelling}
use Rattle.ir_forms.specs.declared.input.Input.{Input}
use Rattle.ir_forms.specs.Input.{Form, unexpected, skip, expect}
use Rattle.ir_forms.specs.Names.{set_type}
use Rattle.ir_forms.specs.Written.{integer_scalar, intern, again, word_of}
use Rattle.ir_forms.specs.Operand.{operand}
use Rattle.ir_forms.specs.declared.numbers.TwoOperands.{TwoOperands}
use Rattle.ir_forms.specs.Decorations.{flagged_word, either}

-- `T V, W`, of integers or pointers
unfoldable pub pair : Form TwoOperands
pair = do
  w ← integer_scalar
  x ← operand (word_of w)
  expect k.Comma
  y ← operand (word_of w)
  pure (record { written = w.id; first = x; second = y })

-- ---- sums and the like

-- the operation of two integers that a word names
abbrev pub arithmetic_of : Kind → Option Arithmetic
arithmetic_of k.Add = Some a.Add
arithmetic_of k.Sub = Some a.Sub
arithmetic_of k.Mul = Some a.Mul
arithmetic_of k.And = Some a.And
arithmetic_of k.Or = Some a.Or
arithmetic_of k.Xor = Some a.Xor
arithmetic_of _ = None

-- `add T V, W`, and so for the other five
unfoldable pub arithmetic : Arithmetic → ℕ → Form NumberOp
arithmetic x value = do
  flagged_word
  p ← pair
  set_type value p.written
  pure (number.Arithmetic x p.written p.first p.second)

-- ---- shifts, division and remainder, of the wide forms

-- the operation that a word of the wide forms names
abbrev pub wide_of : Text → Option Arithmetic
wide_of word =
    if bytes_eq word (codes "shl") then Some a.ShiftLeft
    else (if bytes_eq word (codes "lshr") then Some a.ShiftRight
    else (if bytes_eq word (codes "ashr") then Some a.ShiftRightSigned
    else (if bytes_eq word (codes "udiv") then Some a.Divide
    else (if bytes_eq word (codes "sdiv") then Some a.DivideSigned
    else (if bytes_eq word (codes "urem") then Some a.Remainder
    else (if bytes_eq word (codes "srem") then Some a.RemainderSigned
    else None))))))

-- the operation that the next token names, where the wide forms may stand
unfoldable pub wide_here : Input → Option Arithmetic
wide_here i = if i.wide && sees k.LeftOut i.cursor then wide_of (spelling i.cursor) else None

-- the next token is the word `exact`
unfoldable pub is_exact : Input → Bool
is_exact i = sees k.LowercaseWord i.cursor && bytes_eq (spelling i.cursor) (codes "exact")

-- the word `exact`, or nothing
unfoldable pub exact : Form (Unit {0})
exact = look is_exact (either skip (pure tt))

-- `sdiv T V, W`, and so for the other six
unfoldable pub wide_arithmetic : Arithmetic → ℕ → Form NumberOp
wide_arithmetic x value = do
  flagged_word
  exact
  p ← pair
  set_type value p.written
  pure (number.Arithmetic x p.written p.first p.second)

-- ---- changes of width

-- the change of width that a word names
abbrev pub resize_of : Kind → Option Resize
resize_of k.Zext = Some r.ZeroExtend
resize_of k.Sext = Some r.SignExtend
resize_of k.Trunc = Some r.Truncate
resize_of _ = None

-- `T V`, of integers or pointers
unfoldable pub typed_integer : Form Argument
typed_integer = do
  w ← integer_scalar
  x ← operand (word_of w)
  pure (record { written = w.id; operand = x })

-- `zext T V to U`, and so for the other two
unfoldable pub resize : Resize → ℕ → Form NumberOp
resize x value = do
  flagged_word
  from ← typed_integer
  expect k.To
  to ← integer_scalar
  set_type value to.id
  pure (number.Resize x from.written from.operand to.id)

-- ---- comparisons

-- the comparison that a word names
abbrev pub comparison_of : Kind → Option Comparison
comparison_of k.Eq = Some c.Equal
comparison_of k.Ne = Some c.NotEqual
comparison_of k.Ugt = Some c.UnsignedGreater
comparison_of k.Uge = Some c.UnsignedGreaterOrEqual
comparison_of k.Ult = Some c.UnsignedLess
comparison_of k.Ule = Some c.UnsignedLessOrEqual
comparison_of k.Sgt = Some c.SignedGreater
comparison_of k.Sge = Some c.SignedGreaterOrEqual
comparison_of k.Slt = Some c.SignedLess
comparison_of k.Sle = Some c.SignedLessOrEqual
comparison_of _ = None

-- the word of a comparison
abbrev pub comparison_by : Option Comparison → Form Comparison
comparison_by None = refuse unexpected
comparison_by (Some x) = skip >> pure x

-- what is asked of the operands
unfoldable pub comparison : Form Comparison
comparison = look (λ i. comparison_of (kind i.cursor)) comparison_by

-- `icmp C T V, W`, whose value is an i1
unfoldable pub compare : ℕ → Form NumberOp
compare value = do
  flagged_word
  x ← comparison
  p ← pair
  bit ← intern (type.Integer 1)
  set_type value bit
  pure (number.Compare x p.written p.first p.second)

-- ---- conditions

-- `i1`, with this number in the table of types
abbrev pub bit_type : ℕ → WrittenType
bit_type id = record { base = Integer 1; stars = 0; id = id; room = 63 }

-- `i1 V`
unfoldable pub condition : Form Argument
condition = do
  id ← intern (type.Integer 1)
  again (bit_type id)
  x ← operand (sort.Integer 1)
  pure (record { written = id; operand = x })

-- ---- by the word

-- a change of width, if the word names one
abbrev pub resize_by : ℕ → Option Resize → Form NumberOp
resize_by value None = refuse unexpected
resize_by value (Some x) = resize x value

-- `zext`, `sext` or `trunc`, with what follows it
unfoldable pub resized : ℕ → Form NumberOp
resized value = look (λ i. resize_of (kind i.cursor)) (resize_by value)

-- an operation of the wide forms, if the word names one, or else a change of width
abbrev pub wide_by : ℕ → Option Arithmetic → Form NumberOp
wide_by value None = resized value
wide_by value (Some x) = wide_arithmetic x value

-- an operation of the wide forms or a change of width, with what follows it
unfoldable pub wide_or_resized : ℕ → Form NumberOp
wide_or_resized value = look wide_here (wide_by value)

-- an operation of two integers, if the word names one, or else one of the others
abbrev pub arithmetic_by : ℕ → Option Arithmetic → Form NumberOp
arithmetic_by value None = wide_or_resized value
arithmetic_by value (Some x) = arithmetic x value

-- an operation on integers
unfoldable pub integer_op : ℕ → Form NumberOp
integer_op value = look (λ i. arithmetic_of (kind i.cursor)) (arithmetic_by value)
