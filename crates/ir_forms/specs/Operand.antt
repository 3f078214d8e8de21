-- Constants and operands.
use Rattle.std.specs.Prelude.{◌≤◌, ℕ, ◌+◌, ◌==◌, nat_lt, if◌then◌else◌, Bool, true, false, List, [], ◌∷◌, length, Option, Some, None, is_some, unwrap_or}
use Rattle.std.proofs.Common.{arith}
use Rattle.grammar.specs.Grammar.{pure, step, checked, refuse, look, ◌>>=◌, ◌>>◌}
use Rattle.ir_tokens.specs.declared.token.Kind.{Kind}
use Rattle.ir_tokens.specs.declared.token.Kind.TheVariants as k
use Rattle.ir_tokens.specs.declared.token.Token.{Token}
use Rattle.ir_ast.specs.Floats as floats
use Rattle.ir_ast.specs.declared.operand.Constant.{Constant}
use Rattle.ir_ast.specs.declared.operand.Constant.TheVariants as c
use Rattle.ir_ast.specs.declared.operand.Operand.{Operand}
use Rattle.ir_ast.specs.declared.operand.Operand.TheVariants as o
use Rattle.ir_forms.specs.declared.fault.Fault.TheVariants.{OutOfRange}
use Rattle.ir_forms.specs.declared.input.Input.{Input}
use Rattle.ir_forms.specs.Cursor.{kind, start, spelling, run, sees_float, begun_at, past_run}
use Rattle.ir_forms.specs.FloatNumbers.{float_bits}
use Rattle.ir_forms.specs.Number as numbers
use Rattle.ir_forms.specs.Input.{Form, left, unread, unexpected, advanced, advanced_falls, skip, expect}
use Rattle.ir_forms.specs.Names.{used_value, used_global}
use Rattle.ir_forms.specs.declared.written.WrittenType.{WrittenType}
use Rattle.ir_forms.specs.declared.written.Word.{Word}
use Rattle.ir_forms.specs.declared.written.Word.TheVariants as sort
use Rattle.ir_forms.specs.Written.{pointer_type}
use Rattle.ir_forms.specs.Outside.{lost_here, outside}

-- constant expressions, vectors and packed structs
abbrev pub begins_unread_operand : Kind → Bool
begins_unread_operand k.Bitcast = true
begins_unread_operand k.Getelementptr = true
begins_unread_operand k.Add = true
begins_unread_operand k.Sub = true
begins_unread_operand k.Mul = true
begins_unread_operand k.And = true
begins_unread_operand k.Or = true
begins_unread_operand k.Xor = true
begins_unread_operand k.Zext = true
begins_unread_operand k.Sext = true
begins_unread_operand k.Trunc = true
begins_unread_operand k.Icmp = true
begins_unread_operand k.Select = true
begins_unread_operand k.Less = true
begins_unread_operand _ = false

-- what `undef` and `zeroinitializer` are as a word of this sort
abbrev pub zero_of : Word → Constant
zero_of sort.Pointer = c.Null
zero_of (sort.Integer bits) = c.Number 0
zero_of sort.Float = c.Float 0
zero_of sort.Double = c.Float 0

-- what `true` and `false` are: the numbers 1 and 0 at i1, and no value of another type
abbrev pub truth_of : Word → Bool → Constant
truth_of (sort.Integer bits) truth = if bits == 1 then c.Number (if truth then 1 else 0) else c.Truth truth
truth_of _ truth = c.Truth truth

-- ---- integers

-- how many bits an integer has; a pointer has 64
abbrev pub bits_of_word : Word → ℕ
bits_of_word (sort.Integer bits) = bits
bits_of_word _ = 64

-- the number that the next token spells, if it is in the range of the word
unfoldable pub number_at : Word → Input → Option ℕ
number_at w i = numbers.constant (spelling i.cursor) (bits_of_word w)

-- the number that is here as a constant of this word, or 0
abbrev pub number_or_zero : Word → Input → Constant
number_or_zero w i = c.Number (unwrap_or (number_at w i) 0)

-- a number, which is in the range of its type
unfoldable pub number : Word → Form Constant
number w = checked (λ i. is_some (number_at w i)) (λ i. OutOfRange (start i.cursor)) >> step (number_or_zero w) advanced advanced_falls

-- ---- floating point numbers

-- a word of this sort holds a number of 64 bits
abbrev pub holds_float : Word → ℕ → Bool
holds_float sort.Float n = floats.is_float n
holds_float _ n = true

-- a number that a word of this sort holds
abbrev pub held_float : Word → Option ℕ → Option ℕ
held_float w None = None
held_float w (Some n) = if holds_float w n then Some n else None

-- the bits of the number that is here, if the word holds it
unfoldable pub float_at : Word → Input → Option ℕ
float_at w i = held_float w (float_bits (run i.cursor))

-- the number that is here as a constant of this word, or 0
abbrev pub float_or_zero : Word → Input → Constant
float_or_zero w i = c.Float (unwrap_or (float_at w i) 0)

-- after the tokens of the number that is here
abbrev pub after_run : Input → Input
after_run i = record i { cursor = past_run i.cursor }

begun_falls : (place : ℕ) (ts : List Token) → length (begun_at place ts) ≤ length ts
begun_falls place [] = omega arith
begun_falls place (t ∷ ts) = by (nat_lt t.start place) (begun_falls place ts) where
  by : (b : Bool) → length (begun_at place ts) ≤ length ts → length (if b then begun_at place ts else t ∷ ts) ≤ length (t ∷ ts)
  by true le = omega (arith, le)
  by false le = omega arith

pub after_run_falls : (i : Input) → left (after_run i) ≤ left i
unfolding left past_run
after_run_falls i = begun_falls (start i.cursor + length (run i.cursor)) i.cursor.rest

-- a floating point number, which its type has
unfoldable pub float_number : Word → Form Constant
float_number w = checked (λ i. sees_float i.cursor) unexpected >> checked (λ i. is_some (float_at w i)) (λ i. OutOfRange (start i.cursor)) >> step (float_or_zero w) after_run after_run_falls

-- ---- constants

-- a number as a word of this sort
abbrev pub number_by : Word → Form Constant
number_by sort.Float = float_number sort.Float
number_by sort.Double = float_number sort.Double
number_by w = number w

-- a word of no kind of its own: a floating point number with a minus, and no constant of another type
abbrev pub word_by : Word → Form Constant
word_by sort.Float = float_number sort.Float
word_by sort.Double = float_number sort.Double
word_by w = refuse (unread begins_unread_operand)

-- a constant as a word of this sort, by the token with which it begins
abbrev pub constant_by : Word → Kind → Form Constant
constant_by w k.Number = number_by w
constant_by w k.Word = word_by w
constant_by w k.True = skip >> pure (truth_of w true)
constant_by w k.False = skip >> pure (truth_of w false)
constant_by w k.Null = skip >> pure c.Null
constant_by w k.Undef = skip >> pure (zero_of w)
constant_by w k.Zeroinitializer = skip >> pure (zero_of w)
constant_by w _ = refuse (unread begins_unread_operand)

-- a constant as a word of this sort
unfoldable pub constant : Word → Form Constant
constant w = look (λ i. kind i.cursor) (constant_by w)

-- ---- operands

-- operands other than globals
abbrev pub begins_other_operand : Kind → Bool
begins_other_operand k.LocalName = true
begins_other_operand k.LocalNumber = true
begins_other_operand k.Number = true
begins_other_operand k.True = true
begins_other_operand k.False = true
begins_other_operand k.Null = true
begins_other_operand k.Undef = true
begins_other_operand k.Zeroinitializer = true
begins_other_operand x = begins_unread_operand x

-- the global that a constant bitcast has as its operand
abbrev pub cast_operand_by : Kind → Form ℕ
cast_operand_by k.GlobalName = used_global
cast_operand_by _ = refuse (unread begins_other_operand)

-- the global in a constant bitcast; other operands are left out there
unfoldable pub cast_operand : Form ℕ
cast_operand = look (λ i. kind i.cursor) cast_operand_by

-- the type to which a global is cast
abbrev pub cast_to : WrittenType → ℕ → Form Operand
cast_to from global = do
  expect k.To
  to ← pointer_type
  expect k.CloseRound
  pure (o.CastGlobal from.id global to.id)

-- what follows the word of a constant bitcast
abbrev pub cast_after : Form Operand
cast_after = do
  expect k.OpenRound
  from ← pointer_type
  global ← cast_operand
  cast_to from global

-- `bitcast (T* @g to U*)`
unfoldable pub cast : Form Operand
cast = skip >> cast_after

-- a constant getelementptr of an address outside, whose offset is lost, where the wide forms may stand; another is left out
abbrev pub element_by : Word → Bool → Form Operand
element_by sort.Pointer true = lost_here >> outside 3 >>= λ symbol. pure (o.Global symbol)
element_by w _ = constant w >>= λ x. pure (o.Constant x)

-- a constant getelementptr as a word of this sort
unfoldable pub element_operand : Word → Form Operand
element_operand w = look (λ i. i.wide) (element_by w)

-- an operand, by the token with which it begins
abbrev pub operand_by : Word → Kind → Form Operand
operand_by w k.LocalName = used_value >>= λ value. pure (o.Local value)
operand_by w k.LocalNumber = used_value >>= λ value. pure (o.Local value)
operand_by w k.GlobalName = used_global >>= λ symbol. pure (o.Global symbol)
operand_by w k.Bitcast = cast
operand_by w k.Getelementptr = element_operand w
operand_by w _ = constant w >>= λ x. pure (o.Constant x)

-- an operand as a word of this sort
unfoldable pub operand : Word → Form Operand
operand w = look (λ i. kind i.cursor) (operand_by w)
