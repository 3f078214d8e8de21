-- Calls.
use Rattle.std.specs.Prelude.{ℕ, Bool, true, false, not, ◌&&◌, List, length, Option, Some, None}
use Rattle.grammar.specs.Grammar.{pure, checked, refuse, look, ◌>>=◌, ◌>>◌}
use Rattle.grammar.specs.Takes.{Takes, first_takes}
use Rattle.grammar.specs.Many.{many}
use Rattle.ir_tokens.specs.declared.token.Kind.{Kind}
use Rattle.ir_tokens.specs.declared.token.Kind.TheVariants as k
use Rattle.ir_ast.specs.declared.argument.Argument.{Argument}
use Rattle.ir_ast.specs.declared.calls.Call.{Call}
use Rattle.ir_ast.specs.declared.ir_type.IrType.TheVariants as type
use Rattle.ir_ast.specs.declared.instr.Instr.{Instr}
use Rattle.ir_ast.specs.declared.op.Op.{Op}
use Rattle.ir_ast.specs.declared.op.Op.TheVariants as op
use Rattle.ir_forms.specs.declared.input.Input.{Input}
use Rattle.ir_forms.specs.declared.written.WrittenType.{WrittenType}
use Rattle.ir_forms.specs.Cursor.{kind, sees, left_out}
use Rattle.ir_forms.specs.Input.{Form, unread, skip, expect, sees_a}
use Rattle.ir_forms.specs.Names.{set_type, callee, unnamed_value}
use Rattle.ir_forms.specs.Written.{any_type, any_type_takes, result_type, intern}
use Rattle.ir_forms.specs.Starts.{is_indirect_callee}
use Rattle.ir_forms.specs.Decorations.{decorations}
use Rattle.ir_forms.specs.Records.{trailed}
use Rattle.ir_forms.specs.declared.decorating.Spot.TheVariants as spot
use Rattle.ir_forms.specs.Lists.{separator, ends_parameters, dots, arguments, dotted_arguments}
use Rattle.ir_forms.specs.Ops.{as_op}
use Rattle.ir_forms.specs.StandIns.{stand_in, first_of, null_of}
use Rattle.ir_forms.specs.declared.stand_ins.StandIn.{StandIn}
use Rattle.ir_forms.specs.declared.stand_ins.StandIn.TheVariants.{Itself, First, Null}

-- the name of the function that is called
abbrev pub called_by : Kind → Form ℕ
called_by k.GlobalName = callee
called_by _ = refuse (unread is_indirect_callee)

-- the function that is called, by its name
unfoldable pub called : Form ℕ
called = look (λ i. kind i.cursor) called_by

-- ---- the types of a function's parameters, before its name

-- the type of a parameter with what follows it
abbrev pub parameter_after : WrittenType → Form ℕ
parameter_after w = separator k.CloseRound >> pure w.id

-- the type of a parameter
unfoldable pub parameter : Form ℕ
parameter = any_type >>= parameter_after

pub parameter_takes : Takes parameter
unfolding parameter
parameter_takes = first_takes any_type parameter_after any_type_takes

-- how many parameters come before the dots, if there are any
abbrev pub before_dots : ℕ → Bool → Option ℕ
before_dots fixed true = Some fixed
before_dots fixed false = None

-- the types are not those of a pointer to a function
abbrev pub no_star : Form (Unit {0})
no_star = checked (λ i. not (sees k.Star i.cursor)) (λ i. left_out i.cursor)

-- what follows the bracket before the types
abbrev pub signature_after : Form (Option ℕ)
signature_after = do
  types ← many ends_parameters parameter parameter_takes
  has_dots ← dots
  expect k.CloseRound
  no_star
  pure (before_dots (length types) has_dots)

-- the types of parameters are here, where the wide forms may stand
unfoldable pub begins_signature : Input → Bool
begins_signature i = i.wide && sees k.OpenRound i.cursor

-- those types, or nothing
abbrev pub signature_by : Bool → Form (Option ℕ)
signature_by true = skip >> signature_after
signature_by false = pure None

-- `(T, .., ...)`, if it is here: how many parameters the function has before its dots, if it has dots
unfoldable pub signature : Form (Option ℕ)
signature = look begins_signature signature_by

-- ---- a call after the type of its result

-- the arguments of a function that has this many parameters before its dots, or no dots
abbrev pub arguments_by : Option ℕ → Form (List Argument)
arguments_by None = arguments
arguments_by (Some fixed) = dotted_arguments fixed

-- the function and its arguments
abbrev pub call_parts : (returned : ℕ) → Option ℕ → Form Call
call_parts returned fixed = do
  f ← called
  expect k.OpenRound
  xs ← arguments_by fixed
  expect k.CloseRound
  decorations spot.Call
  pure (record { returned = returned; callee = f; arguments = xs })

-- `@f(T V, ..)`, perhaps with the types of the parameters before it
unfoldable pub call_after : ℕ → Form Call
call_after returned = signature >>= call_parts returned

-- `@f(T V, ..)` after the type of its result, which is that of its value
abbrev pub call_of : (value returned : ℕ) → Form Call
call_of value returned = do
  x ← call_after returned
  set_type value returned
  pure x

-- `T @f(T V, ..)` after the word, whose value is a T
abbrev pub typed_call : ℕ → Form Call
typed_call value = do
  returned ← result_type
  call_of value returned.id

-- a call after the type of its result, or what stands in its place
abbrev pub named_call_by : (value returned : ℕ) → StandIn → Form Op
named_call_by value returned Itself = as_op op.Call (call_of value returned)
named_call_by value returned First = as_op op.Cast (first_of value)
named_call_by value returned Null = as_op op.Cast (null_of value returned)

-- a call after its word, whose value has a name
abbrev pub named_call : ℕ → Form Op
named_call value = do
  returned ← result_type
  look stand_in (named_call_by value returned.id)

-- `call T @f(T V, ..)`, whose value has a name
unfoldable pub call : ℕ → Form Op
call value = do
  skip
  decorations spot.Result
  named_call value

-- ---- calls without the name of a value

-- an instruction with this value, and the decorations after it
abbrev pub valued : ℕ → Op → Form Instr
valued value op = trailed op >>= λ x. pure (record { result = Some value; op = x })

-- an instruction without a value, and the decorations after it
abbrev pub unnamed : Op → Form Instr
unnamed op = trailed op >>= λ x. pure (record { result = None; op = x })

-- `void @f(T V, ..)` after the word
unfoldable pub void_call : Form Call
void_call = skip >> intern type.Void >>= call_after

-- a call whose result is this value
abbrev pub valued_call : ℕ → Form Instr
valued_call value = as_op op.Call (typed_call value) >>= valued value

-- a call whose value takes the next number
unfoldable pub numbered_call : Form Instr
numbered_call = unnamed_value >>= valued_call

-- a call that is an instruction without a written result: one of `void`, or one whose result takes the next number
abbrev pub call_by : Kind → Form Instr
call_by k.Void = as_op op.Call void_call >>= unnamed
call_by _ = numbered_call

-- what follows `call`, with what decorates the result
abbrev pub call_statement_after : Form Instr
call_statement_after = decorations spot.Result >> look (λ i. kind i.cursor) call_by

-- `call T @f(T V, ..)`, where T may be `void`
unfoldable pub call_statement : Form Instr
call_statement = skip >> call_statement_after

-- ---- words before a call

-- `tail` or `notail`, before `call`
abbrev pub sees_call : Form (Unit {0})
sees_call = skip >> sees_a k.Call

-- `tail` or `notail` before a call
unfoldable pub tail_call : ℕ → Form Op
tail_call value = sees_call >> call value

-- `tail call ..` or `notail call ..`
unfoldable pub tail_call_statement : Form Instr
tail_call_statement = sees_call >> call_statement
