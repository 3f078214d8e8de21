-- Lists of parts, with commas between them.
use Rattle.std.specs.Prelude.{ℕ, ◌-◌, nat_lt, Bool, true, false, not, ◌&&◌, ◌||◌, if◌then◌else◌, List, slice_get, Option, Some, None, filter_map}
use Rattle.grammar.specs.Grammar.{pure, checked, look, ◌>>=◌, ◌>>◌}
use Rattle.grammar.specs.Takes.{Takes, first_takes}
use Rattle.grammar.specs.Many.{many}
use Rattle.ir_tokens.specs.declared.token.Kind.{Kind}
use Rattle.ir_tokens.specs.declared.token.Kind.TheVariants as k
use Rattle.ir_ast.specs.Names.{name_at}
use Rattle.ir_ast.specs.declared.argument.Argument.{Argument}
use Rattle.ir_ast.specs.declared.operand.Constant.TheVariants as c
use Rattle.ir_ast.specs.declared.operand.Operand.{Operand}
use Rattle.ir_ast.specs.declared.operand.Operand.TheVariants as o
use Rattle.ir_forms.specs.declared.input.Input.{Input}
use Rattle.ir_forms.specs.declared.written.Word.{Word}
use Rattle.ir_forms.specs.declared.written.Word.TheVariants as sort
use Rattle.ir_forms.specs.declared.written.WrittenType.{WrittenType}
use Rattle.ir_forms.specs.Cursor.{kind_after, sees}
use Rattle.ir_forms.specs.Input.{Form, unexpected, skip, expect, expect_takes}
use Rattle.ir_forms.specs.Names.{is_outside}
use Rattle.ir_forms.specs.Written.{scalar, word_of, scalar_takes}
use Rattle.ir_forms.specs.Operand.{operand}
use Rattle.ir_forms.specs.Outside.{lost_here}
use Rattle.ir_forms.specs.Decorations.{either, decorations}
use Rattle.ir_forms.specs.ManyWith.{many_with}
use Rattle.ir_forms.specs.declared.decorating.Spot.TheVariants as spot
use Rattle.ir_forms.specs.declared.lists.DottedArguments.{DottedArguments}
use Rattle.ir_forms.specs.declared.lists.IndexList.{IndexList}

-- the next token is not of this kind
abbrev pub sees_no : Kind → Form (Unit {0})
sees_no wanted = checked (λ i. not (sees wanted i.cursor)) unexpected

-- a comma, which another part follows
abbrev pub comma : Kind → Form (Unit {0})
comma close = expect k.Comma >> sees_no close

-- nothing before the list's end, or else a comma with a further part after it
unfoldable pub separator : Kind → Form (Unit {0})
separator close = look (λ i. sees close i.cursor) (either (pure tt) (comma close))

-- the list of arguments ends here
abbrev pub at_round : Input → Bool
at_round i = sees k.CloseRound i.cursor

-- an argument after its type
abbrev pub argument_of : WrittenType → Form Argument
argument_of w = do
  decorations spot.Argument
  x ← operand (word_of w)
  separator k.CloseRound
  pure (record { written = w.id; operand = x })

-- an argument of a call
unfoldable pub argument : Form Argument
argument = scalar >>= argument_of

pub argument_takes : Takes argument
unfolding argument
argument_takes = first_takes scalar argument_of scalar_takes

-- the arguments of a call
unfoldable pub arguments : Form (List Argument)
arguments = many at_round argument argument_takes

-- ---- the arguments of a function with dots among its parameters

-- the name with this number is that of something outside
unfoldable pub is_name_outside : ℕ → Input → Bool
is_name_outside symbol i = is_outside (slice_get i.symbols.sorts symbol) (name_at i.symbols.names symbol)

-- the operand is an address outside: such a name, or a constant bitcast of one
abbrev pub is_address_outside : Operand → Input → Bool
is_address_outside (o.Global symbol) i = is_name_outside symbol i
is_address_outside (o.CastGlobal from symbol to) i = is_name_outside symbol i
is_address_outside _ i = false

-- the operand is null
abbrev pub is_null : Operand → Bool
is_null (o.Constant c.Null) = true
is_null _ = false

-- Past the dots a number, null and what is outside are dropped. Another pointer is kept, so that the call has more arguments than its function has parameters.
abbrev pub past_dots : Word → Argument → Bool → Option Argument
past_dots sort.Pointer x outside = if outside || is_null x.operand then None else Some x
past_dots _ x outside = None

-- what is kept of an argument, before which this many parameters are left
abbrev pub kept_argument : ℕ → Word → Argument → Bool → Option Argument
kept_argument n w x outside = if nat_lt 0 n then Some x else past_dots w x outside

-- such an argument after its type
abbrev pub dotted_of : DottedArguments → WrittenType → Form (Option Argument)
dotted_of s w = do
  x ← argument_of w
  outside ← look (is_address_outside x.operand) pure
  pure (kept_argument s.left (word_of w) x outside)

-- an argument, if it is kept
unfoldable pub dotted_argument : DottedArguments → Form (Option Argument)
dotted_argument s = scalar >>= dotted_of s

pub dotted_takes : (s : DottedArguments) → Takes (dotted_argument s)
unfolding dotted_argument
dotted_takes s = first_takes scalar (dotted_of s) scalar_takes

-- the list of arguments ends here, whatever came before
abbrev pub ends_dotted : DottedArguments → Input → Bool
ends_dotted s i = at_round i

-- one parameter less is left, if one was
abbrev pub after_dotted : DottedArguments → Option Argument → DottedArguments
after_dotted s x = record { left = s.left - 1 }

-- the arguments of a call that are kept, where the function has this many parameters before its dots
unfoldable pub dotted_arguments : (fixed : ℕ) → Form (List Argument)
dotted_arguments fixed = many_with ends_dotted dotted_argument dotted_takes after_dotted (record { left = fixed }) >>= λ xs. pure (filter_map (λ x. x) xs)

-- ---- dots

-- dots are here, where the wide forms may stand
unfoldable pub at_dots : Input → Bool
at_dots i = i.wide && sees k.Dots i.cursor

-- the list of parameters ends here, or its dots are here
abbrev pub ends_parameters : Input → Bool
ends_parameters i = at_round i || at_dots i

-- dots are lost
abbrev pub dots_by : Bool → Form Bool
dots_by true = lost_here >> skip >> pure true
dots_by false = pure false

-- dots, if they are here
unfoldable pub dots : Form Bool
dots = look at_dots dots_by

-- ---- lists without an end of their own

-- the token is a name of metadata
abbrev pub is_metadata : Kind → Bool
is_metadata k.MetadataName = true
is_metadata _ = false

-- `T V`
unfoldable pub typed : Form Argument
typed = do
  w ← scalar
  x ← operand (word_of w)
  pure (record { written = w.id; operand = x })

-- `, T V`
unfoldable pub index : Form Argument
index = expect k.Comma >> typed

-- an index, whichever came before it
abbrev pub any_index : IndexList → Form Argument
any_index s = index

pub index_takes : (s : IndexList) → Takes (any_index s)
unfolding index
index_takes s = first_takes (expect k.Comma) (λ _. typed) (expect_takes k.Comma (λ x. cc))

-- no further part of the list is here; metadata is none
abbrev pub at_no_comma : Input → Bool
at_no_comma i = not (sees k.Comma i.cursor) || is_metadata (kind_after i.cursor)

-- the list of indices ends here
abbrev pub ends_indices : IndexList → Input → Bool
ends_indices s i = s.is_further && at_no_comma i

-- the list of indices has one now
abbrev pub after_index : IndexList → Argument → IndexList
after_index s x = record s { is_further = true }

-- the indices of a getelementptr, of which there is one at least
unfoldable pub indices : Form (List Argument)
indices = many_with ends_indices any_index index_takes after_index (record { is_further = false })
