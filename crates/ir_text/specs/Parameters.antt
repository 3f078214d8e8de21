-- Parameters of declared and of defined functions.
use Rattle.std.specs.Prelude.{ℕ, List}
use Rattle.grammar.specs.Grammar.{pure, refuse, look, ◌>>=◌, ◌>>◌}
use Rattle.grammar.specs.Takes.{Takes, TakesWhere, first_takes, look_takes}
use Rattle.grammar.specs.Many.{many}
use Rattle.ir_tokens.specs.declared.token.Kind.{Kind}
use Rattle.ir_tokens.specs.declared.token.Kind.TheVariants as k
use Rattle.ir_ast.specs.declared.function.Parameter.{Parameter}
use Rattle.ir_forms.specs.declared.written.WrittenType.{WrittenType}
use Rattle.ir_forms.specs.Cursor.{kind, left_out}
use Rattle.ir_forms.specs.Input.{Form, unexpected, skip, IsKind}
use Rattle.ir_forms.specs.Names.{new_value, numbered_value, unnamed_value, next_number, take_number, set_type}
use Rattle.ir_forms.specs.Written.{any_type, any_type_takes, passed_type, passed_type_takes}
use Rattle.ir_forms.specs.Decorations.{decorations}
use Rattle.ir_forms.specs.declared.decorating.Spot.TheVariants as spot
use Rattle.ir_forms.specs.Lists.{separator, at_round, ends_parameters, dots}

-- ---- declared functions

-- the name of a declared function's parameter, written or not
abbrev pub declared_name_by : Kind → Form (Unit {0})
declared_name_by k.LocalName = skip
declared_name_by k.LocalNumber = next_number >> skip
declared_name_by _ = take_number

-- the name of a parameter that is declared; a number has to be the next one
unfoldable pub declared_name : Form (Unit {0})
declared_name = look (λ i. kind i.cursor) declared_name_by

-- a declared function's parameter after its type
abbrev pub type_of_parameter : WrittenType → Form ℕ
type_of_parameter w = do
  decorations spot.Parameter
  declared_name
  separator k.CloseRound
  pure w.id

-- the type of a parameter of a declared function, whose name is ignored
unfoldable pub declared_parameter : Form ℕ
declared_parameter = any_type >>= type_of_parameter

pub declared_parameter_takes : Takes declared_parameter
unfolding declared_parameter
declared_parameter_takes = first_takes any_type type_of_parameter any_type_takes

-- the types of the parameters of a declared function, before its dots if it has any
unfoldable pub declared_parameters : Form (List ℕ)
declared_parameters = many ends_parameters declared_parameter declared_parameter_takes >>= λ types. dots >> pure types

-- ---- defined functions

-- the type of a defined function's parameter
abbrev pub parameter_type_by : Kind → Form WrittenType
parameter_type_by k.Void = refuse (λ i. left_out i.cursor)
parameter_type_by _ = passed_type

-- the type of a parameter; no parameter has the type `void`
unfoldable pub parameter_type : Form WrittenType
parameter_type = look (λ i. kind i.cursor) parameter_type_by

parameter_type_takes_by : (x : Kind) → TakesWhere (IsKind x) (parameter_type_by x)
parameter_type_takes_by k.Void = λ i a o e h. absurd h
parameter_type_takes_by _ = λ i a o e h. passed_type_takes i a o h

parameter_type_takes : Takes parameter_type
unfolding parameter_type
parameter_type_takes = look_takes (λ i. kind i.cursor) parameter_type_by parameter_type_takes_by

-- the name of a defined function's parameter, written or not
abbrev pub parameter_name_by : Kind → Form ℕ
parameter_name_by k.LocalName = new_value
parameter_name_by k.LocalNumber = numbered_value
parameter_name_by k.Comma = unnamed_value
parameter_name_by k.CloseRound = unnamed_value
parameter_name_by _ = refuse unexpected

-- the name of a parameter, or its number, which may be left out
unfoldable pub parameter_name : Form ℕ
parameter_name = look (λ i. kind i.cursor) parameter_name_by

-- a defined function's parameter after its type
abbrev pub parameter_of : WrittenType → Form Parameter
parameter_of w = do
  decorations spot.Parameter
  value ← parameter_name
  set_type value w.id
  separator k.CloseRound
  pure (record { written = w.id; value = value })

-- `T %a`
unfoldable pub parameter : Form Parameter
parameter = parameter_type >>= parameter_of

pub parameter_takes : Takes parameter
unfolding parameter
parameter_takes = first_takes parameter_type parameter_of parameter_type_takes

-- the parameters of a defined function
unfoldable pub parameters : Form (List Parameter)
parameters = many at_round parameter parameter_takes
