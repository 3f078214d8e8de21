-- Items: struct types, globals, declared and defined functions.
use Rattle.std.specs.Prelude.{◌≤◌, ℕ, Bool, true, false, not, ◌&&◌, ◌==◌, List, [], ◌∷◌, ◌++◌, length, Option, Some, None, is_some, codes}
use Rattle.std.specs.Str.{bytes_eq}
use Rattle.std.proofs.Common.{arith}
use Rattle.grammar.specs.Grammar.{pure, step, checked, refuse, look, ◌>>=◌, ◌>>◌}
use Rattle.grammar.specs.Takes.{Takes, TakesWhere, first_takes_where, look_takes, stays_takes}
use Rattle.grammar.specs.Many.{many}
use Rattle.ir_tokens.specs.declared.token.Kind.{Kind}
use Rattle.ir_tokens.specs.declared.token.Kind.TheVariants as k
use Rattle.ir_ast.specs.declared.ir_type.IrType.TheVariants as type
use Rattle.ir_ast.specs.declared.operand.Constant.{Constant}
use Rattle.ir_ast.specs.declared.runtime.Runtime.{Runtime}
use Rattle.ir_ast.specs.declared.block.Block.{Block}
use Rattle.ir_ast.specs.declared.function.Function.{Function}
use Rattle.ir_text.specs.declared.items_of_text.FunctionHead.{FunctionHead}
use Rattle.ir_ast.specs.declared.items_of_module.SymbolSort.{SymbolSort}
use Rattle.ir_ast.specs.declared.items_of_module.SymbolSort.TheVariants as symbol
use Rattle.ir_ast.specs.declared.items_of_module.StructType.{StructType}
use Rattle.ir_ast.specs.declared.items_of_module.Global.{Global}
use Rattle.ir_ast.specs.declared.items_of_module.Declare.{Declare}
use Rattle.ir_forms.specs.declared.input.Input.{Input}
use Rattle.ir_forms.specs.declared.written.Word.{Word}
use Rattle.ir_forms.specs.declared.written.Word.TheVariants as word
use Rattle.ir_forms.specs.Cursor.{kind, sees, spelling, spelled, left_out, bad_here, at_end}
use Rattle.ir_forms.specs.Input.{Form, left, unexpected, unread, skip, expect, IsKind, skip_takes}
use Rattle.ir_ast.specs.RuntimeNames.{runtime_of}
use Rattle.ir_forms.specs.Outside.{lost_here}
use Rattle.ir_forms.specs.Names.{new_struct, new_struct_takes, new_symbol, new_symbol_takes, quoted, first_missing}
use Rattle.ir_forms.specs.Table.{empty}
use Rattle.ir_forms.specs.Written.{any_type, held_type, passed_type, intern, no_parameters, struct_body, word_of, is_float_word}
use Rattle.ir_forms.specs.Operand.{constant, begins_unread_operand}
use Rattle.ir_text.specs.Starts.{begins_unread_item, is_external}
use Rattle.ir_forms.specs.Intrinsics.{is_left_out}
use Rattle.ir_forms.specs.Decorations.{either, decorations, past_brackets, trailing}
use Rattle.ir_forms.specs.declared.decorating.Spot.{Spot}
use Rattle.ir_forms.specs.declared.decorating.Spot.TheVariants as spot
use Rattle.ir_forms.specs.declared.decorating.Trail.TheVariants as trail
use Rattle.ir_text.specs.Parameters.{declared_parameters, parameters}
use Rattle.ir_text.specs.Blocks.{blocks}
use Rattle.ir_text.specs.DataItems.{below, begins_data, begins_external, data_item}
use Rattle.ir_text.specs.Lines.{source_name, source_name_takes, target_line, target_line_takes, group, group_takes, comdat, comdat_takes, metadata_line, metadata_line_takes}

-- ---- struct types

-- the word `opaque` is here, where the wide forms may stand
unfoldable pub begins_opaque : Input → Bool
begins_opaque i = i.wide && bytes_eq (spelling i.cursor) (codes "opaque")

-- `opaque`, or another word: a struct type that is defined outside is one without fields, and its fields are lost
abbrev pub opaque_by : Bool → Form ℕ
opaque_by true = lost_here >> skip >> intern type.EmptyStruct
opaque_by false = refuse unexpected

-- the body of a struct type, by the token with which it begins
abbrev pub body_by : Kind → Form ℕ
body_by k.OpenBrace = struct_body
body_by k.LeftOut = look begins_opaque opaque_by
body_by k.Less = refuse (λ i. left_out i.cursor)
body_by _ = refuse unexpected

-- `{ T, .. }` or `opaque`; packed structs are left out
unfoldable pub body : Form ℕ
body = look (λ i. kind i.cursor) body_by

-- the module has one struct type more
abbrev pub with_struct_type : StructType → Input → Input
with_struct_type s i = record i { structs = i.structs ++ s ∷ [] }

pub with_struct_type_falls : (s : StructType) (i : Input) → left (with_struct_type s i) ≤ left i
unfolding left
with_struct_type_falls s i = omega arith

-- this struct type is added to the module
abbrev pub add_struct : StructType → Form (Unit {0})
add_struct s = step (λ _. tt) (with_struct_type s) (with_struct_type_falls s)

-- what follows the name of a struct type
abbrev pub struct_after : ℕ → Form (Unit {0})
struct_after n = do
  expect k.Equals
  expect k.Type
  t ← body
  add_struct (record { name = n; body = t })

-- `%N = type { T, .. }`
unfoldable pub struct_type : Form (Unit {0})
struct_type = new_struct >>= struct_after

-- ---- globals

-- the word is an i1
abbrev pub is_one : Word → Bool
is_one (word.Integer bits) = bits == 1
is_one _ = false

-- the word is a pointer
abbrev pub is_pointer_word : Word → Bool
is_pointer_word word.Pointer = true
is_pointer_word _ = false

-- a global's first value fits its type, which is a word of this sort
abbrev pub is_initial : Word → Kind → Bool
is_initial w k.Undef = true
is_initial w k.Zeroinitializer = true
is_initial w k.Number = not (is_pointer_word w)
is_initial w k.Word = is_float_word w
is_initial w k.True = is_one w
is_initial w k.False = is_one w
is_initial w k.Null = is_pointer_word w
is_initial w _ = false

-- the first value of a global
unfoldable pub initial : Word → Form Constant
initial w = checked (λ i. is_initial w (kind i.cursor)) (unread begins_unread_operand) >> constant w

-- `global` or `constant`
abbrev pub is_constant_by : Kind → Form Bool
is_constant_by k.Global = skip >> pure false
is_constant_by k.Constant = skip >> pure true
is_constant_by _ = refuse (unread is_external)

-- `global` or `constant`, with what decorates the global
unfoldable pub is_constant : Form Bool
is_constant = decorations spot.Global >> look (λ i. kind i.cursor) is_constant_by

-- the module has one global more
abbrev pub with_global : Global → Input → Input
with_global g i = record i { globals = i.globals ++ g ∷ [] }

pub with_global_falls : (g : Global) (i : Input) → left (with_global g i) ≤ left i
unfolding left
with_global_falls g i = omega arith

-- this global is added to the module
abbrev pub add_global : Global → Form (Unit {0})
add_global g = step (λ _. tt) (with_global g) (with_global_falls g)

-- the type and the first value of a global
abbrev pub global_value : ℕ → Bool → Form (Unit {0})
global_value s is_fixed = do
  w ← held_type
  x ← initial (word_of w)
  trailing trail.Global
  decorations spot.GlobalEnd
  add_global (record { symbol = s; is_constant = is_fixed; held = w.id; initial = x })

-- data, or a global with its value
abbrev pub value_by : ℕ → Bool → Bool → Form (Unit {0})
value_by s is_fixed true = data_item s
value_by s is_fixed false = global_value s is_fixed

-- a global that is not outside, or data
abbrev pub global_inside : ℕ → Form (Unit {0})
global_inside s = do
  is_fixed ← is_constant
  look begins_data (value_by s is_fixed)

-- a global outside, after its first word
abbrev pub global_outside : ℕ → Form (Unit {0})
global_outside s = do
  lost_here
  skip
  is_constant
  data_item s

-- a global outside or not
abbrev pub global_by : ℕ → Bool → Form (Unit {0})
global_by s true = global_outside s
global_by s false = global_inside s

-- what follows the name of a global
abbrev pub global_afterwards : ℕ → Form (Unit {0})
global_afterwards s = do
  expect k.Equals
  look begins_external (global_by s)

-- the name of a global that is defined here
abbrev pub global_name : Form ℕ
global_name = look (λ i. length i.globals) (λ n. new_symbol (symbol.Global n))

-- `@g = global T c`, of which there are at most 4,096
unfoldable pub global : Form (Unit {0})
global = below 4096 (λ i. length i.globals) >> global_name >>= global_afterwards

-- ---- the end of a function's head

-- `gc "name"`
abbrev pub collector_name : Form (Option (List ℕ))
collector_name = skip >> quoted >>= λ text. pure (Some text)

-- `gc "name"`, if it is there
unfoldable pub collector : Form (Option (List ℕ))
collector = look (λ i. sees k.Gc i.cursor) (either collector_name (pure None))

-- what decorates a function after its parameters, with the collector's name
unfoldable pub head_end : Spot → Form (Option (List ℕ))
head_end s = do
  decorations s
  c ← collector
  decorations s
  pure c

-- ---- declared functions

-- `void`, which begins no function type
abbrev pub void_result : Form ℕ
void_result = skip >> no_parameters >> intern type.Void

-- the result of a declared function
abbrev pub declared_result_by : Kind → Form ℕ
declared_result_by k.Void = void_result
declared_result_by _ = any_type >>= λ w. pure w.id

-- `void`, or a type, with what decorates the function
abbrev pub decorated_result : Form ℕ
decorated_result = decorations spot.Result >> look (λ i. kind i.cursor) declared_result_by

-- the metadata of a declared function, and then its result
unfoldable pub declared_result : Form ℕ
declared_result = decorations spot.Declare >> decorated_result

-- the name of a function that is declared or defined here, as this
abbrev pub function_name_by : SymbolSort → Kind → Form ℕ
function_name_by sort k.GlobalName = new_symbol sort
function_name_by sort _ = refuse unexpected

-- the name of a function that is declared or defined here
unfoldable pub function_name : SymbolSort → Form ℕ
function_name sort = look (λ i. kind i.cursor) (function_name_by sort)

-- the module has one declared function more
abbrev pub with_declare : Declare → Input → Input
with_declare d i = record i { declares = i.declares ++ d ∷ []; unnamed = 0 }

pub with_declare_falls : (d : Declare) (i : Input) → left (with_declare d i) ≤ left i
unfolding left
with_declare_falls d i = omega arith

-- this declared function is added to the module
abbrev pub add_declare : Declare → Form (Unit {0})
add_declare d = step (λ _. tt) (with_declare d) (with_declare_falls d)

-- what follows the result of a declared function
abbrev pub declare_after : ℕ → ℕ → Option Runtime → Form (Unit {0})
declare_after number returned runtime = do
  s ← function_name (symbol.Declared number)
  expect k.OpenRound
  ps ← declared_parameters
  expect k.CloseRound
  head_end spot.Declared
  add_declare (record { symbol = s; runtime = runtime; returned = returned; parameters = ps })

-- the name of an intrinsic that is left out is here, where the wide forms may stand
abbrev pub names_left_out : Input → Bool
names_left_out i = i.wide && (sees k.GlobalName i.cursor && is_left_out i.wide (spelled i.cursor))

-- what follows the name of such an intrinsic
abbrev pub passed_after : Form (Unit {0})
passed_after = do
  expect k.OpenRound
  past_brackets
  head_end spot.Declared
  pure tt

-- such an intrinsic, from its name on
abbrev pub passed_declare : Form (Unit {0})
passed_declare = skip >> passed_after

-- what follows the result of a declared function, with the function of the runtime that is named, if it is one; an intrinsic that is left out enters no name
abbrev pub declare_by : ℕ → ℕ → Bool → Form (Unit {0})
declare_by number returned true = passed_declare
declare_by number returned false = look (λ i. runtime_of (spelled i.cursor)) (declare_after number returned)

-- what follows `declare`
abbrev pub declare_parts : ℕ → Form (Unit {0})
declare_parts number = declared_result >>= λ returned. look names_left_out (declare_by number returned)

-- the declared function with this number
abbrev pub declare_numbered : ℕ → Form (Unit {0})
declare_numbered number = skip >> declare_parts number

-- `declare T @f(T, ..)`, of which there are at most 65,535
unfoldable pub declaration : Form (Unit {0})
declaration = below 65535 (λ i. length i.declares) >> look (λ i. length i.declares) declare_numbered

-- ---- defined functions

-- the result of a defined function
abbrev pub defined_result_by : Kind → Form ℕ
defined_result_by k.Void = void_result
defined_result_by _ = passed_type >>= λ w. pure w.id

-- `void`, or a type that a defined function may return, with what decorates the function
unfoldable pub defined_result : Form ℕ
defined_result = decorations spot.Result >> look (λ i. kind i.cursor) defined_result_by

-- the brace that opens a body
abbrev pub open_body_by : Kind → Form (Unit {0})
open_body_by k.OpenBrace = skip
open_body_by _ = refuse unexpected

-- the brace that opens a body, which must be here
unfoldable pub open_body : Form (Unit {0})
open_body = look (λ i. kind i.cursor) open_body_by

-- the first of two places, the one of an earlier function going before
abbrev pub earlier : Option ℕ → Option ℕ → Option ℕ
earlier None further = further
earlier (Some place) further = Some place

-- the function with this head and these blocks, and the names that were read
abbrev pub function_of : FunctionHead → List Block → Input → Function
function_of h bs i = record {
  symbol = h.symbol;
  returned = h.returned;
  parameters = h.parameters;
  collector = h.collector;
  locals = i.locals.names;
  sorts = i.locals.sorts;
  blocks = bs;
}

-- the function is added, its names are checked, and the next function begins with none
unfoldable pub with_function : FunctionHead → List Block → Input → Input
with_function h bs i = record i {
  functions = i.functions ++ function_of h bs i ∷ [];
  locals = empty;
  local_uses = [];
  values = 0;
  unnamed = 0;
  missing = earlier i.missing (first_missing i.locals i.local_uses);
}

pub with_function_falls : (h : FunctionHead) (bs : List Block) (i : Input) → left (with_function h bs i) ≤ left i
unfolding left with_function
with_function_falls h bs i = omega arith

-- this function is added to the module
abbrev pub end_function : FunctionHead → List Block → Form (Unit {0})
end_function h bs = step (λ _. tt) (with_function h bs) (with_function_falls h bs)

-- what follows the result of a defined function
abbrev pub head_after : ℕ → ℕ → Form FunctionHead
head_after number returned = do
  s ← function_name (symbol.Defined number)
  expect k.OpenRound
  ps ← parameters
  expect k.CloseRound
  c ← head_end spot.Defined
  pure (record { symbol = s; returned = returned; parameters = ps; collector = c })

-- the head of the function with this number
abbrev pub head_result : ℕ → Form FunctionHead
head_result number = defined_result >>= head_after number

-- `define T @f(T %a, ..) gc "name"`
unfoldable pub head : ℕ → Form FunctionHead
head number = skip >> head_result number

-- the body after a head
abbrev pub body_after : FunctionHead → Form (Unit {0})
body_after h = do
  open_body
  bs ← blocks
  expect k.CloseBrace
  end_function h bs

-- the defined function with this number
abbrev pub define_numbered : ℕ → Form (Unit {0})
define_numbered number = head number >>= body_after

-- `define T @f(T %a, ..) gc "name" { .. }`, of which there are at most 65,535
unfoldable pub definition : Form (Unit {0})
definition = below 65535 (λ i. length i.functions) >> look (λ i. length i.functions) define_numbered

-- ---- all items

-- an item, by the token with which it begins
abbrev pub item_by : Kind → Form (Unit {0})
item_by k.LocalName = struct_type
item_by k.GlobalName = global
item_by k.Declare = declaration
item_by k.Define = definition
item_by k.SourceFilename = source_name
item_by k.Target = target_line
item_by k.Attributes = group
item_by k.Word = comdat
item_by k.Exclamation = metadata_line
item_by k.MetadataName = metadata_line
item_by k.MetadataNumber = metadata_line
item_by _ = refuse (unread begins_unread_item)

-- an item
unfoldable pub item : Form (Unit {0})
item = look (λ i. kind i.cursor) item_by

struct_type_takes : TakesWhere (IsKind k.LocalName) struct_type
unfolding struct_type
struct_type_takes = first_takes_where (IsKind k.LocalName) new_struct struct_after new_struct_takes

global_name_takes : TakesWhere (IsKind k.GlobalName) global_name
global_name_takes i a o e h = new_symbol_takes (symbol.Global (length i.globals)) i a o e h

numbered_global_takes : TakesWhere (IsKind k.GlobalName) (below 4096 (λ i. length i.globals) >> global_name)
numbered_global_takes = stays_takes (IsKind k.GlobalName) (below 4096 (λ i. length i.globals)) global_name (λ i a o h. h.1) global_name_takes

global_takes : TakesWhere (IsKind k.GlobalName) global
unfolding global
global_takes = first_takes_where (IsKind k.GlobalName) (below 4096 (λ i. length i.globals) >> global_name) global_afterwards numbered_global_takes

declare_numbered_takes : (number : ℕ) → TakesWhere (IsKind k.Declare) (declare_numbered number)
declare_numbered_takes number = first_takes_where (IsKind k.Declare) skip (λ _. declare_parts number) (skip_takes k.Declare (λ x. cc))

declaration_takes : TakesWhere (IsKind k.Declare) declaration
unfolding declaration
declaration_takes = stays_takes (IsKind k.Declare) (below 65535 (λ i. length i.declares)) (look (λ i. length i.declares) declare_numbered) (λ i a o h. h.1)
    (λ i a o e h. declare_numbered_takes (length i.declares) i a o e h)

head_takes : (number : ℕ) → TakesWhere (IsKind k.Define) (head number)
unfolding head
head_takes number = first_takes_where (IsKind k.Define) skip (λ _. head_result number) (skip_takes k.Define (λ x. cc))

define_numbered_takes : (number : ℕ) → TakesWhere (IsKind k.Define) (define_numbered number)
define_numbered_takes number = first_takes_where (IsKind k.Define) (head number) body_after (head_takes number)

definition_takes : TakesWhere (IsKind k.Define) definition
unfolding definition
definition_takes = stays_takes (IsKind k.Define) (below 65535 (λ i. length i.functions)) (look (λ i. length i.functions) define_numbered) (λ i a o h. h.1)
    (λ i a o e h. define_numbered_takes (length i.functions) i a o e h)

item_takes_by : (x : Kind) → TakesWhere (IsKind x) (item_by x)
item_takes_by k.LocalName = struct_type_takes
item_takes_by k.GlobalName = global_takes
item_takes_by k.Declare = declaration_takes
item_takes_by k.Define = definition_takes
item_takes_by k.SourceFilename = source_name_takes
item_takes_by k.Target = target_line_takes
item_takes_by k.Attributes = group_takes
item_takes_by k.Word = comdat_takes
item_takes_by k.Exclamation = metadata_line_takes k.Exclamation (λ x. cc)
item_takes_by k.MetadataName = metadata_line_takes k.MetadataName (λ x. cc)
item_takes_by k.MetadataNumber = metadata_line_takes k.MetadataNumber (λ x. cc)
item_takes_by _ = λ i a o e h. absurd h

pub item_takes : Takes item
unfolding item
item_takes = look_takes (λ i. kind i.cursor) item_by item_takes_by

-- the text ends here
abbrev pub at_end_of_text : Input → Bool
at_end_of_text i = sees k.End i.cursor

-- the items of a text, up to its end
unfoldable pub items : Form (List (Unit {0}))
items = many at_end_of_text item item_takes

-- a text is its items, and there is no bad byte after them
unfoldable pub whole : Form (Unit {0})
whole = items >> checked (λ i. not (is_some (bad_here i.cursor))) (λ i. at_end i.cursor)
