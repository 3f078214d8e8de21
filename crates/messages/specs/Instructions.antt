-- Where the instructions of a function begin, as the reader reads them.
use Rattle.std.specs.Prelude.{◌≡◌, ℕ, ◌+◌, Bool, true, false, ◌||◌, if◌then◌else◌, List, [], ◌∷◌, length, drop, slice_get, Option, Some, None, option_and_then}
use Rattle.grammar.specs.Grammar.{◌>>◌}
use Rattle.ir_tokens.specs.Bytes.{Text}
use Rattle.ir_tokens.specs.Names.{name_of}
use Rattle.ir_tokens.specs.declared.token.Kind.{Kind}
use Rattle.ir_tokens.specs.declared.token.Kind.TheVariants as k
use Rattle.ir_tokens.specs.declared.token.Token.{Token}
use Rattle.ir_ast.specs.Names.{place_of}
use Rattle.ir_ast.specs.declared.items_of_module.SymbolSort.{SymbolSort}
use Rattle.ir_ast.specs.declared.items_of_module.SymbolSort.TheVariants as symbol
use Rattle.ir_ast.specs.declared.module.Module.{Module}
use Rattle.ir_forms.specs.declared.table.Table.{Table}
use Rattle.ir_forms.specs.declared.input.Input.{Input}
use Rattle.ir_forms.specs.Ends.{ends_block}
use Rattle.ir_forms.specs.Input.{Form, start_of}
use Rattle.ir_forms.specs.Table.{empty, mentioned}
use Rattle.ir_text.specs.Anew.{named_head}
use Rattle.ir_places.specs.declared.places.BlockPlaces.{BlockPlaces}
use Rattle.ir_places.specs.Places.{body_places, place_in}

-- an instruction of a body begins with this token: the name of its value, or its own word
abbrev pub begins_inner : Kind → Bool
begins_inner k.LocalName = true
begins_inner k.LocalNumber = true
begins_inner k.Store = true
begins_inner k.Call = true
begins_inner k.Tail = true
begins_inner k.Notail = true
begins_inner _ = false

-- an instruction begins with this token, or the end of a block does
abbrev pub begins : Kind → Bool
begins kind = begins_inner kind || ends_block kind

-- what a global name of the module stands for before a function of it is read alone, if it stands for anything: it does where it is only declared
abbrev pub sort_before : SymbolSort → Option SymbolSort
sort_before symbol.Unknown = None
sort_before (symbol.Global g) = None
sort_before (symbol.Declared d) = Some (symbol.Declared d)
sort_before (symbol.Defined f) = None

-- the same of a name, which the module may not have
abbrev pub sort_of_name : Module → (name : Text) → Option SymbolSort
sort_of_name m name = option_and_then sort_before (option_and_then (slice_get m.sorts) (place_of name m.symbols))

-- the table with this name, if it stands for something
abbrev pub with_sort : (name : Text) → Option SymbolSort → Table SymbolSort → Table SymbolSort
with_sort name None t = t
with_sort name (Some sort) t = mentioned name sort t

-- a token of this kind is a global name
abbrev pub is_global_name : Kind → Bool
is_global_name k.GlobalName = true
is_global_name _ = false

-- a function begins with a token of this kind
abbrev pub is_define : Kind → Bool
is_define k.Define = true
is_define _ = false

-- the table with the name that this token spells, if it is a global name that stands for something
abbrev pub with_token : Module → (text : Text) → Token → Table SymbolSort → Table SymbolSort
with_token m text x t = if is_global_name x.kind then with_sort (name_of text x) (sort_of_name m (name_of text x)) t else t

-- the table with the names of these tokens, up to where the next function begins
abbrev pub with_tokens : Module → (text : Text) → List Token → Table SymbolSort → Table SymbolSort
with_tokens m text [] t = t
with_tokens m text (x ∷ xs) t = if is_define x.kind then t else with_tokens m text xs (with_token m text x t)

-- the global names that stand for something before the function with which these tokens begin is read alone, as far as they stand in it
abbrev pub names_before : Module → (text : Text) → List Token → Table SymbolSort
names_before m text tokens = with_tokens m text (drop 1 tokens) empty

-- before these tokens of a function of the module are read alone
abbrev pub start_in : Module → (text : Text) → List Token → Input
start_in m text tokens = record (start_of (record { text = text; rest = tokens; bad = None; wide = m.wide })) { symbols = names_before m text tokens; wide = m.wide }

-- the function of this name, with how many tokens are left before each of its instructions
unfoldable pub function_places : (name : Text) → Form (List BlockPlaces)
function_places name = named_head 0 name >> body_places

-- These tokens begin with the function of this name, and before each of its instructions so many of them are left to the reader.
pub record ArePlacesOf (m : Module) (text name : Text) (tokens : List Token) (places : List BlockPlaces) : Type 0 where
  pub after : Input
  pub read : (function_places name).says (start_in m text tokens) places after

-- The token with this number is the one before which as many tokens are left as before this instruction; it is one with which an instruction begins.
pub record IsFirst (places : List BlockPlaces) (tokens : List Token) (block place at : ℕ) : Type 0 where
  pub of_block : BlockPlaces
  pub there : slice_get places block ≡ Some of_block
  pub left : ℕ
  pub counted : place_in of_block place ≡ Some left
  pub all : at + left ≡ length tokens
  pub token : Token
  pub first : slice_get tokens at ≡ Some token
  pub begins_one : begins token.kind ≡ true

-- An instruction of the function of this name begins at this token: from some token on the function is read, and this is the first token of the instruction there.
pub record BeginsAt (m : Module) (text : Text) (tokens : List Token) (name : Text) (block place : ℕ) (token : Token) : Type 0 where
  pub from : ℕ
  pub places : List BlockPlaces
  pub read : ArePlacesOf m text name (drop from tokens) places
  pub at : ℕ
  pub begins_here : IsFirst places (drop from tokens) block place at
  pub there : slice_get (drop from tokens) at ≡ Some token
