-- Data, and globals outside. The module has their names alone, which are declared; what they hold is passed over.
use Rattle.std.specs.Prelude.{◌≤◌, ℕ, ◌+◌, ◌-◌, ◌==◌, nat_lt, Bool, true, false, not, ◌&&◌, ◌||◌, [], ◌∷◌, ◌++◌, length, is_none, codes}
use Rattle.std.specs.Str.{bytes_eq}
use Rattle.std.proofs.Common.{arith}
use Rattle.grammar.specs.Grammar.{pure, step, checked, look, ◌>>=◌, ◌>>◌}
use Rattle.grammar.specs.Takes.{Takes, second_takes}
use Rattle.ir_tokens.specs.declared.token.Kind.{Kind}
use Rattle.ir_tokens.specs.declared.token.Kind.TheVariants as k
use Rattle.ir_ast.specs.declared.ir_type.IrType.TheVariants as type
use Rattle.ir_ast.specs.declared.items_of_module.SymbolSort.TheVariants as symbol
use Rattle.ir_ast.specs.Names.{name_at}
use Rattle.ir_ast.specs.RuntimeNames.{runtime_of}
use Rattle.ir_forms.specs.declared.input.Input.{Input}
use Rattle.ir_forms.specs.Cursor.{kind, kind_after, same_kind, sees, spelling, begins_line, left_out}
use Rattle.ir_forms.specs.Input.{Form, left, limit}
use Rattle.ir_forms.specs.Decorations.{any_token, any_token_takes}
use Rattle.ir_forms.specs.ManyWith.{many_with}
use Rattle.ir_forms.specs.Outside.{lost_here}
use Rattle.ir_forms.specs.Table.{defined}
use Rattle.ir_forms.specs.Written.{intern}
use Rattle.ir_text.specs.Starts.{is_external}
use Rattle.ir_text.specs.declared.data_items.OpenBrackets.{OpenBrackets}

-- the count is below this bound
abbrev pub below : ℕ → (Input → ℕ) → Form (Unit {0})
below most count = checked (λ i. nat_lt (count i) most) limit

-- ---- where data is

-- a type that no global of the module has: an array, a struct, a vector, or a name of a type without a star after it
abbrev pub begins_data_by : (x after : Kind) → Bool
begins_data_by k.OpenSquare after = true
begins_data_by k.OpenBrace after = true
begins_data_by k.Less after = true
begins_data_by k.LocalName after = not (same_kind after k.Star)
begins_data_by k.LocalNumber after = not (same_kind after k.Star)
begins_data_by _ after = false

-- data of such a type is here, where the wide forms may stand
unfoldable pub begins_data : Input → Bool
begins_data i = i.wide && begins_data_by (kind i.cursor) (kind_after i.cursor)

-- a global outside is here, where the wide forms may stand
unfoldable pub begins_external : Input → Bool
begins_external i = i.wide && is_external (kind i.cursor)

-- ---- what is passed over

-- a word with which an item begins
abbrev pub begins_item_by : Kind → Bool
begins_item_by k.Declare = true
begins_item_by k.Define = true
begins_item_by k.SourceFilename = true
begins_item_by k.Target = true
begins_item_by k.Attributes = true
begins_item_by _ = false

-- the word `module` is here, with which assembly code begins
unfoldable pub begins_assembly : Input → Bool
begins_assembly i = sees k.LeftOut i.cursor && bytes_eq (spelling i.cursor) (codes "module")

-- an item begins here: with its word, or with a name and `=`
abbrev pub begins_item : Input → Bool
begins_item i = begins_item_by (kind i.cursor) || begins_assembly i || same_kind (kind_after i.cursor) k.Equals

-- an item begins here, or another line
abbrev pub begins_further : Input → Bool
begins_further i = begins_item i || begins_line i.cursor

-- the text ends here, or something else begins
abbrev pub ends_item : Input → Bool
ends_item i = sees k.End i.cursor || begins_further i

-- outside of all brackets the item ends here
abbrev pub ends_data : OpenBrackets → Input → Bool
ends_data b i = b.depth == 0 && ends_item i

-- how many brackets are open is a number of 32 bits
abbrev pub has_room : OpenBrackets → Form (Unit {0})
has_room b = checked (λ _. nat_lt b.depth 4294967295) limit

-- a token of the item, which may open or close a bracket
abbrev pub token_of_item : OpenBrackets → Form Kind
token_of_item b = has_room b >> any_token

pub token_takes : (b : OpenBrackets) → Takes (token_of_item b)
token_takes b = second_takes (has_room b) (λ _. any_token) (λ _. any_token_takes)

-- the brackets after a token, which may open or close one of any kind
abbrev pub after_token : OpenBrackets → Kind → OpenBrackets
after_token b k.OpenRound = record b { depth = b.depth + 1 }
after_token b k.OpenSquare = record b { depth = b.depth + 1 }
after_token b k.OpenBrace = record b { depth = b.depth + 1 }
after_token b k.CloseRound = record b { depth = b.depth - 1 }
after_token b k.CloseSquare = record b { depth = b.depth - 1 }
after_token b k.CloseBrace = record b { depth = b.depth - 1 }
after_token b _ = b

-- the rest of an item, up to where something else begins outside of all brackets
unfoldable pub past_item : Form (Unit {0})
past_item = many_with ends_data token_of_item token_takes after_token (record { depth = 0 }) >> pure tt

-- ---- what the module has of it

-- this name is the next one that is declared, with this number, this type of a result and no parameters
abbrev pub with_outside : (s number returned : ℕ) → Input → Input
with_outside s number returned i = record i {
  symbols = defined s (symbol.Declared number) i.symbols;
  declares = i.declares ++ record { symbol = s; runtime = runtime_of (name_at i.symbols.names s); returned = returned; parameters = [] } ∷ [];
}

pub with_outside_falls : (s number returned : ℕ) (i : Input) → left (with_outside s number returned i) ≤ left i
unfolding left
with_outside_falls s number returned i = omega arith

-- this name is declared from now on
abbrev pub add_outside : (s number returned : ℕ) → Form (Unit {0})
add_outside s number returned = step (λ _. tt) (with_outside s number returned) (with_outside_falls s number returned)

-- this name is declared from now on, as that of a function without a result
abbrev pub declare_outside : (s number : ℕ) → Form (Unit {0})
declare_outside s number = intern type.Void >>= add_outside s number

-- data with this name, from its type on: it is lost, and its name is declared under this number
abbrev pub data_numbered : (s number : ℕ) → Form (Unit {0})
data_numbered s number = lost_here >> past_item >> declare_outside s number

-- this name is none of a function of the runtime
abbrev pub is_name_of_data : (s : ℕ) → Input → Bool
is_name_of_data s i = is_none (runtime_of (name_at i.symbols.names s))

-- data never has the name of a function of the runtime, for which its calls would count
abbrev pub named_as_data : (s : ℕ) → Form (Unit {0})
named_as_data s = checked (is_name_of_data s) (λ i. left_out i.cursor)

-- data with this name, from its type on, of which there are at most 65,535 with what is declared
unfoldable pub data_item : ℕ → Form (Unit {0})
data_item s = below 65535 (λ i. length i.declares) >> named_as_data s >> look (λ i. length i.declares) (data_numbered s)
