-- The text of one function as it stands in a whole text, and what is read of it alone.
use Rattle.std.specs.Prelude.{◌≡◌, ◌<◌, ◌≤◌, ◌++◌, ◌⊎◌, ℕ, true, List, [], ◌∷◌, Option, None, length, map, slice_get, option_and_then}
use Rattle.grammar.specs.Grammar.{◌>>=◌}
use Rattle.grammar.specs.Many.{Listed, Before}
use Rattle.ir_ast.specs.Names.{place_of}
use Rattle.ir_ast.specs.declared.items_of_module.SymbolSort.{SymbolSort}
use Rattle.ir_ast.specs.declared.module.Module.{Module}
use Rattle.ir_tokens.specs.Bytes.{Text}
use Rattle.ir_tokens.specs.Tokens.{IsLexed}
use Rattle.ir_tokens.specs.declared.lexed.Lexed.{Lexed}
use Rattle.ir_tokens.specs.declared.token.Kind.TheVariants as k
use Rattle.ir_tokens.specs.declared.token.Token.{Token}
use Rattle.ir_forms.specs.Cursor.{sees}
use Rattle.ir_forms.specs.Names.{is_symbol, is_function, is_declared}
use Rattle.ir_forms.specs.Table.{empty}
use Rattle.ir_forms.specs.declared.input.Input.{Input}
use Rattle.ir_forms.specs.declared.table.Table.{Table}
use Rattle.ir_text.specs.Anew.{sorts_before, named_head}
use Rattle.ir_text.specs.Replaced.{name_of, IsReplaced, IsReplaceFault}
use Rattle.ir_text.specs.ItemsOfText.{body_after, definition, item, at_end_of_text}
use Rattle.ir_text.specs.Late.{late_fault}
use Rattle.ir_text.specs.Read.{text_limit, start_in, module_of, IsText}
use Rattle.ir_text.specs.declared.read_fault.ReadFault.{ReadFault}
use Rattle.ir_text.specs.declared.read_fault.ReadFault.TheVariants as shown
use Rattle.name_text.specs.Readings.{AreBytes}
use Rattle.ir_print_law.specs.Definitions.{defined_structs, defined_globals, declared_functions, defined_functions}
use Rattle.ir_print_law.specs.Wholes.{IsWhole}
use Rattle.ir_print_law.specs.Places.{moved, AreRight}

-- the last of these tokens is a brace that closes
abbrev pub IsClosed : List Token → Type 0
IsClosed [] = ⊥
IsClosed (t ∷ []) = t.kind ≡ k.CloseBrace
IsClosed (t ∷ u ∷ ts) = IsClosed (u ∷ ts)

-- what a global name means in this table
abbrev pub sort_named : (name : Text) → Table SymbolSort → Option SymbolSort
sort_named name t = option_and_then (slice_get t.sorts) (place_of name t.names)

-- each global name is that of a function, of a global or of nothing in both tables, and of something that is only declared in both or in neither
abbrev pub MeanAlike : Table SymbolSort → Table SymbolSort → Type 0
MeanAlike a b =
    (name : Text) → (is_symbol (sort_named name a) ≡ is_symbol (sort_named name b)) × (is_function (sort_named name a) ≡ is_function (sort_named name b))
    × (is_declared (sort_named name a) ≡ is_declared (sort_named name b))

-- the global names of a module, where neither this function nor one after it is defined so far
abbrev pub symbols_before : Module → (func : ℕ) → Table SymbolSort
symbols_before m func = record { names = m.symbols; sorts = sorts_before func m.sorts }

-- The text `code` is that of one function, from its first token to its brace. It stands in a whole text as this function of the module.
-- The reading of the whole text is in the first state before it, and in the second after it. Before it each global name means
-- what it means in the module before this function, and each name that is used up to there means in the module what it is used for.
pub record StandsBetween (m : Module) (func : ℕ) (code : Text) (before after : Input) : Type 0 where
  pub front : Text
  pub rest : Text
  pub text : before.cursor.text ≡ front ++ (code ++ rest)
  pub own : Lexed
  pub lexed : IsLexed code own
  pub good : own.bad ≡ None
  pub closed : IsClosed own.tokens
  pub tail : List Token
  pub tokens : before.cursor.rest ≡ map (moved (length front)) own.tokens ++ tail
  pub over : after.cursor.rest ≡ tail
  pub read : (named_head func (name_of m func) >>= body_after).says before tt after
  pub no_locals : before.locals ≡ empty
  pub no_uses : before.local_uses ≡ []
  pub no_values : before.values ≡ 0
  pub no_numbers : before.unnamed ≡ 0
  pub counted : length before.symbols.sorts ≡ length before.symbols.names
  pub means : MeanAlike before.symbols (symbols_before m func)
  pub none_missing : after.missing ≡ None
  pub right : AreRight m after
  pub forms : before.wide ≡ m.wide
  pub place : before.cursor.wide ≡ m.wide

-- the tables of the module have no room for more, or have pointers of another kind
abbrev pub IsOfTables : ReadFault → Type 0
IsOfTables (shown.Limit place) = Unit {0}
IsOfTables (shown.OtherPointer place) = Unit {0}
IsOfTables _ = ⊥

-- Where a text stands in a whole text as a function of the module, it is read as that function alone. Otherwise it is refused for the tables
-- of the module, which may mention more than the whole text does.
abbrev pub AreReadAnew : Type 0
AreReadAnew = (m : Module) (func : ℕ) (code : Text) (before after : Input) → length m.sorts ≡ length m.symbols → length code ≤ text_limit → StandsBetween m func code before after
    → ((n : Module) × IsReplaced m func code n) ⊎ ((e : ReadFault) × IsOfTables e × IsReplaceFault m func code e)

-- ---- in a whole text that is read as a module

-- The whole text is read as this module. Reading is in the first state before one of its functions, and in the second after it.
pub record ReadsPast (whole : Text) (n : Module) (before after : Input) : Type 0 where
  pub lexed : Lexed
  pub is_lexed : IsLexed whole lexed
  pub earlier : List (Unit {0})
  pub comes : Before at_end_of_text item.says (start_in n.wide whole lexed) earlier before
  pub begins : sees k.Define before.cursor ≡ true
  pub function : definition.says before tt after
  pub later : List (Unit {0})
  pub end : Input
  pub goes_on : Listed at_end_of_text item.says after later end
  pub no_bad : end.cursor.bad ≡ None
  pub none_late : late_fault end ≡ None
  pub is : module_of end ≡ n

-- The text `code` is that of one function, from its first token to its brace. It stands in the whole text as the function of the second
-- module with this number, and all globals and declared functions stand before it.
pub record StandsIn (func : ℕ) (code whole : Text) (n : Module) : Type 0 where
  pub before : Input
  pub after : Input
  pub passes : ReadsPast whole n before after
  pub front : Text
  pub rest : Text
  pub text : whole ≡ front ++ (code ++ rest)
  pub within : before.cursor.text ≡ whole
  pub own : Lexed
  pub lexed : IsLexed code own
  pub good : own.bad ≡ None
  pub closed : IsClosed own.tokens
  pub tail : List Token
  pub tokens : before.cursor.rest ≡ map (moved (length front)) own.tokens ++ tail
  pub over : after.cursor.rest ≡ tail
  pub globals : length before.globals ≡ length n.globals
  pub declares : length before.declares ≡ length n.declares
  pub functions : length before.functions ≡ func

-- both modules have the same names of structs, globals and functions, each in the same order
pub record HaveSameNames (m n : Module) : Type 0 where
  pub structs : defined_structs n ≡ defined_structs m
  pub globals : defined_globals n ≡ defined_globals m
  pub declares : declared_functions n ≡ declared_functions m
  pub functions : defined_functions n ≡ defined_functions m
  pub forms : n.wide ≡ m.wide

-- each global name of the module has its meaning beside it
abbrev pub IsCounted : Module → Type 0
IsCounted m = length m.sorts ≡ length m.symbols

-- so it is in each module that is read
abbrev pub AreCounted : Type 0
AreCounted = (bytes : Text) (m : Module) → AreBytes bytes → IsText bytes m → IsCounted m

-- and where a function of a whole module is replaced
abbrev pub StayCounted : Type 0
StayCounted = (m : Module) (func : ℕ) (bytes : Text) (n : Module) → IsWhole m → func < length m.functions → AreBytes bytes → IsReplaced m func bytes n → IsCounted m → IsCounted n

-- Take a whole text that is read as some module. Take another module with the same names, which is whole. The text of a function of the first
-- one, as it stands in the whole text, is read alone as that function of the other one. Otherwise it is refused for the tables of that module.
abbrev pub AreReadAlone : Type 0
AreReadAlone = (m : Module) (func : ℕ) (code whole : Text) (n : Module) → IsWhole m → IsCounted m → AreBytes whole → length whole ≤ text_limit → HaveSameNames m n → StandsIn func code whole n
    → ((o : Module) × IsReplaced m func code o) ⊎ ((e : ReadFault) × IsOfTables e × IsReplaceFault m func code e)
