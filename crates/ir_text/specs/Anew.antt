-- One function of a module, read anew from a text of its own in the place of the one that is there.
use Rattle.std.specs.Prelude.{◌≡◌, ◌<◌, ◌≤◌, ◌⊎◌, ℕ, Bool, not, if◌then◌else◌, nat_lt, List, length, map, Option, Some, None, is_some, Result, Ok, Err}
use Rattle.std.specs.Str.{bytes_eq}
use Rattle.grammar.specs.Grammar.{checked, ◌>>=◌, ◌>>◌}
use Rattle.ir_tokens.specs.declared.token.Kind.TheVariants as k
use Rattle.ir_tokens.specs.declared.lexed.Lexed.{Lexed}
use Rattle.ir_tokens.specs.Tokens.{IsLexed}
use Rattle.ir_tokens.specs.Position.{position_of}
use Rattle.ir_tokens.specs.Bytes.{Text}
use Rattle.ir_ast.specs.declared.items_of_module.SymbolSort.{SymbolSort}
use Rattle.ir_ast.specs.declared.items_of_module.SymbolSort.TheVariants as symbol
use Rattle.ir_forms.specs.Cursor.{spelled, bad_here, at_end}
use Rattle.ir_forms.specs.Place.{Place}
use Rattle.ir_forms.specs.declared.fault.Fault.{Fault}
use Rattle.ir_forms.specs.declared.input.Input.{Input}
use Rattle.ir_forms.specs.Input.{Form, Outcome, start_of, unexpected, skip, sees_a}
use Rattle.copies.specs.declared.tables.Tables.{Tables}
use Rattle.ir_text.specs.declared.anew.Replacement.{Replacement}
use Rattle.ir_text.specs.declared.items_of_text.FunctionHead.{FunctionHead}
use Rattle.ir_text.specs.declared.read_fault.ReadFault.{ReadFault}
use Rattle.ir_text.specs.declared.read_fault.ReadFault.TheVariants as shown
use Rattle.ir_text.specs.ItemsOfText.{defined_result, head_after, body_after}
use Rattle.ir_text.specs.Late.{late_fault}
use Rattle.ir_text.specs.Read.{text_limit, located}

-- ---- the state before the function

-- what a global name stands for where this function is read: neither the function nor one after it is defined so far
abbrev pub sort_before : (func : ℕ) → SymbolSort → SymbolSort
sort_before func symbol.Unknown = symbol.Unknown
sort_before func (symbol.Global g) = symbol.Global g
sort_before func (symbol.Declared d) = symbol.Declared d
sort_before func (symbol.Defined f) = if nat_lt f func then symbol.Defined f else symbol.Unknown

-- the same of each name
abbrev pub sorts_before : (func : ℕ) → List SymbolSort → List SymbolSort
sorts_before func sorts = map (sort_before func) sorts

-- before the first token, where the names and types of these tables were mentioned
abbrev pub start_with : Tables → Place → Input
start_with t place = record (start_of place) {
  types = t.types;
  struct_names = record { names = t.struct_names; sorts = t.struct_of };
  symbols = record { names = t.symbols; sorts = t.sorts };
  wide = t.wide;
}

-- the tables of a module, where neither this function nor one after it is defined so far
abbrev pub tables_before : (func : ℕ) → Tables → Tables
tables_before func t = record t { sorts = sorts_before func t.sorts }

-- before the first token of this function, where the names and types of the module were mentioned
abbrev pub start_anew : Tables → (func : ℕ) → Text → Lexed → Input
start_anew t func bytes lexed = start_with (tables_before func t) (record { text = bytes; rest = lexed.tokens; bad = lexed.bad; wide = t.wide })

-- ---- the text

-- the name that stands here is this one
abbrev pub is_named : (name : Text) → Input → Bool
is_named name i = bytes_eq (spelled i.cursor) name

-- what follows the result of the function of this name
abbrev pub named_after : (func : ℕ) → (name : Text) → (returned : ℕ) → Form FunctionHead
named_after func name returned = checked (is_named name) unexpected >> head_after func returned

-- the head of the function with this number and this name
abbrev pub named_result : (func : ℕ) → (name : Text) → Form FunctionHead
named_result func name = defined_result >>= named_after func name

-- `define T @f(T %a, ..) gc "name"`, of this number and name
unfoldable pub named_head : (func : ℕ) → (name : Text) → Form FunctionHead
named_head func name = sees_a k.Define >> skip >> named_result func name

-- the text ends here, and there is no bad byte after it
unfoldable pub ends : Form (Unit {0})
ends = sees_a k.End >> checked (λ i. not (is_some (bad_here i.cursor))) (λ i. at_end i.cursor)

-- a text of one function with this number and this name
unfoldable pub anew : (func : ℕ) → (name : Text) → Form (Unit {0})
anew func name = named_head func name >>= body_after >> ends

-- ---- after the text

-- each global name stands for what it stands for in the module
abbrev pub with_sorts : List SymbolSort → Input → Input
with_sorts sorts i = record i { symbols = record { names = i.symbols.names; sorts = sorts } }

-- the first fault of a name, where each function is defined
abbrev pub late_anew : Tables → Input → Option Fault
late_anew t o = late_fault (with_sorts t.sorts o)

-- the functions that were read, with the tables after them
abbrev pub replacement_of : Input → Replacement
replacement_of o = record {
  tables = record {
    types = o.types;
    struct_names = o.struct_names.names;
    struct_of = o.struct_names.sorts;
    symbols = o.symbols.names;
    sorts = o.symbols.sorts;
    wide = o.wide;
  };
  functions = o.functions;
}

-- what was read: the function, and the names and types of the module with those that its text adds
abbrev pub anew_of : Tables → Input → Replacement
anew_of t o = replacement_of (with_sorts t.sorts o)

-- ---- what a text is

-- the tokens are one function, the names are defined, and this is what was read
abbrev pub IsReadAnew : Tables → (func : ℕ) → (name : Text) → Input → Replacement → Type 0
IsReadAnew t func name i a = (o : Input) × (anew func name).says i tt o × (late_anew t o ≡ None) × (anew_of t o ≡ a)

-- The bytes are a text of this function of the module.
abbrev pub IsTextAnew : Tables → (func : ℕ) → (name : Text) → Text → Replacement → Type 0
IsTextAnew t func name bytes a = (length bytes ≤ text_limit) × (lexed : Lexed) × IsLexed bytes lexed × IsReadAnew t func name (start_anew t func bytes lexed) a

-- a form breaks at this fault; or no form does, and a name has it
abbrev pub FailsAnew : Tables → (func : ℕ) → (name : Text) → Input → Fault → Type 0
FailsAnew t func name i e = (anew func name).stuck i e ⊎ ((o : Input) × (anew func name).says i tt o × (late_anew t o ≡ Some e))

-- the tokens of the bytes fail by this fault
abbrev pub FailsAnewBy : Tables → (func : ℕ) → (name : Text) → Text → Lexed → ReadFault → Type 0
FailsAnewBy t func name bytes lexed e = (f : Fault) × FailsAnew t func name (start_anew t func bytes lexed) f × (located bytes f ≡ e)

-- The bytes have this fault first: they are too long; or else they fail there.
abbrev pub IsFaultAnew : Tables → (func : ℕ) → (name : Text) → Text → ReadFault → Type 0
IsFaultAnew t func name bytes e =
    ((text_limit < length bytes) × (shown.Limit (position_of bytes text_limit) ≡ e))
    ⊎ ((length bytes ≤ text_limit) × (lexed : Lexed) × IsLexed bytes lexed × FailsAnewBy t func name bytes lexed e)

-- ---- reading

-- what was read, if no name has a fault
abbrev pub judged_anew : Tables → Text → Input → Option Fault → Result Replacement ReadFault
judged_anew t bytes o None = Ok (anew_of t o)
judged_anew t bytes o (Some f) = Err (located bytes f)

-- what comes of reading the tokens, judged by the names
abbrev pub answered_anew : Tables → Text → Outcome (Unit {0}) → Result Replacement ReadFault
answered_anew t bytes (Ok p) = judged_anew t bytes p.1 (late_anew t p.1)
answered_anew t bytes (Err f) = Err (located bytes f)

-- what reading the tokens of a text gives
unfoldable pub read_anew : Tables → (func : ℕ) → (name : Text) → Text → Lexed → Result Replacement ReadFault
read_anew t func name bytes lexed = answered_anew t bytes ((anew func name).read (start_anew t func bytes lexed))
