-- The text of one function as a part of a whole text.
use Rattle.std.specs.Prelude.{◌≡◌, ◌+◌, ◌≤◌, ℕ, true, Option, Some, length, slice_get, option_and_then}
use Rattle.lemmas.specs.Lists.{IsIn}
use Rattle.ir_ast.specs.Names.{place_of}
use Rattle.ir_ast.specs.declared.items_of_module.SymbolSort.{SymbolSort}
use Rattle.ir_ast.specs.declared.module.Module.{Module}
use Rattle.ir_tokens.specs.Bytes.{Text}
use Rattle.ir_tokens.specs.declared.token.Token.{Token}
use Rattle.ir_forms.specs.declared.fault.Fault.{Fault}
use Rattle.ir_forms.specs.declared.fault.Fault.TheVariants as fault
use Rattle.ir_forms.specs.declared.input.Input.{Input}
use Rattle.ir_forms.specs.declared.uses.StructUse.{StructUse}
use Rattle.ir_forms.specs.declared.uses.SymbolUse.{SymbolUse}
use Rattle.ir_text.specs.Late.{may_use, is_struct}

-- a token of a text that begins at this place of a whole text, as one of that
abbrev pub moved : (far : ℕ) → Token → Token
moved far t = record t { start = t.start + far }

-- the token lies within the text
abbrev pub IsWithin : Text → Token → Type 0
IsWithin code t = t.start + t.length ≤ length code

-- the tables have no room for more, or the tables of the module have pointers of another kind
abbrev pub IsExcuse : Fault → Type 0
IsExcuse (fault.Limit place) = Unit {0}
IsExcuse (fault.OtherPointer place) = Unit {0}
IsExcuse _ = ⊥

-- ---- what names mean

-- what a global name means in a module
abbrev pub symbol_in : Module → (name : Text) → Option SymbolSort
symbol_in m name = option_and_then (slice_get m.sorts) (place_of name m.symbols)

-- what the name of a struct means there
abbrev pub struct_in : Module → (name : Text) → Option (Option ℕ)
struct_in m name = option_and_then (slice_get m.struct_of) (place_of name m.struct_names)

-- Each name that was used so far means in the module what it is used for.
pub record AreRight (m : Module) (o : Input) : Type 0 where
  pub symbols : (name : Text) (u : SymbolUse) → IsIn u o.symbol_uses → place_of name o.symbols.names ≡ Some u.symbol → may_use o.wide u.is_call (symbol_in m name) name ≡ true
  pub structs : (name : Text) (u : StructUse) → IsIn u o.struct_uses → place_of name o.struct_names.names ≡ Some u.name → is_struct (struct_in m name) ≡ true
