-- A module in which one function is replaced.
use Rattle.std.specs.Prelude.{◌≡◌, ℕ, List, [], slice_get, slice_set, Option, Some, None}
use Rattle.ir_tokens.specs.Bytes.{Text}
use Rattle.ir_ast.specs.Names.{name_at}
use Rattle.ir_ast.specs.declared.function.Function.{Function}
use Rattle.ir_ast.specs.declared.module.Module.{Module}
use Rattle.copies.specs.Tables.{tables_of}
use Rattle.ir_text.specs.Anew.{IsTextAnew, IsFaultAnew}
use Rattle.ir_text.specs.declared.anew.Replacement.{Replacement}
use Rattle.copies.specs.declared.tables.Tables.{Tables}
use Rattle.ir_text.specs.declared.read_fault.ReadFault.{ReadFault}

-- the name of a function, if there is one
abbrev pub name_in : Module → Option Function → Text
name_in m None = []
name_in m (Some f) = name_at m.symbols f.symbol

-- the name of the function with this number
abbrev pub name_of : Module → (func : ℕ) → Text
name_of m func = name_in m (slice_get m.functions func)

-- with this function in the place of the one with this number, if there is one
abbrev pub put_function : (func : ℕ) → Option Function → List Function → List Function
put_function func None functions = functions
put_function func (Some f) functions = slice_set functions func f

-- the module with these tables and this function
abbrev pub with_parts : Module → (func : ℕ) → Tables → Option Function → Module
with_parts m func t f = record m {
  types = t.types;
  struct_names = t.struct_names;
  struct_of = t.struct_of;
  symbols = t.symbols;
  sorts = t.sorts;
  functions = put_function func f m.functions;
}

-- the module with the function that was read, and with the tables that its text left
abbrev pub with_replacement : Module → (func : ℕ) → Replacement → Module
with_replacement m func a = with_parts m func a.tables (slice_get a.functions 0)

-- the text is one of this function, and with it in the old one's place it is this module
abbrev pub IsReplaced : Module → (func : ℕ) → Text → Module → Type 0
IsReplaced m func bytes n = (a : Replacement) × IsTextAnew (tables_of m) func (name_of m func) bytes a × (with_replacement m func a ≡ n)

-- the text has this fault first, as one of this function
abbrev pub IsReplaceFault : Module → (func : ℕ) → Text → ReadFault → Type 0
IsReplaceFault m func bytes e = IsFaultAnew (tables_of m) func (name_of m func) bytes e
