-- What the words of a trace name.
use Rattle.std.specs.Prelude.{ℕ, nat_lt, if◌then◌else◌, ◌∷◌, Option, Some, None, length}
use Rattle.ir_ast.specs.Names.{place_of}
use Rattle.ir_ast.specs.declared.module.Module.{Module}
use Rattle.ir_ast.specs.declared.items_of_module.SymbolSort.{SymbolSort}
use Rattle.ir_ast.specs.declared.items_of_module.SymbolSort.TheVariants as sort
pub use Rattle.types.specs.Globals.{sort_at}
pub use Rattle.types.specs.References.{struct_at}
use Rattle.ir_tokens.specs.Bytes.{Text}
use Rattle.name_text.specs.Naming.{name_in}
use Rattle.name_text.specs.declared.naming.Sigil.TheVariants as sigil

-- ---- functions

-- the defined function that a symbol of this sort is, one that is there
abbrev pub function_by : Module → Option SymbolSort → Option ℕ
function_by m (Some (sort.Defined function)) = if nat_lt function (length m.functions) then Some function else None
function_by m _ = None

-- the defined function of this name
abbrev pub function_named : Module → Option Text → Option ℕ
function_named m None = None
function_named m (Some name) = function_by m (sort_at m (place_of name m.symbols))

-- the defined function that a word names
abbrev pub function_of_word : Module → (word : Text) → Option ℕ
function_of_word m word = function_named m (name_in sigil.Global word)

-- ---- layouts

-- the layout of this name
abbrev pub layout_named : Module → Option Text → Option ℕ
layout_named m None = None
layout_named m (Some name) = struct_at m (place_of name m.struct_names)

-- the layout whose type's name, without its sign, a word is
abbrev pub layout_of_word : Module → (word : Text) → Option ℕ
layout_of_word m word = layout_named m (name_in sigil.Layout (37 ∷ word))
