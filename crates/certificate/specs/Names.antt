-- What the words of a certificate name.
use Rattle.std.specs.Prelude.{ℕ, if◌then◌else◌, ◌∷◌, Option, Some, None, slice_get}
use Rattle.ir_ast.specs.Names.{place_of}
use Rattle.ir_ast.specs.declared.function.Function.{Function}
use Rattle.ir_ast.specs.declared.function.LocalSort.{LocalSort}
use Rattle.ir_ast.specs.declared.function.LocalSort.TheVariants as local
use Rattle.ir_ast.specs.declared.module.Module.{Module}
use Rattle.ir_ast.specs.declared.items_of_module.SymbolSort.{SymbolSort}
use Rattle.ir_ast.specs.declared.items_of_module.SymbolSort.TheVariants as sort
use Rattle.types.specs.Globals.{global_named}
use Rattle.types.specs.RuntimeCall.{is_outside}
pub use Rattle.types.specs.Globals.{sort_at}
pub use Rattle.types.specs.References.{struct_at}
use Rattle.ir_tokens.specs.Bytes.{Text}
use Rattle.certificate.specs.declared.naming.Naming.{Naming}
use Rattle.certificate.specs.declared.naming.Naming.TheVariants.{NoName, Unknown, Named}
use Rattle.name_text.specs.Naming.{name_in}
use Rattle.name_text.specs.declared.naming.Sigil.TheVariants as sigil

-- ---- global names

-- what a symbol of this sort names
abbrev pub function_by : Option SymbolSort → Naming
function_by (Some (sort.Defined function)) = Named function
function_by _ = Unknown

-- the defined function of this name
abbrev pub function_named : Module → Option Text → Naming
function_named m None = NoName
function_named m (Some name) = function_by (sort_at m (place_of name m.symbols))

-- what a word of a certificate names
abbrev pub function_of_word : Module → (word : Text) → Naming
function_of_word m word = function_named m (name_in sigil.Global word)

-- a symbol, where it is a global's
abbrev pub global_by : (symbol : ℕ) → (global : Option ℕ) → Naming
global_by symbol None = Unknown
global_by symbol (Some global) = Named symbol

-- the symbol with this number, if it is a global's
abbrev pub global_at : Module → Option ℕ → Naming
global_at m None = Unknown
global_at m (Some symbol) = global_by symbol (global_named m symbol)

-- the symbol of the global of this name
abbrev pub global_of_name : Module → Option Text → Naming
global_of_name m None = NoName
global_of_name m (Some name) = global_at m (place_of name m.symbols)

-- the symbol of the global that a word names
abbrev pub global_of_word : Module → (word : Text) → Naming
global_of_word m word = global_of_name m (name_in sigil.Global word)

-- the symbol with this number, if it is that of a function outside
abbrev pub outside_at : Module → Option ℕ → Naming
outside_at m None = Unknown
outside_at m (Some symbol) = if is_outside m symbol then Named symbol else Unknown

-- the symbol of the function outside of this name
abbrev pub outside_of_name : Module → Option Text → Naming
outside_of_name m None = NoName
outside_of_name m (Some name) = outside_at m (place_of name m.symbols)

-- the symbol of the function outside that a word names
abbrev pub outside_of_word : Module → (word : Text) → Naming
outside_of_word m word = outside_of_name m (name_in sigil.Global word)

-- ---- local names

-- the sort of a local name, if there is one
abbrev pub local_at : Function → Option ℕ → Option LocalSort
local_at f None = None
local_at f (Some value) = slice_get f.sorts value

-- a parameter or an instruction's value
abbrev pub value_by : Option ℕ → Option LocalSort → Naming
value_by (Some value) (Some (local.Value written)) = Named value
value_by (Some value) (Some (local.Slot held)) = Named value
value_by (Some value) (Some (local.Element block place)) = Named value
value_by _ _ = Unknown

-- the value with this number, if it is one
abbrev pub value_at : Function → Option ℕ → Naming
value_at f place = value_by place (local_at f place)

-- the value of this key
abbrev pub value_named : Function → Option Text → Naming
value_named f None = NoName
value_named f (Some name) = value_at f (place_of name f.locals)

-- the value that a word names
abbrev pub value_of_word : Function → (word : Text) → Naming
value_of_word f word = value_named f (name_in sigil.Local word)

-- the block that a local name of this sort is
abbrev pub block_by : Option LocalSort → Naming
block_by (Some (local.Block block)) = Named block
block_by _ = Unknown

-- the block of this key
abbrev pub block_named : Function → Option Text → Naming
block_named f None = NoName
block_named f (Some name) = block_by (local_at f (place_of name f.locals))

-- the block that a word names
abbrev pub block_of_word : Function → (word : Text) → Naming
block_of_word f word = block_named f (name_in sigil.Local word)

-- ---- layouts

-- a layout, if there is one
abbrev pub layout_by : Option ℕ → Naming
layout_by None = Unknown
layout_by (Some layout) = Named layout

-- the layout of this name
abbrev pub layout_named : Module → Option Text → Naming
layout_named m None = NoName
layout_named m (Some name) = layout_by (struct_at m (place_of name m.struct_names))

-- the layout whose type's name, without its sign, a word is
abbrev pub layout_of_word : Module → (word : Text) → Naming
layout_of_word m word = layout_named m (name_in sigil.Layout (37 ∷ word))
