-- How keys, and names with their signs, are printed.
use Rattle.std.specs.Prelude.{ℕ, List, ◌∷◌}
use Rattle.ir_ast.specs.declared.module.Module.{Module}
use Rattle.ir_tokens.specs.Bytes.{Text}
use Rattle.name_text.specs.Names as names
use Rattle.name_text.specs.declared.blank.Blank.TheVariants as blank
pub use Rattle.ir_ast.specs.Names.{name_at}

-- what has this key: the number of a value or a block without a name as it is, and otherwise the name
abbrev pub key_text : Text → Text
key_text = names.key_text blank.Kept

-- a local name with its sign
abbrev pub local_text : (locals : List Text) → (value : ℕ) → Text
local_text = names.local_text blank.Kept

-- a global name with its sign
abbrev pub global_text : Module → (symbol : ℕ) → Text
global_text = names.global_text blank.Kept

-- the name of a struct with its sign
abbrev pub struct_text : Module → (name : ℕ) → Text
struct_text m name = 37 ∷ names.name_text blank.Kept (name_at m.struct_names name)
