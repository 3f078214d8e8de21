-- Names as they are printed.
use Rattle.std.specs.Prelude.{ℕ}
use Rattle.ir_ast.specs.declared.function.Function.{Function}
use Rattle.ir_ast.specs.declared.module.Module.{Module}
use Rattle.ir_tokens.specs.Bytes.{Text}
use Rattle.name_text.specs.Names as names
use Rattle.name_text.specs.declared.blank.Blank.TheVariants as blank

-- a name, in quotes where it is not plain
abbrev pub name_text : Text → Text
name_text = names.name_text blank.Kept

-- what has this key: the number of a value or a block without a name as it is, and otherwise the name
abbrev pub key_text : Text → Text
key_text = names.key_text blank.Kept

-- a local name with its sign
abbrev pub local_text : Function → (value : ℕ) → Text
local_text f value = names.local_text blank.Kept f.locals value

-- a global name with its sign
abbrev pub global_text : Module → (symbol : ℕ) → Text
global_text = names.global_text blank.Kept

-- the name of a layout's type, without its sign
abbrev pub layout_text : Module → (layout : ℕ) → Text
layout_text = names.layout_text blank.Kept
