-- Functions by their names.
use Rattle.std.specs.Prelude.{ℕ, nat_lt, if◌then◌else◌, length, slice_get, Option, Some, None}
use Rattle.ir_ast.specs.Names.{place_of}
use Rattle.ir_ast.specs.declared.module.Module.{Module}
use Rattle.ir_tokens.specs.Bytes.{Text}
use Rattle.answers.specs.Local.{function_of_sort}

-- the function that a global name stands for, by the number of the name
abbrev pub defined_as : Module → (symbol : ℕ) → Option ℕ
defined_as m symbol = function_of_sort (slice_get m.sorts symbol)

-- the number of a function, if the module has a function of that number
abbrev pub if_there : Module → Option ℕ → Option ℕ
if_there m None = None
if_there m (Some func) = if nat_lt func (length m.functions) then Some func else None

-- the function that a global name stands for, if there is a name
abbrev pub defined_by : Module → (symbol : Option ℕ) → Option ℕ
defined_by m None = None
defined_by m (Some symbol) = if_there m (defined_as m symbol)

-- the function of this name, which is written without its `@`
abbrev pub function_named : Module → (name : Text) → Option ℕ
function_named m name = defined_by m (place_of name m.symbols)
