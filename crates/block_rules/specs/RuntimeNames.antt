-- The function of the runtime that a name of the module means.
use Rattle.std.specs.Prelude.{ℕ, List, Option, Some, None}
use Rattle.ir_ast.specs.declared.runtime.Runtime.{Runtime}
use Rattle.ir_ast.specs.RuntimeNames.{runtime_of}

-- the function of the runtime that has this name of the module, if there is one
abbrev pub runtime_named : Option (List ℕ) → Option Runtime
runtime_named None = None
runtime_named (Some name) = runtime_of name
