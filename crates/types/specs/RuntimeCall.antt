-- The functions of the runtime, and those outside of a module, by the names that it declares.
use Rattle.std.specs.Prelude.{ℕ, Bool, false, Option, Some, None, is_none, slice_get}
use Rattle.ir_ast.specs.declared.module.Module.{Module}
use Rattle.ir_ast.specs.declared.items_of_module.SymbolSort.{SymbolSort}
use Rattle.ir_ast.specs.declared.items_of_module.SymbolSort.TheVariants.{Unknown, Global, Declared, Defined}
use Rattle.ir_ast.specs.declared.items_of_module.Declare.{Declare}
use Rattle.ir_ast.specs.declared.runtime.Runtime.{Runtime}

-- the function of the runtime that a declared function is
abbrev pub runtime_of_declare : Option Declare → Option Runtime
runtime_of_declare None = None
runtime_of_declare (Some declared) = declared.runtime

-- the function of the runtime that a name of this sort is
abbrev pub runtime_of_sort : Module → Option SymbolSort → Option Runtime
runtime_of_sort m None = None
runtime_of_sort m (Some Unknown) = None
runtime_of_sort m (Some (Global g)) = None
runtime_of_sort m (Some (Declared d)) = runtime_of_declare (slice_get m.declares d)
runtime_of_sort m (Some (Defined f)) = None

-- the function of the runtime, or the intrinsic, that a global name is declared as
abbrev pub runtime_called : Module → (callee : ℕ) → Option Runtime
runtime_called m callee = runtime_of_sort m (slice_get m.sorts callee)

-- a function is only declared, and is none of the runtime and no intrinsic
abbrev pub is_outside_declare : Option Declare → Bool
is_outside_declare None = false
is_outside_declare (Some declared) = is_none declared.runtime

-- the same by what a name is
abbrev pub is_outside_sort : Module → Option SymbolSort → Bool
is_outside_sort m (Some (Declared d)) = is_outside_declare (slice_get m.declares d)
is_outside_sort m _ = false

-- and by the name
abbrev pub is_outside : Module → (symbol : ℕ) → Bool
is_outside m symbol = is_outside_sort m (slice_get m.sorts symbol)
