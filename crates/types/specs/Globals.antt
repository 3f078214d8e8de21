-- Globals, by the names under which instructions use them.
use Rattle.std.specs.Prelude.{ℕ, Bool, Option, Some, None, slice_get}
use Rattle.ir_ast.specs.declared.items_of_module.Global.{Global as AGlobal}
use Rattle.ir_ast.specs.declared.items_of_module.SymbolSort.{SymbolSort}
use Rattle.ir_ast.specs.declared.items_of_module.SymbolSort.TheVariants.{Global}
use Rattle.ir_ast.specs.declared.module.Module.{Module}
use Rattle.types.specs.ValueTypes.{points_to}

-- what a global name with this number means, if it is there
abbrev pub sort_at : Module → Option ℕ → Option SymbolSort
sort_at m None = None
sort_at m (Some symbol) = slice_get m.sorts symbol

-- the number of the global that a name of this sort is
abbrev pub global_of_sort : Option SymbolSort → Option ℕ
global_of_sort (Some (Global g)) = Some g
global_of_sort _ = None

-- the number of the global that a global name names
abbrev pub global_named : Module → (symbol : ℕ) → Option ℕ
global_named m symbol = global_of_sort (slice_get m.sorts symbol)

-- the type of what a global holds
abbrev pub held_in : Option AGlobal → Option ℕ
held_in None = None
held_in (Some global) = Some global.held

-- the same by the global's number
abbrev pub held_by : Module → (global : Option ℕ) → Option ℕ
held_by m None = None
held_by m (Some g) = held_in (slice_get m.globals g)

-- the type of what the global of this name holds
abbrev pub global_held : Module → (symbol : ℕ) → Option ℕ
global_held m symbol = held_by m (global_named m symbol)

-- a written type is that of pointers to what the global of this name holds
abbrev pub points_to_global : Module → (written symbol : ℕ) → Bool
points_to_global m written symbol = points_to m written (global_held m symbol)
