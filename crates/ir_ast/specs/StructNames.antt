-- The names of named structs.
use Rattle.std.specs.Prelude.{ℕ, List, [], Option, Some, None}
use Rattle.ir_ast.specs.Names.{name_at}
use Rattle.ir_ast.specs.declared.items_of_module.StructType.{StructType}
use Rattle.ir_ast.specs.declared.module.Module.{Module}

-- the name of a struct, if there is one
abbrev pub struct_name : Module → Option StructType → List ℕ
struct_name m None = []
struct_name m (Some struct) = name_at m.struct_names struct.name
