-- How items are printed.
use Rattle.std.specs.Prelude.{Bool, if◌then◌else◌, List, [], ◌∷◌, ◌++◌, Option, Some, None, codes}
use Rattle.std.specs.List.{flat_map}
use Rattle.ir_ast.specs.declared.function.Function.{Function}
use Rattle.ir_ast.specs.declared.function.Parameter.{Parameter}
use Rattle.ir_ast.specs.declared.items_of_module.Declare.{Declare}
use Rattle.ir_ast.specs.declared.items_of_module.Global.{Global}
use Rattle.ir_ast.specs.declared.items_of_module.StructType.{StructType}
use Rattle.ir_ast.specs.declared.module.Module.{Module}
use Rattle.ir_tokens.specs.Bytes.{Text}
use Rattle.name_text.specs.Names.{quoted_text}
use Rattle.name_text.specs.declared.blank.Blank.TheVariants as blank
use Rattle.ir_print.specs.Names.{local_text, global_text, struct_text}
use Rattle.ir_print.specs.Types.{type_text}
use Rattle.ir_print.specs.Operands.{constant_text, listed}
use Rattle.ir_print.specs.Blocks.{block_text}

-- `%N = type { T, .. }`
abbrev pub struct_line : Module → StructType → Text
struct_line m struct = struct_text m struct.name ++ codes " = type " ++ type_text m struct.body ++ 10 ∷ []

-- the word of a global
abbrev pub global_word : (is_constant : Bool) → Text
global_word is_constant = if is_constant then codes " = constant " else codes " = global "

-- `@g = global T c`
abbrev pub global_line : Module → Global → Text
global_line m global = global_text m global.symbol ++ global_word global.is_constant ++ type_text m global.held ++ 32 ∷ constant_text m global.held global.initial ++ 10 ∷ []

-- `declare T @f(T, ..)`
abbrev pub declare_line : Module → Declare → Text
declare_line m declared =
    codes "declare " ++ type_text m declared.returned ++ 32 ∷ global_text m declared.symbol ++ 40 ∷ listed (type_text m) declared.parameters ++ codes ")\n"

-- `T %a`
abbrev pub parameter_text : Module → (locals : List Text) → Parameter → Text
parameter_text m locals parameter = type_text m parameter.written ++ 32 ∷ local_text locals parameter.value

-- `gc "name"`, if the function has a collector, after a blank
abbrev pub collector_text : Option Text → Text
collector_text None = []
collector_text (Some name) = codes " gc " ++ quoted_text blank.Kept name

-- `define T @f(T %a, ..) gc "name" {`, and the end of the line
abbrev pub head_line : Module → Function → Text
head_line m function =
    codes "define " ++ type_text m function.returned ++ 32 ∷ global_text m function.symbol
    ++ 40 ∷ listed (parameter_text m function.locals) function.parameters ++ 41 ∷ collector_text function.collector ++ codes " {\n"

-- a defined function: the line of its head, its blocks, and the brace that closes
abbrev pub function_text : Module → Function → Text
function_text m function = head_line m function ++ flat_map (block_text m function.locals) function.blocks ++ codes "}\n"

-- the text of a module: struct types, globals, declared functions, and then those that are defined
abbrev pub text_of : Module → Text
text_of m = flat_map (struct_line m) m.structs ++ flat_map (global_line m) m.globals ++ flat_map (declare_line m) m.declares ++ flat_map (function_text m) m.functions
