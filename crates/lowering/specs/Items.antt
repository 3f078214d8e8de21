-- How items are lowered.
use Rattle.std.specs.Prelude.{ℕ, Bool, true, false, if◌then◌else◌, List, [], ◌∷◌, ◌++◌, Option, Some, None, slice_get, codes}
use Rattle.std.specs.List.{flat_map}
use Rattle.std.specs.Fmt.{decimal}
use Rattle.ir_ast.specs.Floats.{float_word}
use Rattle.ir_ast.specs.declared.block.Block.{Block}
use Rattle.ir_ast.specs.declared.function.Function.{Function}
use Rattle.ir_ast.specs.declared.items_of_module.Declare.{Declare}
use Rattle.ir_ast.specs.declared.items_of_module.Global.{Global}
use Rattle.ir_ast.specs.declared.items_of_module.StructType.{StructType}
use Rattle.ir_ast.specs.declared.ir_type.IrType.{IrType}
use Rattle.ir_ast.specs.declared.module.Module.{Module}
use Rattle.ir_ast.specs.declared.operand.Constant.{Constant}
use Rattle.ir_ast.specs.declared.operand.Constant.TheVariants as constant
use Rattle.ir_ast.specs.declared.runtime.Runtime.{Runtime}
use Rattle.ir_ast.specs.declared.runtime.Runtime.TheVariants.{Integer, Float}
use Rattle.ir_tokens.specs.Bytes.{Text}
use Rattle.ir_print.specs.Choices.{phi_line}
use Rattle.ir_print.specs.Items.{collector_text, declare_line, parameter_text}
use Rattle.ir_print.specs.Names.{name_at, key_text, global_text, struct_text}
use Rattle.ir_print.specs.Operands.{listed}
use Rattle.ir_print.specs.Types.{type_text}
use Rattle.shadow_stack.specs.Slots.{SlotTable, slots_of}
use Rattle.machine.specs.Kinds.{is_integer, bits_of, wrapped}
use Rattle.lowering.specs.Ends.{end_text}
use Rattle.lowering.specs.Instructions.{body_text}
use Rattle.lowering.specs.Types.{words_text}

-- `%N = type { T, .. }`, in words
abbrev pub struct_line : Module → StructType → Text
struct_line m struct = struct_text m struct.name ++ codes " = type " ++ words_text m struct.body ++ 10 ∷ []

-- the number that a word begins with, where what it holds has this number of bits; of a floating point number its bits
abbrev pub first_number : (bits : ℕ) → Constant → ℕ
first_number bits (constant.Number number) = number
first_number bits (constant.Float number) = wrapped bits (float_word bits number)
first_number bits constant.Null = 0
first_number bits (constant.Truth truth) = if truth then 1 else 0

-- what is before the number that a word begins with
unfoldable pub integer_word : Text
integer_word = codes " = global i64 "

-- a global that begins with null
unfoldable pub null_word : Text
null_word = codes " = global ptr null"

-- how the line of a global ends
unfoldable pub aligned_word : Text
aligned_word = codes ", align 8\n"

-- what a global begins with: a number of this number of bits as a word, or null
abbrev pub word_by : (is_number : Bool) → (bits : ℕ) → Constant → Text
word_by true bits initial = integer_word ++ decimal (first_number bits initial)
word_by false bits initial = null_word

-- the same, by the type of what it holds
unfoldable pub word_text : Option IrType → Constant → Text
word_text shown initial = word_by (is_integer shown) (bits_of shown) initial

-- the line of a global
abbrev pub global_line : Module → Global → Text
global_line m global = global_text m global.symbol ++ word_text (slice_get m.types global.held) global.initial ++ aligned_word

-- the line of a declared function that is none of the runtime; functions of numbers are LLVM's
abbrev pub foreign_line : Module → Declare → Option Runtime → Text
foreign_line m declared None = declare_line m declared
foreign_line m declared (Some (Integer function bits)) = declare_line m declared
foreign_line m declared (Some (Float function bits)) = declare_line m declared
foreign_line m declared (Some runtime) = []

-- the same, by what the function is
abbrev pub declared_line : Module → Declare → Text
declared_line m declared = foreign_line m declared declared.runtime

-- `T @f(T %a, ..`
abbrev pub signature_text : Module → Function → Text
signature_text m function = type_text m function.returned ++ 32 ∷ global_text m function.symbol ++ 40 ∷ listed (parameter_text m function.locals) function.parameters

-- the line of a function's head
abbrev pub head_line : Module → Function → Text
head_line m function = codes "define " ++ signature_text m function ++ codes ") nounwind \"no-builtins\"" ++ collector_text function.collector ++ codes " {\n"

-- the line of a label
abbrev pub label_line : (locals : List Text) → Block → Text
label_line locals block = key_text (name_at locals block.label) ++ codes ":\n"

-- a block: the line of its label, its phis, its body and its end
abbrev pub block_text : (recorded : Bool) → Module → (locals : List Text) → SlotTable → Block → Text
block_text recorded m locals slots block =
    label_line locals block ++ flat_map (phi_line m locals) block.phis ++ body_text recorded m locals slots block.label 0 block.body
    ++ end_text recorded m locals block.end

-- the blocks of a function
abbrev pub blocks_text : (recorded : Bool) → Module → Function → Text
blocks_text recorded m function = flat_map (block_text recorded m function.locals (slots_of m function)) function.blocks

-- a defined function
unfoldable pub function_text : (recorded : Bool) → Module → Function → Text
function_text recorded m function = head_line m function ++ blocks_text recorded m function ++ codes "}\n"
