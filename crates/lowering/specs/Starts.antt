-- The functions at which a thread may begin. The runtime calls each by another one, which takes an array of words and gives a word.
use Rattle.std.specs.Prelude.{ℕ, Bool, if◌then◌else◌, List, [], ◌∷◌, ◌++◌, length, filter, Option, Some, slice_get, codes}
use Rattle.std.specs.List.{list_all}
use Rattle.std.specs.Fmt.{decimal}
use Rattle.ir_ast.specs.Names.{name_at}
use Rattle.ir_ast.specs.declared.function.Function.{Function}
use Rattle.ir_ast.specs.declared.function.Parameter.{Parameter}
use Rattle.ir_ast.specs.declared.ir_type.IrType.{IrType}
use Rattle.ir_ast.specs.declared.ir_type.IrType.TheVariants.{Void, Integer, Float, Double}
use Rattle.ir_ast.specs.declared.module.Module.{Module}
use Rattle.ir_tokens.specs.Bytes.{Text}
use Rattle.ir_print.specs.Names.{global_text}
use Rattle.ir_print.specs.Types.{type_text}
use Rattle.machine.specs.Kinds.{is_integer}
use Rattle.lowering.specs.Rows.{before_row, numbered}
use Rattle.lowering.specs.Strings.{name_string}
use Rattle.lowering.specs.Tables.{counted}
use Rattle.lowering.specs.Words.{is_halved, from_word, to_word}

-- whether a parameter is a number
abbrev pub is_number_parameter : Module → Parameter → Bool
is_number_parameter m parameter = is_integer (slice_get m.types parameter.written)

-- whether a thread may begin at a function: its parameters are numbers
abbrev pub is_start : Module → Function → Bool
is_start m function = list_all (is_number_parameter m) function.parameters

-- the functions at which a thread may begin
abbrev pub starts_of : Module → List Function
starts_of m = filter (is_start m) m.functions

-- ---- the function that the runtime calls

-- the head of the function by which the start at this place is called
unfoldable pub caller_head : (place : ℕ) → Text
caller_head place = counted (codes "define private i64 @dg.start.") place (codes "(ptr %a) nounwind \"no-builtins\" {\n")

-- the lines that read the word at this place of the array
unfoldable pub argument_word : (place : ℕ) → Text
argument_word place =
    codes "  %p" ++ decimal place ++ codes " = getelementptr i64, ptr %a, i64 " ++ decimal place
    ++ codes "\n  %w" ++ decimal place ++ codes " = load i64, ptr %p" ++ decimal place ++ 10 ∷ []

-- the line that makes the lower half of that word
unfoldable pub argument_half : (place : ℕ) → Text
argument_half place = codes "  %h" ++ decimal place ++ codes " = trunc i64 %w" ++ decimal place ++ codes " to i32\n"

-- the same, where there is need of it
abbrev pub half_by : (halved : Bool) → (place : ℕ) → Text
half_by halved place = if halved then argument_half place else []

-- how the name of the word begins, or of its lower half
abbrev pub part_begin : (halved : Bool) → Text
part_begin halved = if halved then codes "%h" else codes "%w"

-- the line that makes an argument of this type of that word, or of its lower half
unfoldable pub argument_line : Module → (place written : ℕ) → Text
argument_line m place written =
    codes "  %x" ++ decimal place ++ codes " = " ++ from_word (slice_get m.types written) ++ part_begin (is_halved (slice_get m.types written)) ++ decimal place
    ++ codes " to " ++ type_text m written ++ 10 ∷ []

-- the lines that read the argument for the parameter at this place
abbrev pub argument_lines : Module → (place : ℕ) → Parameter → Text
argument_lines m place parameter =
    argument_word place ++ half_by (is_halved (slice_get m.types parameter.written)) place ++ argument_line m place parameter.written

-- this argument in the call, after what stands before it
abbrev pub given_text : Module → (place : ℕ) → Parameter → Text
given_text m place parameter = before_row place ++ type_text m parameter.written ++ codes " %x" ++ decimal place

-- the call of a start, and the end of its line
unfoldable pub start_call : Module → Function → Text
start_call m function =
    codes "call " ++ type_text m function.returned ++ 32 ∷ global_text m function.symbol ++ 40 ∷ numbered (given_text m) 0 function.parameters ++ codes ")\n"

-- how the line begins that makes a word of the value of a call, or its lower half
abbrev pub word_begin : (halved : Bool) → Text
word_begin halved = if halved then codes "  %h = " else codes "  %w = "

-- how it ends, and the lines after it
abbrev pub word_end : (halved : Bool) → Text
word_end halved = if halved then codes " %r to i32\n  %w = zext i32 %h to i64\n  ret i64 %w\n" else codes " %r to i64\n  ret i64 %w\n"

-- the lines that return the value of a call, of this type, as a word
unfoldable pub word_lines : Module → (returned : ℕ) → Text
word_lines m returned =
    word_begin (is_halved (slice_get m.types returned)) ++ to_word (slice_get m.types returned) ++ type_text m returned ++ word_end (is_halved (slice_get m.types returned))

-- the call of a start by the type of what it returns, and the word that is returned for it: 0 where it returns nothing
abbrev pub result_by : Module → Function → Option IrType → Text
result_by m function (Some Void) = codes "  " ++ start_call m function ++ codes "  ret i64 0\n"
result_by m function _ = codes "  %r = " ++ start_call m function ++ word_lines m function.returned

-- the same, by the function alone
abbrev pub result_lines : Module → Function → Text
result_lines m function = result_by m function (slice_get m.types function.returned)

-- the function by which the start at this place is called
unfoldable pub caller_text : Module → (place : ℕ) → Function → Text
caller_text m place function = caller_head place ++ numbered (argument_lines m) 0 function.parameters ++ result_lines m function ++ codes "}\n"

-- ---- the table

-- the constant that the name of the start at this place is
unfoldable pub start_label : (place : ℕ) → Text
start_label place = codes "@dg.start.name." ++ decimal place

-- the name of the start at this place, and the function by which it is called
abbrev pub start_text : Module → (place : ℕ) → Function → Text
start_text m place function = start_label place ++ name_string (name_at m.symbols function.symbol) ++ caller_text m place function

-- how a row begins: the name of the start at this place, and the function by which it is called
unfoldable pub start_names : (place : ℕ) → Text
start_names place = codes "{ ptr, ptr, i64, i64 } { ptr " ++ start_label place ++ codes ", ptr @dg.start." ++ decimal place

-- how it ends, by the type of what the start returns: 0 is nothing, 1 a number, and 2 a reference
abbrev pub result_mark : Option IrType → Text
result_mark (Some Void) = codes ", i64 0 }"
result_mark (Some (Integer bits)) = codes ", i64 1 }"
result_mark (Some Float) = codes ", i64 1 }"
result_mark (Some Double) = codes ", i64 1 }"
result_mark _ = codes ", i64 2 }"

-- the row of the start at this place, after what stands before it
abbrev pub start_row_at : Module → (place : ℕ) → Function → Text
start_row_at m place function =
    before_row place ++ start_names place ++ codes ", i64 " ++ decimal (length function.parameters) ++ result_mark (slice_get m.types function.returned)

-- how many starts there are
unfoldable pub start_count : (count : ℕ) → Text
start_count count = counted (codes "@dg_start_count = constant i64 ") count (codes "\n")

-- how the table of starts begins
unfoldable pub start_begin : (count : ℕ) → Text
start_begin count = counted (codes "@dg_starts = constant [") count (codes " x { ptr, ptr, i64, i64 }] [")

-- the starts, and their table
unfoldable pub start_table : Module → Text
start_table m = numbered (start_text m) 0 (starts_of m) ++ start_begin (length (starts_of m)) ++ numbered (start_row_at m) 0 (starts_of m) ++ codes "]\n"
