-- How a word of a cell or a global is read and stored.
use Rattle.std.specs.Prelude.{ℕ, ◌||◌, Bool, true, false, nat_lt, if◌then◌else◌, List, [], ◌∷◌, ◌++◌, Option, Some, slice_get, codes}
use Rattle.std.specs.Fmt.{decimal}
use Rattle.ir_ast.specs.declared.argument.Argument.{Argument}
use Rattle.ir_ast.specs.declared.ir_type.IrType.{IrType}
use Rattle.ir_ast.specs.declared.ir_type.IrType.TheVariants.{Integer, Float, Double}
use Rattle.ir_ast.specs.declared.module.Module.{Module}
use Rattle.ir_tokens.specs.Bytes.{Text}
use Rattle.ir_print.specs.Types.{type_text}
use Rattle.ir_print.specs.Operands.{argument_text}
use Rattle.ir_print.specs.Parts.{placed_text}
use Rattle.ir_print.specs.Instructions.{result_text}
use Rattle.lowering.specs.declared.words.Seat.{Seat}
use Rattle.lowering.specs.declared.words.Loading.{Loading}
use Rattle.lowering.specs.declared.words.Storing.{Storing}

-- the new name of the instruction at this place of the block with this label
unfoldable pub seat_text : Seat → Text
seat_text seat = codes "%dg." ++ decimal seat.label ++ 46 ∷ decimal seat.place

-- whether a type is that of a number of fewer bits than a word
abbrev pub is_narrow : Option IrType → Bool
is_narrow (Some (Integer bits)) = nat_lt bits 64
is_narrow (Some Float) = true
is_narrow _ = false

-- whether a value of a type is made of a word through its lower half, an i32
abbrev pub is_halved : Option IrType → Bool
is_halved (Some Float) = true
is_halved _ = false

-- what makes a value of a type of a word, or of its lower half
abbrev pub from_word : Option IrType → Text
from_word (Some (Integer bits)) = if nat_lt bits 64 then codes "trunc i64 " else codes "bitcast i64 "
from_word (Some Float) = codes "bitcast i32 "
from_word (Some Double) = codes "bitcast i64 "
from_word _ = codes "inttoptr i64 "

-- what makes a word of a value of a type, or its lower half
abbrev pub to_word : Option IrType → Text
to_word (Some (Integer bits)) = if nat_lt bits 64 then codes "zext " else codes "bitcast "
to_word (Some Float) = codes "bitcast "
to_word (Some Double) = codes "bitcast "
to_word _ = codes "ptrtoint "

-- what comes after the new name of a word, where its lower half is named
abbrev pub half_mark : (halved : Bool) → Text
half_mark halved = if halved then codes ".h" else []

-- the new name of the word, or of its lower half
unfoldable pub part_text : (halved : Bool) → Seat → Text
part_text halved seat = seat_text seat ++ half_mark halved

-- what stands after the place of an atomic step
unfoldable pub order_text : Text
order_text = codes " seq_cst, align 8\n"

-- how the line of a whole load goes on after its result
unfoldable pub load_word : Text
load_word = codes "load atomic "

-- how the line of a store of a word begins
unfoldable pub store_word : Text
store_word = codes "  store atomic i64 "

-- how the line of a whole store begins
unfoldable pub whole_store_word : Text
whole_store_word = codes "  store atomic "

-- how the line begins that has the recorder store a word
unfoldable pub recorded_store_word : Text
recorded_store_word = codes "  call void @dg_store("

-- ---- reading

-- before the place of a read: an atomic load, or a call of the recorder
abbrev pub before_read : (recorded : Bool) → Text
before_read recorded = if recorded then codes " = call i64 @dg_read(" else codes " = load atomic i64, "

-- and after it
abbrev pub after_read : (recorded : Bool) → Text
after_read recorded = if recorded then codes ")\n" else order_text

-- the line that reads a word under the new name
abbrev pub read_line : (recorded : Bool) → Module → (locals : List Text) → Seat → Argument → Text
read_line recorded m locals seat place = codes "  " ++ seat_text seat ++ before_read recorded ++ argument_text m locals place ++ after_read recorded

-- the line that makes the lower half of the word
unfoldable pub half_text : Seat → Text
half_text seat = codes "  " ++ part_text true seat ++ codes " = trunc i64 " ++ seat_text seat ++ codes " to i32\n"

-- the same, where there is need of it
abbrev pub half_line : (halved : Bool) → Seat → Text
half_line halved seat = if halved then half_text seat else []

-- the new name, and the type of the value that is made of it
unfoldable pub made_text : Module → Seat → (loaded : ℕ) → Text
made_text m seat loaded = part_text (is_halved (slice_get m.types loaded)) seat ++ codes " to " ++ type_text m loaded ++ 10 ∷ []

-- the line that makes the value of the word, or of its lower half
abbrev pub value_line : Module → (locals : List Text) → Seat → Loading → Text
value_line m locals seat x = codes "  " ++ result_text locals x.result ++ from_word (slice_get m.types x.loaded) ++ made_text m seat x.loaded

-- the lines that make the value of the word
abbrev pub value_lines : Module → (locals : List Text) → Seat → Loading → Text
value_lines m locals seat x = half_line (is_halved (slice_get m.types x.loaded)) seat ++ value_line m locals seat x

-- the line that loads a whole word
abbrev pub whole_load_line : Module → (locals : List Text) → Loading → Text
whole_load_line m locals x = codes "  " ++ result_text locals x.result ++ load_word ++ placed_text m locals x.loaded x.place ++ order_text

-- the value of a word: in two lines or three where it is not the whole word, and where the recorder reads it
abbrev pub load_text : (recorded : Bool) → Module → (locals : List Text) → Seat → Loading → Text
load_text recorded m locals seat x =
    if recorded || is_narrow (slice_get m.types x.loaded) then read_line recorded m locals seat x.place ++ value_lines m locals seat x else whole_load_line m locals x

-- ---- storing

-- how the line ends that makes a word of a value; where it makes its lower half, the line that makes the word comes after it
abbrev pub word_end : (halved : Bool) → Seat → Text
word_end halved seat =
    if halved then codes " to i32\n  " ++ seat_text seat ++ codes " = zext i32 " ++ part_text true seat ++ codes " to i64\n" else codes " to i64\n"

-- what makes a word of a value of this type, or its lower half, under the new name
unfoldable pub word_begin : Option IrType → Seat → Text
word_begin shown seat = codes "  " ++ part_text (is_halved shown) seat ++ codes " = " ++ to_word shown

-- the lines that make a word of a value, under the new name
abbrev pub word_lines : Module → (locals : List Text) → Seat → Argument → Text
word_lines m locals seat value =
    word_begin (slice_get m.types value.written) seat ++ argument_text m locals value ++ word_end (is_halved (slice_get m.types value.written)) seat

-- the line that stores this word
abbrev pub write_line : (recorded : Bool) → Module → (locals : List Text) → Seat → Argument → Text
write_line true m locals seat place = recorded_store_word ++ argument_text m locals place ++ codes ", i64 " ++ seat_text seat ++ codes ")\n"
write_line false m locals seat place = store_word ++ seat_text seat ++ codes ", " ++ argument_text m locals place ++ order_text

-- the line that stores a whole word
abbrev pub whole_store_line : Module → (locals : List Text) → Storing → Text
whole_store_line m locals x = whole_store_word ++ argument_text m locals x.value ++ codes ", " ++ argument_text m locals x.place ++ order_text

-- a value is stored as a word: in two lines or three where it is not a whole word, and where the recorder stores it
abbrev pub store_text : (recorded : Bool) → Module → (locals : List Text) → Seat → Storing → Text
store_text recorded m locals seat x =
    if recorded || is_narrow (slice_get m.types x.value.written) then word_lines m locals seat x.value ++ write_line recorded m locals seat x.place else whole_store_line m locals x

-- ---- local steps

-- the line that tells the recorder of an instruction that makes no step on shared words
abbrev pub local_line : (recorded : Bool) → Text
local_line recorded = if recorded then codes "  call void @dg_local(i32 1)\n" else []
