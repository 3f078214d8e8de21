-- What the runtime has to know of a module: the words and the name of each layout, and the globals.
use Rattle.std.specs.Prelude.{ℕ, ◌+◌, ◌*◌, if◌then◌else◌, List, [], ◌∷◌, ◌++◌, length, take, Option, Some, slice_get, codes}
use Rattle.std.specs.Fmt.{decimal}
use Rattle.ir_ast.specs.Names.{name_at}
use Rattle.ir_ast.specs.declared.items_of_module.Global.{Global}
use Rattle.ir_ast.specs.declared.items_of_module.StructType.{StructType}
use Rattle.ir_ast.specs.declared.ir_type.IrType.{IrType}
use Rattle.ir_ast.specs.declared.module.Module.{Module}
use Rattle.ir_tokens.specs.Bytes.{Text}
use Rattle.ir_print.specs.Names.{global_text}
use Rattle.pools.specs.Layouts.{words_of}
use Rattle.pools.specs.declared.word_kind.WordKind.{WordKind}
use Rattle.pools.specs.declared.word_kind.WordKind.TheVariants as word
use Rattle.machine.specs.Kinds.{is_integer}
use Rattle.lowering.specs.Rows.{before_row, numbered}
use Rattle.lowering.specs.Strings.{name_string}

-- the bit of a word in a mask: 1 where it is a reference
abbrev pub bit_of : WordKind → ℕ
bit_of (word.Integer bits) = 0
bit_of (word.Reference layout) = 1

-- the mask of these words: bit k says that word k is a reference
abbrev pub mask_of : List WordKind → ℕ
mask_of [] = 0
mask_of (first ∷ rest) = bit_of first + 2 * mask_of rest

-- the row of a layout: how many words it has, and the mask of the first 64; layouts of a module have no more
abbrev pub layout_row : List WordKind → Text
layout_row words = codes "{ i64, i64 } { i64 " ++ decimal (length words) ++ codes ", i64 " ++ decimal (mask_of (take 64 words)) ++ codes " }"

-- the words of a struct, by what its name means
abbrev pub words_in : (layouts : List (List WordKind)) → Option (Option ℕ) → List WordKind
words_in layouts (Some (Some layout)) = words_of layouts layout
words_in layouts _ = []

-- the row of a struct at this place, after what stands before it
abbrev pub layout_row_at : (layouts : List (List WordKind)) → Module → (place : ℕ) → StructType → Text
layout_row_at layouts m place struct = before_row place ++ layout_row (words_in layouts (slice_get m.struct_of struct.name))

-- the end of the row of a global: 1 where it holds references
abbrev pub global_mark : Option IrType → Text
global_mark shown = if is_integer shown then codes ", i64 0 }" else codes ", i64 1 }"

-- the row of a global at this place, after what stands before it
abbrev pub global_row_at : Module → (place : ℕ) → Global → Text
global_row_at m place global = before_row place ++ codes "{ ptr, i64 } { ptr " ++ global_text m global.symbol ++ global_mark (slice_get m.types global.held)

-- a number with these words before it and after it
unfoldable pub counted : (before : Text) → (count : ℕ) → (after : Text) → Text
counted before count after = before ++ decimal count ++ after

-- how many layouts there are
unfoldable pub layout_count : (count : ℕ) → Text
layout_count count = counted (codes "@dg_layout_count = constant i64 ") count (codes "\n")

-- how the table of layouts begins
unfoldable pub layout_begin : (count : ℕ) → Text
layout_begin count = counted (codes "@dg_layouts = constant [") count (codes " x { i64, i64 }] [")

-- the table of layouts
unfoldable pub layout_table : (layouts : List (List WordKind)) → Module → List StructType → Text
layout_table layouts m structs = layout_begin (length structs) ++ numbered (layout_row_at layouts m) 0 structs ++ codes "]\n"

-- how many globals there are
unfoldable pub global_count : (count : ℕ) → Text
global_count count = counted (codes "@dg_global_count = constant i64 ") count (codes "\n")

-- how the table of globals begins
unfoldable pub global_begin : (count : ℕ) → Text
global_begin count = counted (codes "@dg_globals = constant [") count (codes " x { ptr, i64 }] [")

-- the table of globals
unfoldable pub global_table : Module → List Global → Text
global_table m globals = global_begin (length globals) ++ numbered (global_row_at m) 0 globals ++ codes "]\n"

-- the constant that the name of the layout at this place is
unfoldable pub name_label : (place : ℕ) → Text
name_label place = codes "@dg.layout." ++ decimal place

-- the line of the name of the struct at this place
abbrev pub name_line : Module → (place : ℕ) → StructType → Text
name_line m place struct = name_label place ++ name_string (name_at m.struct_names struct.name)

-- the row of the struct at this place in the table of names, after what stands before it
abbrev pub name_row_at : (place : ℕ) → StructType → Text
name_row_at place struct = before_row place ++ codes "ptr " ++ name_label place

-- how the table of names begins
unfoldable pub name_begin : (count : ℕ) → Text
name_begin count = counted (codes "@dg_layout_names = constant [") count (codes " x ptr] [")

-- the names of layouts, and their table
unfoldable pub name_table : Module → List StructType → Text
name_table m structs = numbered (name_line m) 0 structs ++ name_begin (length structs) ++ numbered name_row_at 0 structs ++ codes "]\n"
