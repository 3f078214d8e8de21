-- Which words have a shape, beside which of them are of type `ptr`.
use Rattle.std.specs.Prelude.{ℕ, Bool, if◌then◌else◌, List, max, length, Option, is_some, is_none}
use Rattle.std.specs.List.{list_all, range_with_len, zip}
use Rattle.ir_ast.specs.Shapes.{shape_at, row_at}
use Rattle.ir_ast.specs.declared.items_of_module.StructType.{StructType}
use Rattle.ir_ast.specs.declared.shapes.Shapes.{Shapes}
use Rattle.whole_certs.specs.Marked.{is_marked}

-- a word of type `ptr` has a shape, and no other one has
abbrev pub word_agrees : List (Option ℕ) → (pointers : List Bool) → (word : ℕ) → Bool
word_agrees row pointers word = if is_marked pointers word then is_some (shape_at row word) else is_none (shape_at row word)

-- so it is of each word of a row
abbrev pub words_agree : List (Option ℕ) → (pointers : List Bool) → Bool
words_agree row pointers = list_all (word_agrees row pointers) (range_with_len 0 (max (length row) (length pointers)))

-- of a struct
abbrev pub struct_agrees : Shapes → StructType → (pointers : List Bool) → Bool
struct_agrees shapes struct pointers = words_agree (row_at shapes.words struct.name) pointers

-- and of each of these structs
abbrev pub structs_agree : Shapes → List StructType → (pointers : List (List Bool)) → Bool
structs_agree shapes structs pointers = list_all (λ (p : StructType × List Bool). struct_agrees shapes p.0 p.1) (zip structs pointers)
