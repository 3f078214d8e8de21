-- How shapes are printed: words by struct, globals, and root slots by function, each in the module's order.
use Rattle.std.specs.Prelude.{ℕ, ◌+◌, Bool, if◌then◌else◌, List, [], ◌∷◌, ◌++◌, Option, Some, None, codes}
use Rattle.std.specs.List.{flat_map}
use Rattle.std.specs.Fmt.{decimal}
use Rattle.ir_ast.specs.Names.{name_at}
use Rattle.ir_ast.specs.Shapes.{shape_at, row_at}
use Rattle.ir_ast.specs.declared.function.Function.{Function}
use Rattle.ir_ast.specs.declared.items_of_module.Global.{Global}
use Rattle.ir_ast.specs.declared.items_of_module.StructType.{StructType}
use Rattle.ir_ast.specs.declared.module.Module.{Module}
use Rattle.ir_ast.specs.declared.shapes.Shapes.{Shapes}
use Rattle.ir_tokens.specs.Bytes.{Text}
use Rattle.types.specs.References.{is_opaque}
use Rattle.certs.specs.RootNames.{root_names}
use Rattle.certs.specs.ShapesFit.{root_of}
use Rattle.certificate.specs.NameTexts.{name_text, global_text, layout_text, local_text}

-- what something refers to, and the line's end
abbrev pub target_text : Module → (target : ℕ) → Text
target_text m target = codes " ref " ++ (layout_text m target ++ 10 ∷ [])

-- the name of a struct, without its sign
abbrev pub struct_text : Module → (name : ℕ) → Text
struct_text m name = name_text (name_at m.struct_names name)

-- the line of a word of the struct of this name, if it has a shape
abbrev pub word_text : Module → (name word : ℕ) → Option ℕ → Text
word_text m name word None = []
word_text m name word (Some target) = codes "layout " ++ (struct_text m name ++ 32 ∷ (decimal word ++ target_text m target))

-- those of its words, from this word on
abbrev pub row_text : Module → (name word : ℕ) → List (Option ℕ) → Text
row_text m name word [] = []
row_text m name word (shape ∷ shapes) = word_text m name word shape ++ row_text m name (word + 1) shapes

-- those of a struct
abbrev pub words_text : Module → Shapes → StructType → Text
words_text m shapes struct = row_text m struct.name 0 (row_at shapes.words struct.name)

-- the line of a global, if it has a shape
abbrev pub global_line : Module → (symbol : ℕ) → Option ℕ → Text
global_line m symbol None = []
global_line m symbol (Some target) = codes "global " ++ (global_text m symbol ++ target_text m target)

-- the line of a global of type `ptr`
abbrev pub global_text_if : Module → Shapes → Global → Text
global_text_if m shapes global = if is_opaque m global.held then global_line m global.symbol (shape_at shapes.globals global.symbol) else []

-- the line of a slot, if it has a shape
abbrev pub slot_text : Module → Function → (slot : ℕ) → Option ℕ → Text
slot_text m f slot None = []
slot_text m f slot (Some target) = codes "root " ++ (global_text m f.symbol ++ 32 ∷ (local_text f slot ++ target_text m target))

-- those of a function's root slots, from this local name on
abbrev pub slots_text : Module → Shapes → Function → (slot : ℕ) → (roots : List Bool) → Text
slots_text m shapes f slot [] = []
slots_text m shapes f slot (root ∷ roots) = (if root then slot_text m f slot (root_of shapes f slot) else []) ++ slots_text m shapes f (slot + 1) roots

-- those of a function
abbrev pub roots_text : Module → Shapes → Function → Text
roots_text m shapes f = slots_text m shapes f 0 (root_names m f)

-- the lines of shapes
abbrev pub shapes_text : Module → Shapes → Text
shapes_text m shapes = flat_map (words_text m shapes) m.structs ++ flat_map (global_text_if m shapes) m.globals ++ flat_map (roots_text m shapes) m.functions
