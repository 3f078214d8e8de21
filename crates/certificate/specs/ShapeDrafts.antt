-- The shapes that are read so far.
use Rattle.std.specs.Prelude.{ℕ, ◌+◌, Bool, false, not, ◌&&◌, if◌then◌else◌, List, [], ◌∷◌, ◌++◌, length, map, replicate, slice_get, slice_set, unwrap_or, Option, Some, None, is_some}
use Rattle.ir_ast.specs.Names.{name_at, numbered}
use Rattle.ir_ast.specs.Shapes.{shape_at, row_at}
use Rattle.ir_ast.specs.declared.function.Function.{Function}
use Rattle.ir_ast.specs.declared.items_of_module.Global.{Global}
use Rattle.ir_ast.specs.declared.items_of_module.StructType.{StructType}
use Rattle.ir_ast.specs.declared.module.Module.{Module}
use Rattle.ir_ast.specs.declared.shapes.RootShapes.{RootShapes}
use Rattle.ir_ast.specs.declared.shapes.Shapes.{Shapes}
use Rattle.ir_tokens.specs.Bytes.{Text}
use Rattle.types.specs.Globals.{global_held}
use Rattle.types.specs.References.{is_opaque}
use Rattle.certs.specs.RootNames.{root_names}
use Rattle.certs.specs.ShapesFit.{root_of}
use Rattle.certificate.specs.declared.mistake.Mistake.{Mistake}
use Rattle.certificate.specs.declared.mistake.Mistake.TheVariants.{MissingWord, MissingGlobal, MissingRoot}
use Rattle.certificate.specs.declared.shape_draft.ShapeDraft.{ShapeDraft}

-- ---- drafts

-- nothing is given for each of these
abbrev pub none_given : {A : Type 0} → List A → List (Option ℕ)
none_given xs = replicate (length xs) None

-- the words of type `ptr` of a struct, none where there is no row
abbrev pub pointers_at : (pointers : List (List Bool)) → (layout : ℕ) → List Bool
pointers_at pointers layout = unwrap_or (slice_get pointers layout) []

-- nothing is given for the words of the struct of a name, if the name is defined
abbrev pub row_of : (pointers : List (List Bool)) → (layout : Option ℕ) → List (Option ℕ)
row_of pointers None = []
row_of pointers (Some layout) = none_given (pointers_at pointers layout)

-- nothing is given for the slots of a function
abbrev pub no_roots : RootShapes
no_roots = record { names = []; layouts = [] }

-- no shape is given of these words, globals and slots
abbrev pub shapes_none : Module → (pointers : List (List Bool)) → Shapes
shapes_none m pointers = record { words = map (row_of pointers) m.struct_of; globals = none_given m.sorts; roots = map (λ _. no_roots) m.sorts }

-- no shapes are to be read
abbrev pub no_shapes : ShapeDraft
no_shapes = record { pointers = []; slots = []; shapes = record { words = []; globals = []; roots = [] } }

-- nothing is given so far; `pointers` are the words of type `ptr` of each struct
abbrev pub shapes_begun : Module → (pointers : List (List Bool)) → ShapeDraft
shapes_begun m pointers = record { pointers = pointers; slots = map (root_names m) m.functions; shapes = shapes_none m pointers }

-- ---- what is asked of words, globals and slots

-- the number of a struct's name
abbrev pub name_in : Option StructType → ℕ
name_in None = 0
name_in (Some struct) = struct.name

-- the number of the name of a layout's struct
abbrev pub name_of : Module → (layout : ℕ) → ℕ
name_of m layout = name_in (slice_get m.structs layout)

-- whether a word of a struct is of type `ptr`
abbrev pub is_pointer : ShapeDraft → (layout word : ℕ) → Bool
is_pointer draft layout word = unwrap_or (slice_get (pointers_at draft.pointers layout) word) false

-- whether a word of the struct of this name has a shape so far
abbrev pub has_word_shape : ShapeDraft → (name word : ℕ) → Bool
has_word_shape draft name word = is_some (shape_at (row_at draft.shapes.words name) word)

-- whether there is a type, and it is `ptr`
abbrev pub is_held_opaque : Module → Option ℕ → Bool
is_held_opaque m None = false
is_held_opaque m (Some held) = is_opaque m held

-- whether the global of a name is of type `ptr`
abbrev pub is_opaque_global : Module → (symbol : ℕ) → Bool
is_opaque_global m symbol = is_held_opaque m (global_held m symbol)

-- whether it has a shape so far
abbrev pub has_global_shape : ShapeDraft → (symbol : ℕ) → Bool
has_global_shape draft symbol = is_some (shape_at draft.shapes.globals symbol)

-- whether a local name of a function is that of a root slot's alloca
abbrev pub is_root_slot : ShapeDraft → (function slot : ℕ) → Bool
is_root_slot draft function slot = unwrap_or (slice_get (unwrap_or (slice_get draft.slots function) []) slot) false

-- whether it has a shape so far
abbrev pub has_root_shape : ShapeDraft → Function → (slot : ℕ) → Bool
has_root_shape draft f slot = is_some (root_of draft.shapes f slot)

-- ---- what is given

-- with the shape of a word
unfoldable pub with_word_shape : Module → (layout word target : ℕ) → ShapeDraft → ShapeDraft
with_word_shape m layout word target draft = record draft {
  shapes = record draft.shapes { words = slice_set draft.shapes.words (name_of m layout) (slice_set (row_at draft.shapes.words (name_of m layout)) word (Some target)) };
}

-- with the shape of a global
unfoldable pub with_global_shape : (symbol target : ℕ) → ShapeDraft → ShapeDraft
with_global_shape symbol target draft = record draft { shapes = record draft.shapes { globals = slice_set draft.shapes.globals symbol (Some target) } }

-- with the shape of one more slot of these
abbrev pub with_root : (name : Text) → (target : ℕ) → RootShapes → RootShapes
with_root name target roots = record { names = numbered name roots.names; layouts = roots.layouts ++ Some target ∷ [] }

-- the shapes of the slots of the function of this symbol
abbrev pub roots_at : List RootShapes → (symbol : ℕ) → RootShapes
roots_at roots symbol = unwrap_or (slice_get roots symbol) no_roots

-- with the shape of a slot of a function
unfoldable pub with_root_shape : Function → (slot target : ℕ) → ShapeDraft → ShapeDraft
with_root_shape f slot target draft = record draft {
  shapes = record draft.shapes { roots = slice_set draft.shapes.roots f.symbol (with_root (name_at f.locals slot) target (roots_at draft.shapes.roots f.symbol)) };
}

-- ---- what is missing

-- the first of two, if there is one
abbrev pub first_of : Option Mistake → Option Mistake → Option Mistake
first_of None other = other
first_of (Some one) other = Some one

-- the first word without a shape of a struct, from this word on
abbrev pub word_gap : ShapeDraft → (layout name word : ℕ) → (pointers : List Bool) → Option Mistake
word_gap draft layout name word [] = None
word_gap draft layout name word (pointer ∷ pointers) = if pointer && not (has_word_shape draft name word) then Some (MissingWord layout word) else word_gap draft layout name (word + 1) pointers

-- that of a struct
abbrev pub struct_gap : ShapeDraft → (layout : ℕ) → StructType → Option Mistake
struct_gap draft layout struct = word_gap draft layout struct.name 0 (pointers_at draft.pointers layout)

-- the first one of the structs, from this one on
abbrev pub words_gap : ShapeDraft → (layout : ℕ) → List StructType → Option Mistake
words_gap draft layout [] = None
words_gap draft layout (struct ∷ structs) = first_of (struct_gap draft layout struct) (words_gap draft (layout + 1) structs)

-- the first global without a shape
abbrev pub globals_gap : Module → ShapeDraft → List Global → Option Mistake
globals_gap m draft [] = None
globals_gap m draft (global ∷ globals) = if is_opaque m global.held && not (has_global_shape draft global.symbol) then Some (MissingGlobal global.symbol) else globals_gap m draft globals

-- the first root slot without a shape of a function, from this local name on
abbrev pub slot_gap : ShapeDraft → (function : ℕ) → Function → (slot : ℕ) → (slots : List Bool) → Option Mistake
slot_gap draft function f slot [] = None
slot_gap draft function f slot (root ∷ slots) = if root && not (has_root_shape draft f slot) then Some (MissingRoot function slot) else slot_gap draft function f (slot + 1) slots

-- that of a function, whose root slots these are, if they are there
abbrev pub roots_gap_in : ShapeDraft → (function : ℕ) → Function → (slots : Option (List Bool)) → Option Mistake
roots_gap_in draft function f None = None
roots_gap_in draft function f (Some slots) = slot_gap draft function f 0 slots

-- the first one of the functions, from this one on
abbrev pub roots_gap : ShapeDraft → (function : ℕ) → List Function → Option Mistake
roots_gap draft function [] = None
roots_gap draft function (f ∷ fs) = first_of (roots_gap_in draft function f (slice_get draft.slots function)) (roots_gap draft (function + 1) fs)

-- the first shape that is missing: of a word, else of a global, else of a root slot
abbrev pub shapes_gap : Module → ShapeDraft → Option Mistake
shapes_gap m draft = first_of (words_gap draft 0 m.structs) (first_of (globals_gap m draft m.globals) (roots_gap draft 0 m.functions))
