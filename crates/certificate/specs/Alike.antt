-- Shapes that say the same of a module, and what is printed of certificates.
use Rattle.std.specs.Prelude.{◌≡◌, ℕ, Bool, true, false, List, Option, Some, None, is_some, slice_get, unwrap_or}
use Rattle.ir_ast.specs.Shapes.{shape_at, row_at}
use Rattle.ir_ast.specs.declared.function.Function.{Function}
use Rattle.ir_ast.specs.declared.items_of_module.Global.{Global}
use Rattle.ir_ast.specs.declared.items_of_module.StructType.{StructType}
use Rattle.ir_ast.specs.declared.module.Module.{Module}
use Rattle.ir_ast.specs.declared.shapes.Shapes.{Shapes}
use Rattle.ir_tokens.specs.Bytes.{Text}
use Rattle.layout.specs.PointerRows.{ArePointerRows}
use Rattle.types.specs.References.{is_opaque}
use Rattle.certs.specs.Families.{is_opaque_text}
use Rattle.certs.specs.RootNames.{root_names}
use Rattle.certs.specs.ShapesFit.{root_of, all_shapes_fit}
use Rattle.certs.specs.declared.certs.Certs.{Certs}
use Rattle.certificate.specs.Text.{IsCert}

-- the shape of a word, by its struct
abbrev pub word_shape : Shapes → StructType → (word : ℕ) → Option ℕ
word_shape shapes struct word = shape_at (row_at shapes.words struct.name) word

-- each word, each global of type `ptr` and each root slot has the same shape in both
pub record AreAlike (m : Module) (one other : Shapes) : Type 0 where
  pub words : (layout : ℕ) (struct : StructType) → slice_get m.structs layout ≡ Some struct → (word : ℕ) → word_shape one struct word ≡ word_shape other struct word
  pub globals : (number : ℕ) (global : Global) → slice_get m.globals number ≡ Some global → is_opaque m global.held ≡ true → shape_at one.globals global.symbol ≡ shape_at other.globals global.symbol
  pub roots : (function : ℕ) (f : Function) → slice_get m.functions function ≡ Some f → (slot : ℕ) → slice_get (root_names m f) slot ≡ Some true → root_of one f slot ≡ root_of other f slot

-- so it is where both have shapes, or neither has
abbrev pub are_alike : Module → Option Shapes → Option Shapes → Type 0
are_alike m None None = Unit {0}
are_alike m (Some one) (Some other) = AreAlike m one other
are_alike m _ _ = ⊥

-- exactly the words of type `ptr` have a shape
abbrev pub HasWordShapes : Module → Shapes → Type 0
HasWordShapes m shapes =
    (pointers : List (List Bool)) × ArePointerRows m pointers
    × ((layout : ℕ) (struct : StructType) (row : List Bool) → slice_get m.structs layout ≡ Some struct → slice_get pointers layout ≡ Some row → (word : ℕ) → is_some (word_shape shapes struct word) ≡ unwrap_or (slice_get row word) false)

-- each root slot has a shape
abbrev pub HasRootShapes : Module → Shapes → Type 0
HasRootShapes m shapes = (function : ℕ) (f : Function) → slice_get m.functions function ≡ Some f → (slot : ℕ) → slice_get (root_names m f) slot ≡ Some true → is_some (root_of shapes f slot) ≡ true

-- shapes of an opaque text that fit, of which none is missing, or none of a typed text
abbrev pub are_whole : Module → Option Shapes → Type 0
are_whole m None = is_opaque_text m ≡ false
are_whole m (Some shapes) = (is_opaque_text m ≡ true) × (all_shapes_fit m shapes ≡ true) × HasWordShapes m shapes × HasRootShapes m shapes

-- the text is one of certificates with these sections, such shapes, and these functions outside
abbrev pub IsCertAlike : Text → Module → Certs → Type 0
IsCertAlike text m certs = (again : Certs) × IsCert text m again × (again.sections ≡ certs.sections) × are_alike m certs.shapes again.shapes × (again.foreign ≡ certs.foreign)
