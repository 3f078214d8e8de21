-- The shapes that the types of a text say, whose pointers are typed.
use Rattle.std.specs.Prelude.{ℕ, ◌+◌, Bool, ◌&&◌, nat_lt, if◌then◌else◌, List, [], ◌∷◌, length, map, slice_get, unwrap_or, Option, Some, None, is_some}
use Rattle.ir_ast.specs.Names.{name_at}
use Rattle.ir_ast.specs.declared.function.Function.{Function}
use Rattle.ir_ast.specs.declared.items_of_module.SymbolSort.{SymbolSort}
use Rattle.ir_ast.specs.declared.items_of_module.SymbolSort.TheVariants as sort
use Rattle.ir_ast.specs.declared.module.Module.{Module}
use Rattle.ir_ast.specs.declared.shapes.RootShapes.{RootShapes}
use Rattle.ir_ast.specs.declared.shapes.Shapes.{Shapes}
use Rattle.ir_tokens.specs.Bytes.{Text}
use Rattle.shadow_stack.specs.Slots.{SlotTable, slots_of, slot_of, slot_layout}
use Rattle.types.specs.Globals.{held_by}
use Rattle.types.specs.References.{pointee, referenced_layout}
use Rattle.certificate.specs.ShapeDrafts.{no_roots, shapes_begun, with_root}
use Rattle.certificate.specs.declared.shape_draft.ShapeDraft.{ShapeDraft}

-- whether a type is a typed pointer
abbrev pub is_pointer : Module → (written : ℕ) → Bool
is_pointer m written = is_some (pointee m written)

-- which of these fields are pointers
abbrev pub pointers_among : Module → (fields : List ℕ) → List Bool
pointers_among m fields = map (is_pointer m) fields

-- what the words of the struct of a name refer to, if the name is defined; `rows` are the scalar fields of each struct
abbrev pub typed_row : Module → (rows : List (List ℕ)) → (layout : Option ℕ) → List (Option ℕ)
typed_row m rows None = []
typed_row m rows (Some layout) = map (referenced_layout m) (unwrap_or (slice_get rows layout) [])

-- what something of this type refers to, if there is a type
abbrev pub typed_held : Module → Option ℕ → Option ℕ
typed_held m None = None
typed_held m (Some held) = referenced_layout m held

-- what a global refers to, if a global name is one's
abbrev pub typed_global : Module → SymbolSort → Option ℕ
typed_global m (sort.Global g) = typed_held m (held_by m (Some g))
typed_global m _ = None

-- what a slot refers to, if there is one
abbrev pub typed_slot : SlotTable → Option ℕ → Option ℕ
typed_slot slots None = None
typed_slot slots (Some slot) = slot_layout slots slot

-- with what a slot of this name refers to, if it does
abbrev pub with_typed_slot : (name : Text) → Option ℕ → RootShapes → RootShapes
with_typed_slot name None roots = roots
with_typed_slot name (Some target) roots = with_root name target roots

-- with that of the slot of this local name of a function, if it is a root slot
abbrev pub with_root_named : SlotTable → Function → (name : ℕ) → (root : Bool) → RootShapes → RootShapes
with_root_named slots f name root roots = if root && nat_lt name (length f.locals) then with_typed_slot (name_at f.locals name) (typed_slot slots (slot_of slots name)) roots else roots

-- with that of each root slot among these local names, from this one on
abbrev pub typed_slots : SlotTable → Function → (name : ℕ) → (is_root : List Bool) → RootShapes → RootShapes
typed_slots slots f name [] roots = roots
typed_slots slots f name (root ∷ more) roots = typed_slots slots f (name + 1) more (with_root_named slots f name root roots)

-- the root slots of a function, if both are there
abbrev pub typed_roots_in : Module → Option Function → (is_root : Option (List Bool)) → RootShapes
typed_roots_in m (Some f) (Some is_root) = typed_slots (slots_of m f) f 0 is_root no_roots
typed_roots_in m _ _ = no_roots

-- the root slots of the function of a global name, if it is one's; `roots` says of each function which local names are root slots
abbrev pub typed_roots : Module → (roots : List (List Bool)) → SymbolSort → RootShapes
typed_roots m roots (sort.Defined number) = typed_roots_in m (slice_get m.functions number) (slice_get roots number)
typed_roots m roots _ = no_roots

-- what all words, globals and root slots refer to
abbrev pub typed_shapes : Module → (rows : List (List ℕ)) → (roots : List (List Bool)) → Shapes
typed_shapes m rows roots = record { words = map (typed_row m rows) m.struct_of; globals = map (typed_global m) m.sorts; roots = map (typed_roots m roots) m.sorts }

-- these shapes, and what is asked of them: one for each pointer and for each root slot of the opaque text
abbrev pub typed_draft : (m opaque : Module) → (rows : List (List ℕ)) → ShapeDraft
typed_draft m opaque rows =
    let begun = shapes_begun opaque (map (pointers_among m) rows) in
    record begun { shapes = typed_shapes m rows begun.slots }
