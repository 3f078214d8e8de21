-- Which root slots have a shape.
use Rattle.std.specs.Prelude.{ℕ, Bool, not, ◌||◌, List, length, is_some}
use Rattle.std.specs.List.{list_all, range_with_len}
use Rattle.ir_ast.specs.declared.function.Function.{Function}
use Rattle.ir_ast.specs.declared.module.Module.{Module}
use Rattle.ir_ast.specs.declared.shapes.Shapes.{Shapes}
use Rattle.certs.specs.RootNames.{root_names}
use Rattle.certs.specs.ShapesFit.{root_of}
use Rattle.whole_certs.specs.Marked.{is_marked}

-- a local name has a shape where it is a root slot's
abbrev pub is_slot_shaped : Shapes → Function → (roots : List Bool) → (slot : ℕ) → Bool
is_slot_shaped shapes f roots slot = not (is_marked roots slot) || is_some (root_of shapes f slot)

-- so it is of each of these names
abbrev pub are_slots_shaped : Shapes → Function → (roots : List Bool) → Bool
are_slots_shaped shapes f roots = list_all (is_slot_shaped shapes f roots) (range_with_len 0 (length roots))

-- each root slot of a function has a shape
abbrev pub are_roots_shaped : Module → Shapes → Function → Bool
are_roots_shaped m shapes f = are_slots_shaped shapes f (root_names m f)
