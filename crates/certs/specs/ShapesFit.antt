-- Which shapes are shapes of a module.
use Rattle.std.specs.Prelude.{ℕ, Bool, true, not, ◌&&◌, ◌||◌, if◌then◌else◌, List, Option, Some, None, is_some, is_none, slice_get}
use Rattle.std.specs.List.{list_all, list_any}
use Rattle.ir_ast.specs.Names.{name_at}
use Rattle.ir_ast.specs.Shapes.{shape_at, shape_named}
use Rattle.ir_ast.specs.declared.block.Block.{Block}
use Rattle.ir_ast.specs.declared.function.Function.{Function}
use Rattle.ir_ast.specs.declared.instr.Instr.{Instr}
use Rattle.ir_ast.specs.declared.items_of_module.Global.{Global}
use Rattle.ir_ast.specs.declared.memory.MemoryOp.TheVariants.{Alloca}
use Rattle.ir_ast.specs.declared.module.Module.{Module}
use Rattle.ir_ast.specs.declared.op.Op.{Op}
use Rattle.ir_ast.specs.declared.op.Op.TheVariants.{Memory}
use Rattle.ir_ast.specs.declared.shapes.RootShapes.{RootShapes}
use Rattle.ir_ast.specs.declared.shapes.Shapes.{Shapes}
use Rattle.types.specs.References.{is_opaque}
use Rattle.certs.specs.Families.{is_opaque_text}
use Rattle.certs.specs.Fits.{stands_for, is_root_name}

-- nothing, or a layout of the module
abbrev pub shape_fits : Module → Option ℕ → Bool
shape_fits m None = true
shape_fits m (Some layout) = list_any (stands_for layout) m.struct_of

-- layouts of the module alone
abbrev pub row_fits : Module → List (Option ℕ) → Bool
row_fits m row = list_all (shape_fits m) row

-- those of a function's slots
abbrev pub root_row_fits : Module → RootShapes → Bool
root_row_fits m roots = row_fits m roots.layouts

-- a global of type `ptr` has a shape, and no other one has
abbrev pub global_fits : Module → Shapes → Global → Bool
global_fits m shapes global = if is_opaque m global.held then is_some (shape_at shapes.globals global.symbol) else is_none (shape_at shapes.globals global.symbol)

-- the layout to which a slot of a function refers, by the name of its alloca, if there is one
abbrev pub root_of : Shapes → Function → (name : ℕ) → Option ℕ
root_of shapes f name = shape_named (slice_get shapes.roots f.symbol) (name_at f.locals name)

-- a root slot of type `ptr` with this name has a shape
abbrev pub slot_fits : Module → Shapes → Function → (name held : ℕ) → Bool
slot_fits m shapes f name held = not (is_opaque m held) || not (is_root_name m f name) || is_some (root_of shapes f name)

-- an instruction makes no root slot without a shape
abbrev pub op_fits : Module → Shapes → Function → (name : Option ℕ) → Op → Bool
op_fits m shapes f (Some name) (Memory (Alloca held)) = slot_fits m shapes f name held
op_fits m shapes f _ _ = true

-- none of these instructions does
abbrev pub body_fits : Module → Shapes → Function → List Instr → Bool
body_fits m shapes f body = list_all (λ (instr : Instr). op_fits m shapes f instr.result instr.op) body

-- each root slot of type `ptr` has a shape
abbrev pub roots_fit : Module → Shapes → Function → Bool
roots_fit m shapes f = list_all (λ (block : Block). body_fits m shapes f block.body) f.blocks

-- layouts of the module, one for each global and root slot of type `ptr`
abbrev pub all_shapes_fit : Module → Shapes → Bool
all_shapes_fit m shapes =
    list_all (row_fits m) shapes.words && row_fits m shapes.globals && list_all (root_row_fits m) shapes.roots
    && list_all (global_fits m shapes) m.globals && list_all (roots_fit m shapes) m.functions

-- the shapes that go with a module: such ones, or none where its text does not write `ptr`
abbrev pub shapes_fit : Module → Option Shapes → Bool
shapes_fit m None = not (is_opaque_text m)
shapes_fit m (Some shapes) = is_opaque_text m && all_shapes_fit m shapes
