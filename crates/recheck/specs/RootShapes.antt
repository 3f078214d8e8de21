-- Root slots without a shape.
use Rattle.std.specs.Prelude.{ℕ, ◌+◌, Bool, not, ◌&&◌, if◌then◌else◌, List, [], ◌∷◌, slice_get, Option, Some, None, is_some}
use Rattle.ir_ast.specs.Names.{name_at}
use Rattle.ir_ast.specs.Shapes.{root_shape}
use Rattle.ir_ast.specs.declared.function.Function.{Function}
use Rattle.ir_ast.specs.declared.module.Module.{Module}
use Rattle.certs.specs.RootNames.{root_names}

-- the module says what a slot of a function refers to, by the local name of its alloca
abbrev pub is_shaped : Module → Function → (slot : ℕ) → Bool
is_shaped m f slot = is_some (root_shape m.shapes f.symbol (name_at f.locals slot))

-- the first of the root slots among some local names of a function, from this one on, of which it does not say so
abbrev pub missing_from : Module → Function → (slot : ℕ) → (roots : List Bool) → Option ℕ
missing_from m f slot [] = None
missing_from m f slot (root ∷ roots) = if root && not (is_shaped m f slot) then Some slot else missing_from m f (slot + 1) roots

-- that of a function, if it is there and the module has shapes
abbrev pub missing_of : Module → Option Function → Option ℕ
missing_of m None = None
missing_of m (Some f) = if is_some m.shapes then missing_from m f 0 (root_names m f) else None

-- the first root slot of a function without a shape, where the module has shapes
abbrev pub missing_root : Module → (func : ℕ) → Option ℕ
missing_root m func = missing_of m (slice_get m.functions func)
