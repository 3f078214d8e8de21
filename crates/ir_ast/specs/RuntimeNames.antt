-- The names of the runtime's functions, and of the intrinsics.
use Rattle.std.specs.Prelude.{ℕ, if◌then◌else◌, List, Option, Some, None, codes}
use Rattle.std.specs.Str.{bytes_eq}
use Rattle.ir_ast.specs.IntegerFunctions.{integers_named}
use Rattle.ir_ast.specs.FloatFunctions.{floats_named}
use Rattle.ir_ast.specs.declared.runtime.Runtime.{Runtime}
use Rattle.ir_ast.specs.declared.runtime.Runtime.TheVariants.{Alloc, Safepoint, GcRoot, GcRead, GcWrite}

-- the function on integers or on floating point numbers with a name, by what it is as one on integers
abbrev pub numbers_named : List ℕ → Option Runtime → Option Runtime
numbers_named name (Some named) = Some named
numbers_named name None = floats_named name

-- the function of the runtime, or the intrinsic, that has this name
abbrev pub runtime_of : List ℕ → Option Runtime
runtime_of name =
    if bytes_eq name (codes "dg_alloc") then Some Alloc
    else (if bytes_eq name (codes "dg_safepoint") then Some Safepoint
    else (if bytes_eq name (codes "llvm.gcroot") then Some GcRoot
    else (if bytes_eq name (codes "llvm.gcread") then Some GcRead
    else (if bytes_eq name (codes "llvm.gcwrite") then Some GcWrite
    else numbers_named name (integers_named name)))))
