-- Names of intrinsics.
use Rattle.std.specs.Prelude.{ℕ, Bool, true, false, not, ◌&&◌, ◌||◌, List, Option, Some, None, take, length, nat_le, codes}
use Rattle.std.specs.Str.{bytes_eq}
use Rattle.ir_ast.specs.RuntimeNames.{runtime_of}
use Rattle.ir_ast.specs.declared.runtime.Runtime.{Runtime}
use Rattle.ir_ast.specs.declared.runtime.Runtime.TheVariants.{Integer, Float}

-- the name begins with `llvm.`
abbrev pub is_intrinsic : List ℕ → Bool
is_intrinsic name = nat_le 5 (length name) && bytes_eq (take 5 name) (codes "llvm.")

-- what a name means may stand in a text; functions of numbers may where the wide forms may
abbrev pub may_be_named : (wide : Bool) → Option Runtime → Bool
may_be_named wide None = false
may_be_named wide (Some (Integer function bits)) = wide
may_be_named wide (Some (Float function bits)) = wide
may_be_named wide (Some _) = true

-- intrinsics other than those are left out
abbrev pub is_left_out : (wide : Bool) → List ℕ → Bool
is_left_out wide name = is_intrinsic name && not (may_be_named wide (runtime_of name))

-- a name begins with these bytes
abbrev pub begins_with : (front name : List ℕ) → Bool
begins_with front name = nat_le (length front) (length name) && bytes_eq (take (length front) name) front

-- the name is one of an intrinsic whose calls have no effect on the module
abbrev pub has_no_effect : List ℕ → Bool
has_no_effect name =
    begins_with (codes "llvm.lifetime.") name || begins_with (codes "llvm.dbg.") name || begins_with (codes "llvm.prefetch") name
    || begins_with (codes "llvm.invariant.end") name || begins_with (codes "llvm.var.annotation") name
    || bytes_eq name (codes "llvm.assume") || bytes_eq name (codes "llvm.donothing") || bytes_eq name (codes "llvm.experimental.noalias.scope.decl")

-- calls of it are dropped where the wide forms may stand
abbrev pub is_dropped : List ℕ → Bool
is_dropped name = is_left_out true name && has_no_effect name
