-- Where no root slot of a function lacks a shape, the module's shapes fit the function.
use Rattle.std.proofs.Common.{◌≡◌, ℕ, None}
use Rattle.ir_ast.specs.declared.module.Module.{Module}
use Rattle.recheck.specs.RootShapes.{missing_root}
use Rattle.recheck.specs.ShapedRoots.{roots_there}
use Rattle.replaced_fits.specs.ReplacedFits.{AreRootsShaped}

pub shaped : (n : Module) (func : ℕ) → missing_root n func ≡ None → AreRootsShaped n func
shaped n func none given f same at = roots_there n func f given at same none
