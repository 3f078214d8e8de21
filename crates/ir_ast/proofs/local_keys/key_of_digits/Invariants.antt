use Rattle.std.proofs.Common.{◌≡◌, length}
use Rattle.ir_ast.specs.LocalKeys.{key_of_digits}
use Rattle.ir_ast.proofs.local_keys.key_of_digits.Given as goal

abbrev pub invariant-loop-left : goal.invariant-loop-left
invariant-loop-left l = key_of_digits l.digits ≡ key_of_digits l.left

abbrev pub decreases-loop-left : goal.decreases-loop-left
decreases-loop-left l = length l.left
