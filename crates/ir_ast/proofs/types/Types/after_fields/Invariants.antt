use Rattle.std.proofs.Common.{◌≡◌, Some}
use Rattle.ir_ast.specs.Fields.{after_fields}
use Rattle.ir_ast.proofs.types.Types.after_fields.Given as goal

abbrev pub invariant-loop-left : goal.invariant-loop-left
invariant-loop-left l = after_fields l.self (Some l.fn.written) l.fn.number ≡ after_fields l.self (Some l.to) l.left

abbrev pub decreases-loop-left : goal.decreases-loop-left
decreases-loop-left l = l.left
