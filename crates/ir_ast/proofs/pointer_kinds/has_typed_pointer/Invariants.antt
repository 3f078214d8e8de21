use Rattle.std.proofs.Common.{◌≡◌, drop}
use Rattle.ir_ast.specs.PointerKinds.{has_typed}
use Rattle.ir_ast.proofs.pointer_kinds.has_typed_pointer.Given as goal

abbrev pub invariant-loop-number : goal.invariant-loop-number
invariant-loop-number l = has_typed (drop l.number l.types) ≡ has_typed l.types
