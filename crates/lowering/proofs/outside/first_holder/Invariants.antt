use Rattle.std.proofs.Common.{◌≡◌, drop}
use Rattle.lowering.specs.Outside.{first_holder}
use Rattle.lowering.proofs.outside.first_holder.Given as goal

abbrev pub invariant-loop-function : goal.invariant-loop-function
invariant-loop-function l = first_holder (drop l.function-index l.functions) ≡ first_holder l.functions
