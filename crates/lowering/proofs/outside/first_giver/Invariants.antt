use Rattle.std.proofs.Common.{◌≡◌, drop}
use Rattle.lowering.specs.Outside.{first_giver}
use Rattle.lowering.proofs.outside.first_giver.Given as goal

abbrev pub invariant-loop-declare : goal.invariant-loop-declare
invariant-loop-declare l = first_giver l.of_module (drop l.declare-index l.declares) ≡ first_giver l.of_module l.declares
