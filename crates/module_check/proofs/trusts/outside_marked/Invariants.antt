use Rattle.std.proofs.Common.{◌≡◌, ◌++◌, drop}
use Rattle.module_check.specs.Trusts.{outside_marked}
use Rattle.module_check.proofs.trusts.outside_marked.Given as goal

abbrev pub invariant-loop-declare : goal.invariant-loop-declare
invariant-loop-declare l = l.symbols ++ outside_marked l.of_module l.called (drop l.declare-index l.declares) ≡ outside_marked l.of_module l.called l.declares
