use Rattle.std.proofs.Common.{◌≡◌, drop}
use Rattle.module_check.specs.Trusts.{mark_functions}
use Rattle.module_check.proofs.trusts.mark_functions.Given as goal

abbrev pub invariant-loop-function : goal.invariant-loop-function
invariant-loop-function l = mark_functions l.functions l.fn.called ≡ mark_functions (drop l.function-index l.functions) l.called
