use Rattle.std.proofs.Common.{◌≡◌, true, take}
use Rattle.std.specs.List.{list_all}
use Rattle.whole_certs.specs.Roots.{are_roots_shaped}
use Rattle.whole_certs.proofs.roots.each_function_is_shaped.Given as goal

abbrev pub invariant-loop-function : goal.invariant-loop-function
invariant-loop-function l = list_all (are_roots_shaped l.module l.shapes) (take l.function-index l.functions) ≡ true
