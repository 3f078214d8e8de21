use Rattle.std.proofs.Common.{◌≡◌, ◌++◌, take}
use Rattle.std.specs.List.{flat_map}
use Rattle.ir_print.specs.Ends.{case_text}
use Rattle.ir_print.proofs.ends.put_cases.Given as goal

abbrev pub invariant-loop-case : goal.invariant-loop-case
invariant-loop-case l = l.out.items ≡ l.fn.out.items ++ flat_map (case_text l.scope.of_module.now l.scope.locals.now l.written) (take l.case-index l.cases)
