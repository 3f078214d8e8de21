use Rattle.std.proofs.Common.{◌≡◌, ◌++◌, take}
use Rattle.std.specs.List.{flat_map}
use Rattle.trace_text.specs.Print.{steps_line}
use Rattle.trace_text.proofs.print.put_all_steps.Given as goal

abbrev pub invariant-loop-steps : goal.invariant-loop-steps
invariant-loop-steps l = l.out.items ≡ l.fn.out.items ++ flat_map steps_line (take l.steps-index l.fn.steps)
