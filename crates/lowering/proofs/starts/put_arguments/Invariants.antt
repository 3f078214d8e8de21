use Rattle.std.proofs.Common.{◌≡◌, ◌++◌, drop}
use Rattle.lowering.specs.Starts.{argument_lines}
use Rattle.lowering.specs.Rows.{numbered}
use Rattle.lowering.proofs.starts.put_arguments.Given as goal

abbrev pub invariant-loop-parameter : goal.invariant-loop-parameter
invariant-loop-parameter l = (l.place ≡ l.parameter-index) × (l.out.items ++ numbered (argument_lines l.«module») l.place (drop l.parameter-index l.parameters) ≡ l.fn.out.items ++ numbered (argument_lines l.«module») 0 l.parameters)
