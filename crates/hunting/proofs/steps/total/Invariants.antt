-- the steps of the lines so far
use Rattle.std.proofs.Common.{◌≡◌, take}
use Rattle.trace_text.specs.Traces.{step_sum}
use Rattle.hunting.proofs.steps.total.Given as goal

abbrev pub invariant-loop-line : goal.invariant-loop-line
invariant-loop-line l = l.total ≡ step_sum (take l.line-index l.lines)
