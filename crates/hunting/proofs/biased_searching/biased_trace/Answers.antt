use Rattle.std.proofs.Common.{ap, arith}
use Rattle.trace_text.specs.Traces.{step_sum}
use Rattle.hunting.proofs.biased_searching.biased_trace.Goals as goal

pub returns-clause-few : goal.returns-clause-few
returns-clause-few c =
    let same = ap step_sum c.in_ok-trace.ensures.steps in
    let few = c.in_ok-drawn.ensures.few in
    let least = c.min-steps.ensures in
    omega (arith, same, few, least)
