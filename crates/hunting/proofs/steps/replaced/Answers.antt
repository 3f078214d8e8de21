use Rattle.std.proofs.Common.{◌≡◌, ◌≤◌, ◌∙◌, List, length, ap, sym, subst, arith}
use Rattle.std.proofs.lemmas.Result.{IfOk-weaker}
use Rattle.trace_text.specs.Traces.{step_sum}
use Rattle.trace_text.specs.declared.trace.Steps.{Steps}
use Rattle.hunting.specs.Parts.{AreOfActors}
use Rattle.hunting.proofs.Sums.{all_replaced, joined_parts, sum_replaced}
use Rattle.hunting.proofs.steps.replaced.Goals as goal

pub with_steps-requires-clause-actors : goal.with_steps-requires-clause-actors
with_steps-requires-clause-actors c =
    let lines = c.args.trace.now.steps in
    let others = c.args.others.now in
    let from = c.args.places.0 in
    let to = c.args.places.1 in
    let same = joined_parts from to lines c.as_slice-lines.result.now c.front.result.now others c.back.result.now c.in_ok-steps.steps c.as_slice-lines.ensures c.front.ensures c.back.ensures c.in_ok-steps.ensures in
    subst (λ (l : List Steps). AreOfActors (length c.args.trace.now.setup.starts) l) (sym same)
    (all_replaced (length c.args.trace.now.setup.starts) from to lines others c.requires.is_trace.actors c.requires.actors)

pub with_steps-requires-clause-few : goal.with_steps-requires-clause-few
with_steps-requires-clause-few c =
    let lines = c.args.trace.now.steps in
    let others = c.args.others.now in
    let from = c.args.places.0 in
    let to = c.args.places.1 in
    let same = joined_parts from to lines c.as_slice-lines.result.now c.front.result.now others c.back.result.now c.in_ok-steps.steps c.as_slice-lines.ensures c.front.ensures c.back.ensures c.in_ok-steps.ensures in
    let sum = sum_replaced from to lines others c.requires.order c.requires.few in
    let few = c.requires.is_trace.steps in
    let whole = ap step_sum same in
    omega (arith, sum, few, whole)

pub returns-clause-steps : goal.returns-clause-steps
returns-clause-steps c =
    let lines = c.args.trace.now.steps in
    let others = c.args.others.now in
    let from = c.args.places.0 in
    let to = c.args.places.1 in
    let same = joined_parts from to lines c.as_slice-lines.result.now c.front.result.now others c.back.result.now c.in_ok-steps.steps c.as_slice-lines.ensures c.front.ensures c.back.ensures c.in_ok-steps.ensures in
    IfOk-weaker c.with_steps.result _ _ (λ made is. is ∙ same) c.with_steps.ensures.steps
