use Rattle.std.proofs.Common.{[], ◌∷◌, ◌++◌, ap, sym, subst, arith}
use Rattle.moves.specs.Runs.{IsActor}
use Rattle.lemmas.specs.All.{all_join}
use Rattle.trace_text.specs.Traces.{step_sum}
use Rattle.trace_text.specs.declared.trace.Steps.{Steps}
use Rattle.hunting.specs.Parts.{AreOfActors}
use Rattle.hunting.proofs.Sums.{sum_append, sum_cons}
use Rattle.hunting.proofs.lines.add_line.Goals as goal

pub returns-clause-actors : goal.returns-clause-actors
returns-clause-actors c threads all actor =
    subst (λ l. AreOfActors threads l) (sym c.in_ok-push.ensures.ok)
    (all_join (λ (s : Steps). IsActor threads s.actor) c.args.lines.now (c.args.line ∷ []) all (actor, tt))

pub returns-clause-sum : goal.returns-clause-sum
returns-clause-sum c =
    let all = ap step_sum c.in_ok-push.ensures.ok in
    let parts = sum_append c.args.lines.now (c.args.line ∷ []) in
    let one = sum_cons c.args.line [] in
    omega (arith, all, parts, one)
