use Rattle.std.proofs.Common.{ap, sym, subst}
use Rattle.std.specs.List.{AllByRecursion}
use Rattle.moves.specs.Runs.{IsActor}
use Rattle.trace_text.specs.declared.trace.Steps.{Steps}
use Rattle.replay.specs.Lists.{actors_of}
use Rattle.hunting.proofs.merging.Merging.close.Goals as goal

pub returns-clause-actors : goal.returns-clause-actors
returns-clause-actors c = ap actors_of c.in_ok-push.ensures.ok

pub returns-clause-either : goal.returns-clause-either
returns-clause-either c threads all = subst (AllByRecursion (λ (s : Steps). IsActor threads s.actor)) (sym c.in_ok-push.ensures.ok) all
