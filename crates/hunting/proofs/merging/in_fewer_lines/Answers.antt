use Rattle.std.proofs.Common.{◌∙◌, length, refl, ap, sym, subst}
use Rattle.std.specs.List.{AllByRecursion}
use Rattle.moves.specs.Runs.{IsActor}
use Rattle.trace_text.specs.declared.trace.Steps.{Steps}
use Rattle.replay.specs.Lists.{actors_of}
use Rattle.hunting.proofs.Merges.{same_trace}
use Rattle.hunting.proofs.merging.in_fewer_lines.Goals as goal

pub returns-in-Ok-clause-is_trace : goal.returns-in-Ok-clause-is_trace
returns-in-Ok-clause-is_trace c p is =
    let trace = c.args.trace in
    let lines = c.in-Ok.ensures in
    let same = c.as_slice.ensures in
    let P = λ (s : Steps). IsActor (length trace.setup.starts) s.actor in
    same_trace p trace trace.setup c.in-Ok.steps refl is (lines.actors ∙ ap actors_of same)
    (lines.either (length trace.setup.starts) (subst (AllByRecursion P) (sym same) is.actors))

pub returns-in-Ok-clause-actors : goal.returns-in-Ok-clause-actors
returns-in-Ok-clause-actors c = c.in-Ok.ensures.actors ∙ ap actors_of c.as_slice.ensures
