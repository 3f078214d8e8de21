use Rattle.std.proofs.Common.{◌∙◌, List, length, refl, ap, sym, subst}
use Rattle.std.specs.List.{AllByRecursion}
use Rattle.moves.specs.Runs.{IsActor}
use Rattle.trace_text.specs.declared.trace.Steps.{Steps}
use Rattle.moves.specs.declared.actor.Actor.{Actor}
use Rattle.trace_text.specs.declared.trace.Setup.{Setup}
use Rattle.replay.specs.Lists.{actors_of, IsFirstBreak}
use Rattle.hunting.proofs.Drawn.{drawn_breaks, length-actors_drawn}
use Rattle.hunting.proofs.Merges.{same_trace, length-actors_of}
use Rattle.hunting.proofs.broken_seed.broken_trace.Goals as goal

pub returns-in-Ok-clause-is_trace : goal.returns-in-Ok-clause-is_trace
returns-in-Ok-clause-is_trace c p is =
    let drawn = c.in_ok-drawn.drawn in
    let traced = c.in_ok-drawn.ensures.is_trace p is c.requires.few in
    let lines = c.in-Ok.ensures in
    let same = c.as_slice.ensures in
    same_trace p drawn drawn.setup c.in-Ok.steps refl traced (lines.actors ∙ ap actors_of same) (lines.either (length drawn.setup.starts) (subst (AllByRecursion (λ (s : Steps). IsActor (length drawn.setup.starts) s.actor)) (sym same) traced.actors))

pub returns-in-Ok-clause-steps : goal.returns-in-Ok-clause-steps
returns-in-Ok-clause-steps c = c.in-Ok.ensures.actors ∙ ap actors_of c.as_slice.ensures ∙ c.in_ok-drawn.ensures.steps

pub returns-in-Ok-clause-breaks : goal.returns-in-Ok-clause-breaks
returns-in-Ok-clause-breaks c p steps is =
    let drawn = c.in_ok-drawn.drawn in
    let b = c.args.at.broken in
    let n = length c.args.trace.setup.starts in
    let actors = c.in-Ok.ensures.actors ∙ ap actors_of c.as_slice.ensures ∙ c.in_ok-drawn.ensures.steps in
    subst (λ (setup : Setup). IsFirstBreak p setup (actors_of c.in-Ok.steps) b) (sym c.in_ok-drawn.ensures.setup)
    (subst (λ (l : List Actor). IsFirstBreak p c.args.trace.setup l b) (sym actors) (drawn_breaks p c.args.trace.setup n c.args.at.seed steps b is))

pub returns-in-Ok-clause-ends : goal.returns-in-Ok-clause-ends
returns-in-Ok-clause-ends c =
    let actors = c.in-Ok.ensures.actors ∙ ap actors_of c.as_slice.ensures ∙ c.in_ok-drawn.ensures.steps in
    sym (length-actors_of c.in-Ok.steps) ∙ ap length actors ∙ length-actors_drawn (length c.args.trace.setup.starts) c.args.at.seed c.args.at.broken.step
