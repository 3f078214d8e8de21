use Rattle.std.proofs.Common.{[], ◌∷◌, ◌++◌, ap, ◌∙◌}
use Rattle.layout.proofs.Moves.{goes_on, fewer_left, starts}
use Rattle.layout.proofs.survey.Survey.settle.Goals as goal

pub loop-top-init : goal.loop-top-init
loop-top-init c =
    starts _ _ _ _ _ _ _ c.requires.survey c.requires.is_new c.put.ensures.marks c.put.ensures.fields
    (c.in_ok-push.ensures.items ∙ ap (λ l. l ++ c.args.written ∷ []) c.new-stack.ensures.items)

pub loop-top-preserved : goal.loop-top-preserved
loop-top-preserved c = goes_on _ _ _ _ _ _ _ _ _ _ _ c.loop-top.invariant c.in-Some.ensures.items c.in_ok-advance.ensures

pub loop-top-smaller : goal.loop-top-smaller
loop-top-smaller c = fewer_left _ _ _ _ _ _ _ _ _ c.in-Some.ensures.items c.in_ok-advance.ensures
