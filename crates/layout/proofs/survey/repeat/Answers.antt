use Rattle.layout.proofs.Moves.{grown}
use Rattle.layout.proofs.survey.repeat.Goals as goal

pub loop-left-preserved : goal.loop-left-preserved
loop-left-preserved c = grown _ _ _ _ _ _ c.requires c.loop-left.invariant c.loop-left-test.true c.in_ok-copy.ensures
