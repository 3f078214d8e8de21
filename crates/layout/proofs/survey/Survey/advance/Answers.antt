use Rattle.layout.proofs.Moves.{arrives}
use Rattle.layout.specs.Steps.{is_ready}
use Rattle.layout.proofs.survey.Survey.advance.Goals as goal

pub turn-turn-requires : goal.turn-turn-requires
turn-turn-requires c = record { ready = is_ready _ _ _ c.args.stack.now.items _ c.requires.survey }

pub returns : goal.returns
returns c = arrives _ _ _ _ _ c.requires.survey _ c.turn-turn.ensures.turn _ _ _ c.in_ok-take.ensures.marks c.in_ok-take.ensures.fields c.in_ok-take.ensures.stack
