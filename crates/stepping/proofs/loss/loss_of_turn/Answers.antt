use Rattle.stepping.proofs.Collects.{frees-none}
use Rattle.stepping.proofs.loss.loss_of_turn.Goals as goal

pub returns-in_default : goal.returns-in_default
returns-in_default c = frees-none c.args.turn c.in_default.not-Free
