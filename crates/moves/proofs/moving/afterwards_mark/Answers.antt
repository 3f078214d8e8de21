-- After the mark of its next root a thread has marked one more.
use Rattle.moves.specs.Marked.{answering-mark}
use Rattle.moves.proofs.moving.afterwards_mark.Goals as goal

pub returns-in-Answering : goal.returns-in-Answering
returns-in-Answering c s stage cells roots next = answering-mark s stage cells roots c.args.call_phase c.in-Answering.stage c.in-Answering.marked c.args.cell c.in-Answering.is next
