use Rattle.std.proofs.Common.{◌≡◌, length}
use Rattle.answers.specs.Edited.{put_first}
use Rattle.answers.proofs.again.put_answers.Given as goal

abbrev pub invariant-loop-place : goal.invariant-loop-place
invariant-loop-place l = (l.answers ≡ put_first l.fn.funcs l.fn.anew l.fn.answers l.place) × (length l.answers ≡ length l.fn.answers)
