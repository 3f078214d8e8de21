use Rattle.std.proofs.Common.{◌≡◌, length}
use Rattle.answers.specs.Answers.{AreAnswersSoFar}
use Rattle.answers.proofs.answers.put_answers.Given as goal

abbrev pub invariant-loop-number : goal.invariant-loop-number
invariant-loop-number l = (length l.answers ≡ l.number) × AreAnswersSoFar l.fn.program l.fn.certs.sections l.answers
