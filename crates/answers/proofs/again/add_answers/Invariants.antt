use Rattle.std.proofs.Common.{◌≡◌, length}
use Rattle.answers.specs.Edited.{AreAnswersToFirst}
use Rattle.answers.proofs.again.add_answers.Given as goal

abbrev pub invariant-loop-place : goal.invariant-loop-place
invariant-loop-place l = (length l.answers ≡ l.place) × AreAnswersToFirst l.fn.program l.fn.certs.sections l.fn.funcs l.answers
