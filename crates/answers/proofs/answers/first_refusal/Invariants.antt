use Rattle.std.proofs.Common.{◌≡◌, drop}
use Rattle.answers.specs.Answers.{first_refusal}
use Rattle.answers.proofs.answers.first_refusal.Given as goal

abbrev pub invariant-loop-answer : goal.invariant-loop-answer
invariant-loop-answer l = first_refusal l.fn.answers ≡ first_refusal (drop l.answer-index l.fn.answers)
