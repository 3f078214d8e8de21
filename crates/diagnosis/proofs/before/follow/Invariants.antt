use Rattle.std.proofs.Common.{◌≡◌, drop}
use Rattle.diagnosis.specs.Before.{after_all}
use Rattle.diagnosis.proofs.before.follow.Given as goal

abbrev pub invariant-loop-instr : goal.invariant-loop-instr
invariant-loop-instr l = after_all l.fn.context l.initial.facts l.fn.body ≡ after_all l.fn.context l.facts (drop l.instr-index l.body)
