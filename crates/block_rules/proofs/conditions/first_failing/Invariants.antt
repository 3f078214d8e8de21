use Rattle.std.proofs.Common.{◌≡◌, drop}
use Rattle.block_rules.specs.FirstFailing.{first_failing}
use Rattle.block_rules.proofs.conditions.first_failing.Given as goal

abbrev pub invariant-loop-rule : goal.invariant-loop-rule
invariant-loop-rule l = first_failing l.fn.conditions ≡ first_failing (drop l.rule-index l.fn.conditions)
