use Rattle.std.proofs.Common.{◌≡◌, drop}
use Rattle.block_rules.specs.Calls.{drop_arguments}
use Rattle.block_rules.proofs.calls.drop_arguments.Given as goal

abbrev pub invariant-loop-argument : goal.invariant-loop-argument
invariant-loop-argument l = drop_arguments l.fn.arguments l.fn.facts ≡ drop_arguments (drop l.argument-index l.fn.arguments) l.facts
