use Rattle.std.proofs.Common.{◌≡◌, length}
use Rattle.messages.specs.Instructions.{with_tokens, names_before}
use Rattle.messages.proofs.instructions.names_before.Given as goal

abbrev pub invariant-loop-left : goal.invariant-loop-left
invariant-loop-left l = with_tokens l.of_module l.text l.left l.before ≡ names_before l.fn.of_module l.fn.text l.fn.tokens

abbrev pub decreases-loop-left : goal.decreases-loop-left
decreases-loop-left l = length l.left
