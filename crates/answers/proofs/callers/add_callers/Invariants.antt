use Rattle.std.proofs.Common.{◌≡◌, ◌∷◌}
use Rattle.answers.specs.Edited.{callers_below}
use Rattle.answers.proofs.callers.add_callers.Given as goal

abbrev pub invariant-loop-number : goal.invariant-loop-number
invariant-loop-number l = l.touched ≡ l.fn.called ∷ callers_below l.fn.module l.fn.called l.number
