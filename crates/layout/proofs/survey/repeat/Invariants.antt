use Rattle.std.proofs.Common.{◌≡◌, ◌≤◌, ◌-◌, ◌++◌}
use Rattle.layout.specs.Words.{copies}
use Rattle.layout.specs.Survey.{fields_at}
use Rattle.layout.proofs.survey.repeat.Given as goal

abbrev pub invariant-loop-left : goal.invariant-loop-left
invariant-loop-left l = (l.fields.items ≡ l.fn.fields.items ++ copies (l.fn.times - l.left) (fields_at l.fn.fields.items l.fn.span)) × (l.left ≤ l.fn.times)

abbrev pub decreases-loop-left : goal.decreases-loop-left
decreases-loop-left l = l.left
