use Rattle.layout.specs.Survey.{IsSettling, turns_left}
use Rattle.layout.proofs.survey.Survey.settle.Given as goal

abbrev pub invariant-loop-top : goal.invariant-loop-top
invariant-loop-top l = IsSettling l.«module» l.fn.self.marks l.fn.written l.self.marks l.self.fields.items l.stack.items

abbrev pub decreases-loop-top : goal.decreases-loop-top
decreases-loop-top l = turns_left l.self.marks l.stack.items
