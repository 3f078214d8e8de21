use Rattle.serving.proofs.Turns.{Made}
use Rattle.serving.proofs.collecting.collect.Given as goal

abbrev pub invariant-loop-made : goal.invariant-loop-made
invariant-loop-made l = Made l.fn.sweeper l.made l.sweeper
