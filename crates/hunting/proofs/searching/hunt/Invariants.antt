-- some seeds were tried, and more come next
use Rattle.std.proofs.Common.{◌≤◌, ◌-◌}
use Rattle.hunting.proofs.searching.hunt.Given as goal

abbrev pub invariant-loop-next : goal.invariant-loop-next
invariant-loop-next l = record {
  low : l.first ≤ l.next;
  within : l.next ≤ l.past;
}

abbrev pub decreases-loop-next : goal.decreases-loop-next
decreases-loop-next l = l.past - l.next
