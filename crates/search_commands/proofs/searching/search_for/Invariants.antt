-- the seeds so far are sound, and more come next
use Rattle.std.proofs.Common.{◌-◌, ◌≤◌, ◌<◌}
use Rattle.search_commands.specs.Sources.{AreSound}
use Rattle.search_commands.proofs.searching.search_for.Given as goal

abbrev pub invariant-loop-next : goal.invariant-loop-next
invariant-loop-next g l = record {
  sound : AreSound l.source l.search.drawn_values l.search.steps l.search.first l.next;
  low : l.search.first ≤ l.next;
  within : l.next ≤ l.past;
  least : 0 < l.pace.least;
  size : 0 < l.pace.size;
}

abbrev pub decreases-loop-next : goal.decreases-loop-next
decreases-loop-next g l = l.past - l.next
