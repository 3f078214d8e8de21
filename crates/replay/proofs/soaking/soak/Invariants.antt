use Rattle.std.proofs.Common.{◌-◌, ◌≤◌}
use Rattle.replay.specs.DrawnValues.{setup_of_seed}
use Rattle.replay.specs.Soaks.{AreSoundFrom}
use Rattle.replay.proofs.soaking.soak.Given as goal

abbrev pub invariant-loop-next : goal.invariant-loop-next
invariant-loop-next g l = record {
  sound : AreSoundFrom l.program (setup_of_seed l.fn.schedules.drawn_values l.program l.setup) l.fn.schedules.steps l.fn.schedules.first l.next;
  low : l.fn.schedules.first ≤ l.next;
  within : l.next ≤ l.fn.schedules.past;
}

abbrev pub decreases-loop-next : goal.decreases-loop-next
decreases-loop-next g l = l.fn.schedules.past - l.next
