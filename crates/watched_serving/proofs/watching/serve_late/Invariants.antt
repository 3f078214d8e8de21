use Rattle.std.proofs.Common.{◌≡◌, ◌*◌}
use Rattle.runs.specs.Machine.{machine_of}
use Rattle.watched_serving.specs.Tries.{HasTried}
use Rattle.watched_serving.proofs.watching.serve_late.Given as goal

abbrev pub invariant-loop-tries : goal.invariant-loop-tries
invariant-loop-tries g l = (l.machine ≡ l.fn.machine) × HasTried (machine_of g.R.Machine.action g.R.Machine.after_answer g.R.Machine.roots) g.R.Runner.fits l.heap l.fn.me l.fn.machine (l.tries * 4) l.me
