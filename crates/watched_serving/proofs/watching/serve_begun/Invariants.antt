use Rattle.runs.specs.Machine.{machine_of}
use Rattle.serving.specs.Serving.{AreListed}
use Rattle.watched_serving.proofs.Loops.{Stands}
use Rattle.watched_serving.proofs.watching.serve_begun.Given as goal

abbrev pub invariant-loop-made : goal.invariant-loop-made
invariant-loop-made g l = Stands (machine_of g.R.Machine.action g.R.Machine.after_answer g.R.Machine.roots) g.R.Runner.fits l.heap l.fn.me l.fn.machine l._made l.me l.machine × AreListed l.roots (g.R.Machine.roots l.machine)
