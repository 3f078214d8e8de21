use Rattle.runs.specs.Machine.{machine_of}
use Rattle.watched_serving.proofs.Arrivals.{tries_first, calls_first}
use Rattle.watched_serving.proofs.watching.serve.Goals as goal

pub serve_late-requires-clause-late : goal.serve_late-requires-clause-late
serve_late-requires-clause-late g c = tries_first (machine_of g.R.Machine.action g.R.Machine.after_answer g.R.Machine.roots) g.R.Runner.fits _ _ _ _ c.requires c.if-is_late.true

pub serve_begun-requires : goal.serve_begun-requires
serve_begun-requires g c = calls_first (machine_of g.R.Machine.action g.R.Machine.after_answer g.R.Machine.roots) g.R.Runner.fits _ _ _ _ c.requires c.if-is_late.false
