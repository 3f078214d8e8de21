use Rattle.std.proofs.Common.{◌∙◌}
use Rattle.runs.specs.Machine.{machine_of}
use Rattle.watched_serving.proofs.SafepointServed.{safepoint_served}
use Rattle.watched_serving.proofs.calls.safepoint_for.Goals as goal

pub returns-clause-ok : goal.returns-clause-ok
returns-clause-ok g c = safepoint_served (machine_of g.R.Machine.action g.R.Machine.after_answer g.R.Machine.roots) _ _ _ c.requires.may.ready c.requires.asked _ _ _ (c.as_slice.ensures.value ∙ c.in_ok-list_roots.ensures.cells)
    c.in_ok-answered.ensures.answered.0 c.in_ok-answered.ensures.answered.1 c.in_ok-answered.ensures.token
