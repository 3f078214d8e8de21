use Rattle.std.proofs.Common.{◌∙◌}
use Rattle.runs.specs.Machine.{machine_of}
use Rattle.serving.proofs.Conditions.{may_name}
use Rattle.serving.proofs.SafepointServed.{safepoint_kept, safepoint_answered, may_name_then}
use Rattle.serving.proofs.calls.safepoint_for.Goals as goal

pub returns-in_default-clause-ok : goal.returns-in_default-clause-ok
returns-in_default-clause-ok g c = safepoint_kept (machine_of g.R.Machine.action g.R.Machine.after_answer g.R.Machine.roots) _ _ _ c.requires.may.ready c.requires.asked _ c.in_default.ensures.same.0 c.in_default.ensures.same.1

pub respond-requires-clause-roots : goal.respond-requires-clause-roots
respond-requires-clause-roots g c = may_name_then (machine_of g.R.Machine.action g.R.Machine.after_answer g.R.Machine.roots) _ _ _ c.requires.may.ready c.requires.asked _ _ c.in-Some.ensures.other.0 c.in-Some.ensures.other.1
    (may_name (machine_of g.R.Machine.action g.R.Machine.after_answer g.R.Machine.roots) _ _ _ _ c.requires.may.served.2 c.requires.may.ready.ready c.is_of_run_law.ensures.possible) _ (c.as_slice.ensures.value ∙ c.in_ok-list.ensures.cells)

pub returns-clause-ok : goal.returns-clause-ok
returns-clause-ok g c = safepoint_answered (machine_of g.R.Machine.action g.R.Machine.after_answer g.R.Machine.roots) _ _ _ c.requires.may.ready c.requires.asked _ _ c.in-Some.ensures.other.0 c.in-Some.ensures.other.1
    _ _ (c.as_slice.ensures.value ∙ c.in_ok-list.ensures.cells) c.respond.ensures.log c.respond.ensures.token
