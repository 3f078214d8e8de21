use Rattle.runs.specs.Machine.{machine_of}
use Rattle.watched_serving.proofs.WriteServed.{write_served}
use Rattle.watched_serving.proofs.calls.write_for.Goals as goal

pub returns-clause-ok : goal.returns-clause-ok
returns-clause-ok g c = write_served (machine_of g.R.Machine.action g.R.Machine.after_answer g.R.Machine.roots) _ _ _ c.requires.may.ready _ _ _ _ _ _ c.cell_of-cell.ensures c.cell_of-new.ensures c.requires.asked
    c.in_ok-write.ensures.written.0 c.in_ok-write.ensures.token (c.in_ok-write.ensures.written.1, c.in_ok-write.ensures.written.2)
