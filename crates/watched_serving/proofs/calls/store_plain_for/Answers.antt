use Rattle.runs.specs.Machine.{machine_of}
use Rattle.runs.specs.Shares.{same_cell}
use Rattle.watched_serving.proofs.ReadServed.{plain_served}
use Rattle.watched_serving.proofs.calls.store_plain_for.Goals as goal

pub returns-clause-ok : goal.returns-clause-ok
returns-clause-ok g c = plain_served (machine_of g.R.Machine.action g.R.Machine.after_answer g.R.Machine.roots) _ _ _ c.requires.may.ready _ _ _ c.cell_of-cell.ensures _ _ _ c.requires.asked (same_cell c.value.view_is) c.in_ok-store_plain.ensures.stored
