use Rattle.runs.specs.Machine.{machine_of}
use Rattle.serving.proofs.Conditions.{may_write}
use Rattle.serving.proofs.WriteServed.{write_served}
use Rattle.serving.proofs.calls.write_for.Goals as goal

pub write-requires-clause-cell : goal.write-requires-clause-cell
write-requires-clause-cell g c = (may_write _ _ _ _ _ c.requires.may.served.2 c.requires.may.ready.ready c.is_of_run_law.ensures.possible _ _ _ _ _ c.cell_of-cell.ensures c.cell_of-new.ensures c.requires.asked).0

pub write-requires-clause-word : goal.write-requires-clause-word
write-requires-clause-word g c = (may_write _ _ _ _ _ c.requires.may.served.2 c.requires.may.ready.ready c.is_of_run_law.ensures.possible _ _ _ _ _ c.cell_of-cell.ensures c.cell_of-new.ensures c.requires.asked).1

pub write-requires-clause-new : goal.write-requires-clause-new
write-requires-clause-new g c = (may_write _ _ _ _ _ c.requires.may.served.2 c.requires.may.ready.ready c.is_of_run_law.ensures.possible _ _ _ _ _ c.cell_of-cell.ensures c.cell_of-new.ensures c.requires.asked).2

pub returns : goal.returns
returns g c = write_served (machine_of g.R.Machine.action g.R.Machine.after_answer g.R.Machine.roots) _ _ _ c.requires.may.ready _ _ _ _ _ _ c.cell_of-cell.ensures c.cell_of-new.ensures c.requires.asked
    c.write.ensures.token.0 c.write.ensures.token.1 (c.write.result, c.write.ensures.log)
