use Rattle.runs.specs.Machine.{machine_of}
use Rattle.serving.proofs.Conditions.{may_read}
use Rattle.serving.proofs.ReadServed.{read_served}
use Rattle.serving.proofs.calls.read_for.Goals as goal

pub read-value-requires-clause-cell : goal.read-value-requires-clause-cell
read-value-requires-clause-cell g c = (may_read _ _ _ _ _ c.requires.may.served.2 c.requires.may.ready.ready c.is_of_run_law.ensures.possible _ _ _ c.cell_of-cell.ensures c.requires.asked).0

pub read-value-requires-clause-word : goal.read-value-requires-clause-word
read-value-requires-clause-word g c = (may_read _ _ _ _ _ c.requires.may.served.2 c.requires.may.ready.ready c.is_of_run_law.ensures.possible _ _ _ c.cell_of-cell.ensures c.requires.asked).1

pub returns : goal.returns
returns g c = read_served (machine_of g.R.Machine.action g.R.Machine.after_answer g.R.Machine.roots) _ _ _ c.requires.may.ready _ _ _ c.cell_of-cell.ensures _ _ c.requires.asked
    (may_read _ _ _ _ _ c.requires.may.served.2 c.requires.may.ready.ready c.is_of_run_law.ensures.possible _ _ _ c.cell_of-cell.ensures c.requires.asked).1 c.read-value.ensures.possible c.read-value.type_inv c.read-value.ensures.log
