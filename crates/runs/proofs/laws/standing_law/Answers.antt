-- The law is that of every machine.
use Rattle.runs.specs.Machine.{machine_of}
use Rattle.runs.specs.Standings.{begins, goes_on}
use Rattle.runs.proofs.laws.standing_law.Goals as goal

pub returns-clause-begun : goal.returns-clause-begun
returns-clause-begun g c s starts t = begins s (machine_of g.M.Machine.action g.M.Machine.after_answer g.M.Machine.roots) starts t

pub returns-clause-goes_on : goal.returns-clause-goes_on
returns-clause-goes_on g c s starts run t thread_state x = goes_on s (machine_of g.M.Machine.action g.M.Machine.after_answer g.M.Machine.roots) starts run t thread_state x
