-- The law is that of every machine.
use Rattle.runs.specs.Machine.{machine_of}
use Rattle.runs.proofs.RealThreads.{meets_conditions}
use Rattle.runs.proofs.laws.real_thread_law.Goals as goal

pub returns : goal.returns
returns g c s = meets_conditions s (machine_of g.M.Machine.action g.M.Machine.after_answer g.M.Machine.roots)
