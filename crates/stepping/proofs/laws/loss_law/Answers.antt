-- The law is that of every machine.
use Rattle.runs.specs.Machine.{machine_of}
use Rattle.stepping.proofs.Losses.{nothing-lost}
use Rattle.stepping.proofs.laws.loss_law.Goals as goal

pub returns : goal.returns
returns g c = λ s starts run happening is_run loses none. nothing-lost s (machine_of g.M.Machine.action g.M.Machine.after_answer g.M.Machine.roots) starts run happening is_run loses none
