use Rattle.runs.specs.Machine.{machine_of}
use Rattle.stepping.proofs.CoverSteps.{quiet-stays}
use Rattle.stepping.proofs.laws.cover_law.Goals as goal

pub returns : goal.returns
returns g c s starts before actor made cover are is quiet known =
    quiet-stays s (machine_of g.M.Machine.action g.M.Machine.after_answer g.M.Machine.roots) starts before actor are made is quiet cover known
