-- The law is that of every machine.
use Rattle.runs.specs.Machine.{machine_of}
use Rattle.runs.specs.Causes.{shows_broken, one_cause, some_cause}
use Rattle.runs.proofs.laws.cause_law.Goals as goal

pub returns : goal.returns
returns g c s starts run =
    let m = machine_of g.M.Machine.action g.M.Machine.after_answer g.M.Machine.roots in
    record {
      broken = λ cause x. shows_broken s m starts run cause x.shows;
      one = one_cause s m starts run;
      some = some_cause s m starts run;
    }
