-- The law is that of every machine and every predicate.
use Rattle.runs.specs.Machine.{machine_of}
use Rattle.runs.specs.Calls.{all_careful}
use Rattle.runs.proofs.laws.soundness_law.Goals as goal

pub returns-clause-careful : goal.returns-clause-careful
returns-clause-careful g c s starts sound = all_careful s (machine_of g.M.Machine.action g.M.Machine.after_answer g.M.Machine.roots) (g.M.Judged.sound s) starts sound

pub returns-clause-safe : goal.returns-clause-safe
returns-clause-safe g c s starts setup sound =
    c.safety_law.ensures.safe s starts setup (all_careful s (machine_of g.M.Machine.action g.M.Machine.after_answer g.M.Machine.roots) (g.M.Judged.sound s) starts sound)
