-- The law is that of every machine.
use Rattle.runs.specs.Machine.{machine_of}
use Rattle.moves.specs.Stands.{standing}
use Rattle.moves.specs.Sights.{next_in_words}
use Rattle.moves.proofs.laws.sight_law.Goals as goal

pub returns : goal.returns
returns g c s starts run t thread_state shared afterwards stands =
    next_in_words s (machine_of g.M.Machine.action g.M.Machine.after_answer g.M.Machine.roots) starts run t (standing s (machine_of g.M.Machine.action g.M.Machine.after_answer g.M.Machine.roots) thread_state) shared afterwards stands
