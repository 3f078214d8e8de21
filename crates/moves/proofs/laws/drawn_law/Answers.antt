-- The law is that of every machine.
use Rattle.runs.specs.Machine.{machine_of}
use Rattle.moves.specs.Drawn.{drawn}
use Rattle.moves.proofs.laws.drawn_law.Goals as goal

pub returns-clause-is_run : goal.returns-clause-is_run
returns-clause-is_run g c s starts actors are = (drawn s (machine_of g.M.Machine.action g.M.Machine.after_answer g.M.Machine.roots) starts actors are).is_run

pub returns-clause-hints : goal.returns-clause-hints
returns-clause-hints g c s starts actors t are lt = (drawn s (machine_of g.M.Machine.action g.M.Machine.after_answer g.M.Machine.roots) starts actors are).tries t lt
