use Rattle.std.proofs.Common.{◌∙◌, ap, sym}
use Rattle.moves.specs.Calls.{action_of}
use Rattle.runs.specs.Machine.{machine_of}
use Rattle.watched_serving.proofs.Endings.{local_served, asks_for_more}
use Rattle.watched_serving.proofs.watching.make_call.Goals as goal

pub unreachable-requires : goal.unreachable-requires
unreachable-requires g c = asks_for_more c.args.call (g.R.Machine.action c.args.machine.now) c.requires.asked c.requires.not_end c.in-End.is

pub returns-in-Local-clause-ok : goal.returns-in-Local-clause-ok
returns-in-Local-clause-ok g c = local_served (machine_of g.R.Machine.action g.R.Machine.after_answer g.R.Machine.roots) _ _ _ c.requires.may.ready (sym c.requires.asked ∙ ap action_of c.in-Local.is)
