-- The law, clause by clause.
use Rattle.handshake.proofs.Law.{kept_alive, touches_alive, answers_possible}
use Rattle.handshake.proofs.laws.mutator_law.Goals as goal

pub returns-clause-kept : goal.returns-clause-kept
returns-clause-kept c s run h = kept_alive s run h.0 h.1

pub returns-clause-touched : goal.returns-clause-touched
returns-clause-touched c s run t step h = touches_alive s run t step h.0 h.1

pub returns-clause-answered : goal.returns-clause-answered
returns-clause-answered c s run t step h = answers_possible s run t step h.0 h.1
