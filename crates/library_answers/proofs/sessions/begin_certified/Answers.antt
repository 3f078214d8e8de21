use Rattle.certs.specs.Plain.{one_for_each}
use Rattle.library_answers.proofs.sessions.begin_certified.Goals as goal

pub new-requires : goal.new-requires
new-requires c = one_for_each c.args.certified.of_module c.args.certified.certs.sections c.requires

pub returns-in-Ok-clause-begun : goal.returns-in-Ok-clause-begun
returns-in-Ok-clause-begun c = let kept = c.in-Ok.ensures in record { of_module = kept.of_module; of_certs = kept.certs; none_checked = kept.rechecked }
