use Rattle.answers.proofs.LocalityKept.{certified, refused, given}
use Rattle.answers.proofs.locality.locality_law.Goals as goal

pub returns-clause-certified : goal.returns-clause-certified
returns-clause-certified c = certified

pub returns-clause-refused : goal.returns-clause-refused
returns-clause-refused c = refused

pub returns-clause-given : goal.returns-clause-given
returns-clause-given c = given
