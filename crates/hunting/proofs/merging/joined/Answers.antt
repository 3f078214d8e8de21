use Rattle.std.proofs.Common.{refl}
use Rattle.hunting.proofs.Merges.{two_as_one}
use Rattle.hunting.proofs.merging.joined.Goals as goal

pub returns-clause-actors : goal.returns-clause-actors
returns-clause-actors c = two_as_one c.args.one c.args.other _ refl (c.is_same_actor.ensures c.if-not-is_same_actor.false) refl
