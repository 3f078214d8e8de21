use Rattle.pools.proofs.WordBits.{within}
use Rattle.pools.proofs.word_set.WordSet.is_within.Goals as goal

pub returns : goal.returns
returns c = within c.self.inside.bits c.other.inside.bits c.args.self.now c.args.other.now c.self.invariant c.other.invariant c.self.view_is c.other.view_is
