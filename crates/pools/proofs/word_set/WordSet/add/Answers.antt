use Rattle.pools.proofs.WordBits.{added, added_below}
use Rattle.pools.proofs.word_set.WordSet.add.Goals as goal

pub invariant_of-self : goal.invariant_of-self
invariant_of-self c = added_below c.self.inside.bits c.args.word c.self.invariant c.if-word-lt-BITS.true

pub returns-then-word-lt-BITS : goal.returns-then-word-lt-BITS
returns-then-word-lt-BITS c = added c.self.inside.bits c.args.self.now c.args.word c.self.view_is c.if-word-lt-BITS.true
