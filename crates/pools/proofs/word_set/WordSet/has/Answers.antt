use Rattle.pools.proofs.WordBits.{has_past, has_shifted, shifted, shifted_out}
use Rattle.std.proofs.Common.{sym}
use Rattle.pools.proofs.word_set.WordSet.has.Goals as goal

pub returns-in-Some : goal.returns-in-Some
returns-in-Some c =
    has_shifted c.self.inside.bits c.args.self.now c.args.word c.in-Some.rest c.self.view_is (shifted c.self.inside.bits c.args.word c.checked_shr.result c.in-Some.rest c.in-Some.is c.checked_shr.ensures)

pub returns-in-None : goal.returns-in-None
returns-in-None c =
    sym (has_past c.self.inside.bits c.args.self.now c.args.word c.self.view_is (shifted_out c.self.inside.bits c.args.word c.checked_shr.result c.in-None.is c.checked_shr.ensures))
