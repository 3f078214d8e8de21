use Rattle.std.proofs.Common.{arith}
use Rattle.pools.proofs.WordBits.{length_is, shifted, none_from, next_rest, next_bounds}
use Rattle.pools.proofs.word_set.WordSet.next_from.Goals as goal

pub returns-in_err-rest-clause-places : goal.returns-in_err-rest-clause-places
returns-in_err-rest-clause-places c = length_is c.self.inside.bits c.args.self.now c.self.view_is

pub returns-then-rest-eq0-clause-next : goal.returns-then-rest-eq0-clause-next
returns-then-rest-eq0-clause-next c =
    let by = shifted c.self.inside.bits c.args.word c.checked_shr.result c.in_ok-rest.rest c.in_ok-rest.was c.checked_shr.ensures in
    none_from c.self.inside.bits c.args.self.now c.args.word c.in_ok-rest.rest c.self.view_is by (omega (arith, c.if-rest-eq0.true))

pub returns-then-rest-eq0-clause-places : goal.returns-then-rest-eq0-clause-places
returns-then-rest-eq0-clause-places c = length_is c.self.inside.bits c.args.self.now c.self.view_is

pub returns-else-rest-eq0-clause-next : goal.returns-else-rest-eq0-clause-next
returns-else-rest-eq0-clause-next c =
    let by = shifted c.self.inside.bits c.args.word c.checked_shr.result c.in_ok-rest.rest c.in_ok-rest.was c.checked_shr.ensures in
    next_rest c.self.inside.bits c.args.self.now c.args.word c.in_ok-rest.rest c.self.invariant c.self.view_is by (omega (arith, c.if-rest-eq0.false))

pub returns-else-rest-eq0-clause-bounds : goal.returns-else-rest-eq0-clause-bounds
returns-else-rest-eq0-clause-bounds c =
    let by = shifted c.self.inside.bits c.args.word c.checked_shr.result c.in_ok-rest.rest c.in_ok-rest.was c.checked_shr.ensures in
    next_bounds c.self.inside.bits c.args.word c.in_ok-rest.rest c.self.invariant by (omega (arith, c.if-rest-eq0.false))

pub returns-else-rest-eq0-clause-places : goal.returns-else-rest-eq0-clause-places
returns-else-rest-eq0-clause-places c = length_is c.self.inside.bits c.args.self.now c.self.view_is
