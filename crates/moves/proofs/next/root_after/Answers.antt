-- A list has fewer than 2^63 roots.
use Rattle.std.proofs.Common.{arith}
use Rattle.moves.proofs.next.root_after.Goals as goal

pub returns-then-left-eq0-clause-few : goal.returns-then-left-eq0-clause-few
returns-then-left-eq0-clause-few c =
    let few = c.well_formed.0.1 in
    let passed = c.loop-root.invariant.1 in
    let none = c.if-left-eq0.true in
    let within = c.loop-root-test.true in
    omega (arith, few, passed, none, within)
