-- Where all cells of a pool were tried, none is left.
use Rattle.std.proofs.Common.{◌≤◌, arith}
use Rattle.moves.proofs.Losses.{none-left}
use Rattle.moves.proofs.moving.tries_left.Goals as goal

pub returns-in_default : goal.returns-in_default
returns-in_default c cells roots =
    let few : c.count.result ≤ c.args.tried = omega arith in
    rw c.in-Alloc.is (none-left c.args.pools.now c.in-Alloc.layout cells c.args.tried c.count.result c.count.ensures few)
