-- The cell is one from the hint up, or one from the pool's first cell up.
use Rattle.std.proofs.Common.{◌≡◌, min, arith, rules}
use Rattle.colours.specs.Hints.{from-above, from-below}
use Rattle.moves.proofs.hints.place_from.Goals as goal

pub returns-then-place-count-clause-cell : goal.returns-then-place-count-clause-cell
returns-then-place-count-clause-cell c first =
    let counted : c.from-count.result ≡ c.args.count = search rules in
    let low : c.min.result ≡ min c.args.hint c.args.count = search rules in
    let within = c.if-place-count.true in
    let here = from-above first c.args.count (min c.args.hint c.args.count) c.args.tried (omega (arith, counted, low, within)) in
    omega (arith, low, here)

pub returns-else-place-count-clause-cell : goal.returns-else-place-count-clause-cell
returns-else-place-count-clause-cell c first =
    let counted : c.from-count.result ≡ c.args.count = search rules in
    let low : c.min.result ≡ min c.args.hint c.args.count = search rules in
    let past = c.if-place-count.false in
    let here = from-below first c.args.count (min c.args.hint c.args.count) c.args.tried (omega arith) (omega (arith, counted, low, past)) c.requires in
    omega (arith, counted, low, here)
