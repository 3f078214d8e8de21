use Rattle.std.proofs.Common.{◌≡◌, true, arith}
use Rattle.certs.specs.Runs.{listed_in, comes_before}
use Rattle.certs.proofs.ClaimRuns.{run_next}
use Rattle.certs.proofs.runs.run_length.Goals as goal

pub loop-count-preserved : goal.loop-count-preserved
loop-count-preserved c =
    let last = c.index-claims-count.result in
    let next = c.index-claims-count-in-loop-count.result in
    let one = c.listed_in.ensures in
    let other = c.listed_in-in-loop-count.ensures in
    let first = c.comes_before.ensures in
    let yes = c.if-comes_before.true in
    let ordered : comes_before (listed_in last) (listed_in next) ≡ true = cc in
    let all = c.loop-count.invariant in
    let run = run_next c.args.claims.now c.loop-count.count last next all.0 c.loop-count-test.true all.2 c.index-claims-count.is c.index-claims-count-in-loop-count.is ordered in
    (omega arith, omega (arith, c.loop-count-test.true), run)
