use Rattle.std.proofs.Common.{◌+◌, ◌≤◌, IfOk, arith, subst, sym}
use Rattle.module_check.specs.Refusals.{AreOfRange}
use Rattle.parallel_check.specs.Shares.{range_from}
use Rattle.parallel_check.proofs.Joined.{ordered, within}
use Rattle.parallel_check.proofs.ranges.refusals_in_range.Goals as goal

pub refusals_in-requires-clause-order : goal.refusals_in-requires-clause-order
refusals_in-requires-clause-order c =
    let workers = c.args.workers in
    let count = c.args.functions.now.count in
    subst (λ from. from ≤ c.range_from-to.result) (sym c.range_from-from.ensures)
    (subst (λ to. range_from workers count c.args.worker ≤ to) (sym c.range_from-to.ensures) (ordered workers count c.args.worker (omega (arith, c.requires.worker))))

pub refusals_in-requires-clause-within : goal.refusals_in-requires-clause-within
refusals_in-requires-clause-within c =
    let all = within c.args.workers c.args.functions.now.count (c.args.worker + 1) (omega (arith, c.requires.worker)) in
    let there : c.range_from-to.result ≤ c.args.functions.now.count = subst (λ to. to ≤ c.args.functions.now.count) (sym c.range_from-to.ensures) all in
    omega (arith, there, c.requires.count)

pub returns : goal.returns
returns c =
    let program = c.args.functions.now.program.now in
    let certs = c.args.functions.now.certs.now.sections in
    let last = range_from c.args.workers c.args.functions.now.count (c.args.worker + 1) in
    subst (λ from. IfOk c.refusals_in.result (λ found. AreOfRange program certs from last found.items)) c.range_from-from.ensures
    (subst (λ to. IfOk c.refusals_in.result (λ found. AreOfRange program certs c.range_from-from.result to found.items)) c.range_from-to.ensures c.refusals_in.ensures)
