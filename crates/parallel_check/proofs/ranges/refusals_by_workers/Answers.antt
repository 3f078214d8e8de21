use Rattle.std.proofs.Common.{◌≡◌, ◌∙◌, ◌+◌, ◌<◌, ◌++◌, Global, IfOk, List, Vec, ap, get_or, length, rules, subst, sym, arith}
use Rattle.block_rules.specs.declared.block_fault.Refusal.{Refusal}
use Rattle.module_check.specs.Refusals.{AreOfFunctions}
use Rattle.parallel_check.specs.Shares.{AreOfWorker, range_from}
use Rattle.parallel_check.proofs.Joined.{of_all, of_next, of_none}
use Rattle.parallel_check.proofs.ranges.refusals_by_workers.Goals as goal

pub loop-part-init : goal.loop-part-init
loop-part-init g c =
    let program = c.args.functions.now.program.now in
    let certs = c.args.functions.now.certs.now.sections in
    let count = c.args.functions.now.count in
    subst (λ (each : List Refusal). AreOfFunctions program certs (range_from c.args.workers count 0) each) (sym c.new-each.ensures.items) (of_none program certs c.args.workers count c.requires.some)

pub loop-part-preserved : goal.loop-part-preserved
loop-part-preserved g c =
    let program = c.args.functions.now.program.now in
    let certs = c.args.functions.now.certs.now.sections in
    let workers = c.args.workers in
    let count = c.args.functions.now.count in
    let i = c.loop-part.part-index in
    let part = c.part-item.result in
    let parts = c.in_ok-parts.parts.items in
    let all = c.as_slice-part-items.ensures.value in
    let as_many : length parts ≡ workers = search rules in
    let less : i < workers = omega (arith, ap length all, as_many) in
    let is : part ≡ get_or parts i part = subst (λ items. part ≡ get_or items i part) all c.part-item.is in
    let at_part = subst (λ found. IfOk found (λ (found : Vec Refusal Global). AreOfWorker program certs workers count i found.items)) (sym is) (c.in_ok-parts.ensures.each i part less).1.met in
    let here = subst (λ found. IfOk found (λ (found : Vec Refusal Global). AreOfWorker program certs workers count i found.items)) c.in-Ok.is at_part in
    let more = c.in_ok-extend_from_slice.ensures.items ∙ ap (λ (found : List Refusal). c.loop-part.each.items ++ found) c.as_slice.ensures.value in
    subst (λ (each : List Refusal). AreOfFunctions program certs (range_from workers count (i + 1)) each) (sym more)
    (of_next program certs workers count i c.loop-part.each.items c.in-Ok.found.items c.loop-part.invariant here)

pub returns : goal.returns
returns g c =
    let program = c.args.functions.now.program.now in
    let certs = c.args.functions.now.certs.now.sections in
    let workers = c.args.workers in
    let count = c.args.functions.now.count in
    let each = c.loop-part.each.items in
    let as_many : length c.in_ok-parts.parts.items ≡ workers = search rules in
    let all : c.loop-part.part-index ≡ workers = omega (arith, c.loop-part-test.false, ap length c.as_slice-part-items.ensures.value, as_many) in
    subst (λ (each : List Refusal). AreOfFunctions program certs count each) (sym c.of.ensures)
    (of_all program certs workers count each c.requires.some (subst (λ n. AreOfFunctions program certs (range_from workers count n) each) all c.loop-part.invariant))
