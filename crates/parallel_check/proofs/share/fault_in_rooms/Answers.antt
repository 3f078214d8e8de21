use Rattle.std.proofs.Common.{◌+◌, ◌≤◌, rules, subst}
use Rattle.block_rules.specs.Functions.{IsFunctionCertified}
use Rattle.parallel_check.specs.Shares.{IsOf}
use Rattle.parallel_check.proofs.Turns.{is_first, is_next, none_yet, one_more, up_to}
use Rattle.parallel_check.proofs.share.fault_in_rooms.Goals.{else-loop-number-test, then-loop-number-test+in_default+else-number-step-count}
use Rattle.parallel_check.proofs.share.fault_in_rooms.Goals as goal

pub loop-number-init : goal.loop-number-init
loop-number-init g c = (is_first c.args.workers c.args.worker c.requires.worker, none_yet c.args.functions.now.program.now c.args.functions.now.certs.now.sections c.args.workers c.args.worker c.requires.worker)

pub loop-number-preserved : goal.loop-number-preserved
loop-number-preserved g c =
    let mine = c.loop-number.invariant.0 in
    let here = subst (λ func. IsFunctionCertified c.args.functions.now.program.now c.args.functions.now.certs.now.sections func) c.new.ensures c.in_default.ensures.answer in
    (is_next c.args.workers c.args.worker c.loop-number.number mine, one_more c.args.functions.now.program.now c.args.functions.now.certs.now.sections c.args.workers c.args.worker c.loop-number.number c.requires.worker mine c.loop-number.invariant.1 here)

pub returns : goal.returns
returns g c =
    let program = c.args.functions.now.program.now in
    let certs = c.args.functions.now.certs.now.sections in
    let mine = IsOf c.args.workers c.args.worker in
    let number = c.loop-number.number in
    elim c.loop-number-test.branch [
      | else-loop-number-test w ↦ up_to program certs mine c.args.functions.now.count number w.loop-number-test.false c.loop-number.invariant.1
      | then-loop-number-test+in_default+else-number-step-count w ↦
          let here = subst (λ func. IsFunctionCertified program certs func) w.new.ensures w.in_default.ensures.answer in
          let past : c.args.functions.now.count ≤ number + c.args.workers = search rules in
          up_to program certs mine c.args.functions.now.count (number + c.args.workers) past (one_more program certs c.args.workers c.args.worker number c.requires.worker c.loop-number.invariant.0 c.loop-number.invariant.1 here)
    ]
