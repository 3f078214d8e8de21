-- The steps are recorded one after another, until there are none, or as many as were asked for.
use Rattle.std.proofs.Common.{ap, ◌∙◌, arith}
use Rattle.std.proofs.lemmas.Result.{err_from_is_err_and}
use Rattle.replay.specs.Lists.{actors_of}
use Rattle.step_records.proofs.Going.{all_asked, all_made, goes_on, of_run, starts}
use Rattle.step_records.proofs.recording.record_run.Goals as goal

pub loop-step-init : goal.loop-step-init
loop-step-init c =
    starts c.args.program.now c.args.trace.now c.in_ok-recorded.recorded c.new-upcoming.result c.requires.actors c.in_ok-recorded.ensures.ok (c.new-upcoming.ensures ∙ ap actors_of c.as_slice.ensures)

pub step-requires : goal.step-requires
step-requires c = of_run c.args.program.now c.args.trace.now c.loop-step._step c.loop-step.recorded c.loop-step.upcoming c.in-Some.actor _ c.loop-step.invariant c.in-Some.ensures

pub returns-in_err-step-clause-fault : goal.returns-in_err-step-clause-fault
returns-in_err-step-clause-fault c =
    let e = err_from_is_err_and c.from_residual-in_err-step.result c.from_residual-in_err-step.ensures.1 in
    rw (e.1, e.2) (c.in_err-step.ensures.fault c.args.program.now c.args.trace.now.setup)

pub loop-step-preserved : goal.loop-step-preserved
loop-step-preserved c =
    goes_on c.args.program.now c.args.trace.now c.loop-step._step c.loop-step.recorded c.step.new.self c.loop-step.upcoming c.next.new.self c.in-Some.actor c.loop-step.invariant c.in-Some.ensures c.step.ensures.same
    c.in_ok-step.ensures.made

pub returns-in_default-clause-ok : goal.returns-in_default-clause-ok
returns-in_default-clause-ok c =
    all_made c.args.program.now c.args.trace.now c.loop-step._step c.args.steps c.loop-step.recorded c.loop-step.upcoming c.loop-step.invariant c.in_default.ensures.0 (omega (arith, c.loop-step-test.true))

pub returns-clause-ok : goal.returns-clause-ok
returns-clause-ok c =
    all_asked c.args.program.now c.args.trace.now c.loop-step._step c.args.steps c.loop-step.recorded c.loop-step.upcoming c.loop-step.invariant (omega (arith, c.loop-step-test.false, c.loop-step.auto._step-end))
