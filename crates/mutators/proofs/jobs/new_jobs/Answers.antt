use Rattle.std.proofs.Common.{◌≡◌, ◌<◌, List, [], ◌∷◌, Some, length, slice_get, refl, sym, ap, subst, arith, add-one, length-append}
use Rattle.std.proofs.lemmas.Option.{slice_get_read}
use Rattle.std.proofs.lemmas.Result.{err_from_is_err_and}
use Rattle.program_runner.specs.SafeSetups.{one_more}
use Rattle.trace_text.specs.declared.trace.Start.{Start}
use Rattle.mutators.specs.Jobs.{AreJobs}
use Rattle.mutators.proofs.Tokens.{first_token, other_tokens, one_job_more, no_jobs}
use Rattle.mutators.proofs.jobs.new_jobs.Goals as goal

pub loop-number-init : goal.loop-number-init
loop-number-init c = record {
  starts = c.as_slice-begun-items.ensures;
  fresh = c.requires.tokens;
  rest = omega (arith, c.requires.count);
  count = ap length c.new-jobs.ensures.items;
  jobs = no_jobs c.args.accepted.now.program c.args.setup.now c.args.heap.now c.new-jobs.result.items c.new-jobs.ensures.items;
  begun = λ u begun lt at. absurd (omega arith);
}

pub remove-me-requires : goal.remove-me-requires
remove-me-requires c = omega (arith, c.loop-number.invariant.rest, c.loop-number-test.true, ap length c.as_slice-begun-items.ensures, c.loop-number.tokens.ok.0)

pub new_job-requires-clause-at : goal.new_job-requires-clause-at
new_job-requires-clause-at c =
    let read = slice_get_read c.as_slice-begun-items.result.now (length c.as_slice-begun-items.result.now) c.loop-number.number c.begun-item.result refl c.loop-number-test.true c.begun-item.is in
    subst (λ (all : List Start). slice_get all c.loop-number.number ≡ Some c.begun-item.result) c.as_slice-begun-items.ensures read

pub new_job-requires-clause-token : goal.new_job-requires-clause-token
new_job-requires-clause-token c =
    first_token c.args.heap.now c.loop-number.number c.loop-number.tokens.items c.remove-me.result
    (omega (arith, c.loop-number.invariant.rest, c.loop-number-test.true, ap length c.as_slice-begun-items.ensures)) c.remove-me.ensures.value c.loop-number.invariant.fresh

pub returns-in_err-job-clause-fault : goal.returns-in_err-job-clause-fault
returns-in_err-job-clause-fault c =
    let p = err_from_is_err_and c.from_residual.result c.from_residual.ensures.1 in
    let read = slice_get_read c.as_slice-begun-items.result.now (length c.as_slice-begun-items.result.now) c.loop-number.number c.begun-item.result refl c.loop-number-test.true c.begun-item.is in
    let at = subst (λ (all : List Start). slice_get all c.loop-number.number ≡ Some c.begun-item.result) c.as_slice-begun-items.ensures read in
    rw (p.1, p.2) (λ other. record { thread = c.loop-number.number; begun = c.begun-item.result; is = at; before = c.loop-number.invariant.begun; fault_of = c.in_err-job.ensures.fault other })

pub loop-number-preserved : goal.loop-number-preserved
loop-number-preserved c =
    let p = c.args.accepted.now.program in
    let setup = c.args.setup.now in
    let heap = c.args.heap.now in
    let number = c.loop-number.number in
    let jobs = c.loop-number.jobs.items in
    let job = c.in_ok-job.job in
    let read = slice_get_read c.as_slice-begun-items.result.now (length c.as_slice-begun-items.result.now) c.loop-number.number c.begun-item.result refl c.loop-number-test.true c.begun-item.is in
    let at = subst (λ (all : List Start). slice_get all c.loop-number.number ≡ Some c.begun-item.result) c.as_slice-begun-items.ensures read in
    let some : 0 < length c.loop-number.tokens.items = omega (arith, c.loop-number.invariant.rest, c.loop-number-test.true, ap length c.as_slice-begun-items.ensures) in
    let others = other_tokens heap number c.loop-number.tokens.items c.remove-me.new.self.items some c.remove-me.ensures.items c.loop-number.invariant.fresh in
    record {
      starts = c.as_slice-begun-items.ensures;
      fresh = rw add-one others.0;
      rest = omega (arith, c.loop-number.invariant.rest, others.1);
      count = omega (arith, ap length c.in_ok-push.ensures.items, length-append jobs (job ∷ []), c.loop-number.invariant.count);
      jobs = subst (AreJobs p setup heap) (sym c.in_ok-push.ensures.items) (one_job_more p setup heap jobs job number c.loop-number.invariant.count c.loop-number.invariant.jobs c.in_ok-job.ensures.ok);
      begun = rw add-one (one_more setup.starts number c.begun-item.result c.loop-number.invariant.begun at c.in_ok-job.ensures.no_fault);
    }

pub returns-clause-ok : goal.returns-clause-ok
returns-clause-ok c = c.loop-number.invariant.jobs

pub returns-clause-count : goal.returns-clause-count
returns-clause-count c = omega (arith, c.loop-number.invariant.count, c.loop-number.invariant.rest, c.loop-number-test.false, ap length c.as_slice-begun-items.ensures)

pub returns-clause-no_fault : goal.returns-clause-no_fault
returns-clause-no_fault c u begun lt at = c.loop-number.invariant.begun u begun (omega (arith, lt, c.loop-number-test.false, ap length c.as_slice-begun-items.ensures)) at
