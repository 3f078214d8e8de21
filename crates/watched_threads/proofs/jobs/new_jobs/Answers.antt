use Rattle.std.proofs.Common.{◌<◌, ◌∙◌, [], ◌∷◌, length, sym, ap, subst, arith, add-one, length-append}
use Rattle.std.proofs.lemmas.List.{length-map}
use Rattle.mutators.proofs.Tokens.{first_token, other_tokens}
use Rattle.program_runner.specs.Setups.{new_thread}
use Rattle.watched_threads.specs.Jobs.{AreJobs}
use Rattle.watched_threads.proofs.Beginnings.{first_thread, other_threads, one_job_more, no_jobs}
use Rattle.watched_threads.proofs.jobs.new_jobs.Goals as goal

pub loop-number-init : goal.loop-number-init
loop-number-init c =
    let many = ap length c.requires.begun ∙ length-map c.args.given.setup.now.starts (new_thread c.args.given.program.now c.args.given.setup.now) in
    record {
      threads = c.requires.begun;
      some = omega (arith, many);
      fresh = c.requires.tokens;
      rest = omega (arith, c.requires.count);
      count = ap length c.new-jobs.ensures.items;
      jobs = no_jobs c.args.given.program.now c.args.given.setup.now c.args.heap.now c.new-jobs.result.items c.new-jobs.ensures.items;
    }

pub remove-thread-requires : goal.remove-thread-requires
remove-thread-requires c =
    let many = ap length c.requires.begun ∙ length-map c.args.given.setup.now.starts (new_thread c.args.given.program.now c.args.given.setup.now) in
    omega (arith, c.loop-number.invariant.some, c.loop-number-test.true, c.len-number-end.ensures, many, c.loop-number.threads.ok.0)

pub remove-me-requires : goal.remove-me-requires
remove-me-requires c =
    let many = ap length c.requires.begun ∙ length-map c.args.given.setup.now.starts (new_thread c.args.given.program.now c.args.given.setup.now) in
    omega (arith, c.loop-number.invariant.rest, c.loop-number-test.true, c.len-number-end.ensures, many, c.loop-number.tokens.ok.0)

pub new_job-requires-clause-begun : goal.new_job-requires-clause-begun
new_job-requires-clause-begun c =
    let many = ap length c.requires.begun ∙ length-map c.args.given.setup.now.starts (new_thread c.args.given.program.now c.args.given.setup.now) in
    first_thread c.args.given.program.now c.args.given.setup.now c.loop-number.number c.loop-number.threads.items c.remove-thread.result c.loop-number.invariant.threads
    (omega (arith, c.loop-number.invariant.some, c.loop-number-test.true, c.len-number-end.ensures, many)) c.remove-thread.ensures.value

pub new_job-requires-clause-fresh : goal.new_job-requires-clause-fresh
new_job-requires-clause-fresh c =
    let many = ap length c.requires.begun ∙ length-map c.args.given.setup.now.starts (new_thread c.args.given.program.now c.args.given.setup.now) in
    (first_token c.args.heap.now c.loop-number.number c.loop-number.tokens.items c.remove-me.result
    (omega (arith, c.loop-number.invariant.rest, c.loop-number-test.true, c.len-number-end.ensures, many)) c.remove-me.ensures.value c.loop-number.invariant.fresh).log

pub new_job-requires-clause-plan : goal.new_job-requires-clause-plan
new_job-requires-clause-plan c =
    let many = ap length c.requires.begun ∙ length-map c.args.given.setup.now.starts (new_thread c.args.given.program.now c.args.given.setup.now) in
    c.requires.plan ∙ sym (first_token c.args.heap.now c.loop-number.number c.loop-number.tokens.items c.remove-me.result
    (omega (arith, c.loop-number.invariant.rest, c.loop-number-test.true, c.len-number-end.ensures, many)) c.remove-me.ensures.value c.loop-number.invariant.fresh).of.setup

pub loop-number-preserved : goal.loop-number-preserved
loop-number-preserved c =
    let p = c.args.given.program.now in
    let setup = c.args.given.setup.now in
    let heap = c.args.heap.now in
    let number = c.loop-number.number in
    let jobs = c.loop-number.jobs.items in
    let job = c.in_ok-job.job in
    let many = ap length c.requires.begun ∙ length-map setup.starts (new_thread p setup) in
    let some : 0 < length c.loop-number.tokens.items = omega (arith, c.loop-number.invariant.rest, c.loop-number-test.true, c.len-number-end.ensures, many) in
    let more : 0 < length c.loop-number.threads.items = omega (arith, c.loop-number.invariant.some, c.loop-number-test.true, c.len-number-end.ensures, many) in
    let others = other_tokens heap number c.loop-number.tokens.items c.remove-me.new.self.items some c.remove-me.ensures.items c.loop-number.invariant.fresh in
    let left = other_threads p setup number c.loop-number.threads.items c.remove-thread.new.self.items c.loop-number.invariant.threads more c.remove-thread.ensures.items in
    record {
      threads = rw add-one left.0;
      some = omega (arith, c.loop-number.invariant.some, left.1);
      fresh = rw add-one others.0;
      rest = omega (arith, c.loop-number.invariant.rest, others.1);
      count = omega (arith, ap length c.in_ok-push.ensures.items, length-append jobs (job ∷ []), c.loop-number.invariant.count);
      jobs = subst (AreJobs p setup heap) (sym c.in_ok-push.ensures.items) (one_job_more p setup heap jobs job number c.loop-number.invariant.count c.loop-number.invariant.jobs
          (c.in_ok-job.ensures heap c.requires.heap (first_token heap number c.loop-number.tokens.items c.remove-me.result some c.remove-me.ensures.value c.loop-number.invariant.fresh)));
    }

pub returns-clause-ok : goal.returns-clause-ok
returns-clause-ok c = c.loop-number.invariant.jobs

pub returns-clause-count : goal.returns-clause-count
returns-clause-count c =
    let many = ap length c.requires.begun ∙ length-map c.args.given.setup.now.starts (new_thread c.args.given.program.now c.args.given.setup.now) in
    omega (arith, c.loop-number.invariant.count, c.loop-number.invariant.some, c.loop-number-test.false, c.len-number-end.ensures, many)
