use Rattle.std.proofs.Common.{◌<◌, ◌^◌, length, ap, subst, sym, ◌∙◌, arith}
use Rattle.pools.specs.Heap.{Setup as HeapSetup, IsSetup}
use Rattle.program_runner.specs.SetupHeaps.{is_setup}
use Rattle.watched_threads.proofs.running.watch_given.Goals as goal

pub new-requires-clause-setup : goal.new-requires-clause-setup
new-requires-clause-setup g c = subst IsSetup (sym c.plan_of-plan.ensures.is) (is_setup c.args.given.program.now c.args.given.setup.now)

pub new-requires-clause-threads : goal.new-requires-clause-threads
new-requires-clause-threads g c = omega (arith, ap (λ (s : HeapSetup). s.threads) c.plan_of-plan.ensures.is, c.requires.setup.threads)

pub new-requires-clause-globals : goal.new-requires-clause-globals
new-requires-clause-globals g c = subst (λ (s : HeapSetup). length s.globals < 2 ^ 32) (sym c.plan_of-plan.ensures.is) c.requires.globals

pub new_jobs-requires-clause-heap : goal.new_jobs-requires-clause-heap
new_jobs-requires-clause-heap g c = c.in_ok-heap.ensures.heap ∙ c.plan_of-plan.ensures.is

pub new_jobs-requires-clause-plan : goal.new_jobs-requires-clause-plan
new_jobs-requires-clause-plan g c = c.plan_of-known.ensures.is ∙ sym (c.in_ok-heap.ensures.heap ∙ c.plan_of-plan.ensures.is)

pub new_jobs-requires-clause-count : goal.new_jobs-requires-clause-count
new_jobs-requires-clause-count g c = c.in_ok-heap.ensures.mutators.0 ∙ ap (λ (s : HeapSetup). s.threads) c.plan_of-plan.ensures.is
