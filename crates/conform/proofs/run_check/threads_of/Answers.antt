use Rattle.std.proofs.Common.{ℕ, List, ◌≤◌, sym, ap, subst, ◌∙◌, arith, ◌≡◌}
use Rattle.pools.specs.Heap.{Setup}
use Rattle.conform.specs.declared.thread_check.CheckedThread.{CheckedThread}
use Rattle.conform.specs.Checks.{AreThreadsAtStart}
use Rattle.conform.proofs.Steps.{no_threads, more_threads}
use Rattle.conform.proofs.run_check.threads_of.Goals as goal

pub loop-thread-init : goal.loop-thread-init
loop-thread-init c = subst (λ (l : List CheckedThread). AreThreadsAtStart c.args.plan.now 0 l) (sym c.new-threads.ensures.items) (no_threads c.args.plan.now)

pub loop-thread-preserved : goal.loop-thread-preserved
loop-thread-preserved c = more_threads c.args.plan.now c.loop-thread.thread c.loop-thread.threads.items c.push.new.self.items c.in_ok-new.field-0 c.loop-thread.invariant c.in_ok-new.ensures c.in_ok-push.ensures.items

pub returns : goal.returns
returns c = let e = ap (λ (s : Setup). s.threads) c.plan.view_is in let same : c.loop-thread.thread ≡ c.args.plan.now.threads = omega (arith, e, c.loop-thread-test.false, c.loop-thread.auto.thread-end) in
    subst (λ (n : ℕ). AreThreadsAtStart c.args.plan.now n c.loop-thread.threads.items) same c.loop-thread.invariant
