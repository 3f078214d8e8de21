use Rattle.std.proofs.Common.{◌≡◌, ℕ, ◌+◌, ◌≤◌, List, length, slice_get, ap, subst, sym, arith}
use Rattle.replay.specs.declared.thread_outcome.ThreadOutcome.{ThreadOutcome}
use Rattle.replay.specs.Keeping.{end_told}
use Rattle.replay.proofs.Told.{AreTold, one_more_told, are_ends}
use Rattle.replay.proofs.world.World.ends.Goals as goal

pub loop-thread-init : goal.loop-thread-init
loop-thread-init c = record { many = ap length c.new-ends.ensures; each = λ k lt. absurd (omega arith) }

pub loop-thread-preserved : goal.loop-thread-preserved
loop-thread-preserved c =
    let i = c.self.inside in
    let told = λ (k : ℕ). end_told (slice_get i.actors.threads.items k) (slice_get i.endings k) in
    let is : c.end_told.result ≡ end_told (slice_get c.self.inside.actors.threads.items c.loop-thread.thread) (slice_get c.self.inside.endings c.loop-thread.thread) = cc in
    subst (λ (ends : List ThreadOutcome). AreTold ends (c.loop-thread.thread + 1) told) (sym c.in_ok-push.ensures.ok) (one_more_told c.loop-thread.ends c.loop-thread.thread told c.end_told.result c.loop-thread.invariant is)

pub returns : goal.returns
returns c =
    let most : length c.self.inside.actors.threads.items ≤ c.loop-thread.thread = subst (λ (n : ℕ). n ≤ c.loop-thread.thread) c.threads-thread-end.ensures c.loop-thread-test.false in
    let least : c.loop-thread.thread ≤ length c.self.inside.actors.threads.items = subst (λ (n : ℕ). c.loop-thread.thread ≤ n) c.threads-thread-end.ensures c.loop-thread.auto.thread-end in
    are_ends c.self.inside c.args.self.now c.loop-thread.ends c.loop-thread.thread c.self.view_is most least c.loop-thread.invariant
