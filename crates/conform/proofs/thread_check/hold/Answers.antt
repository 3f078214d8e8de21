use Rattle.std.proofs.Common.{◌∷◌, sym, subst}
use Rattle.record_text.specs.declared.steps.ThreadStep.{ThreadStep}
use Rattle.record_text.specs.Records.{step_with}
use Rattle.watch.specs.Knows.{Knows}
use Rattle.conform.specs.Threads.{MayHold}
use Rattle.conform.proofs.thread_check.hold.Goals as goal

pub returns-in-StoreStage : goal.returns-in-StoreStage
returns-in-StoreStage c = λ log k h. let s = c.args.words.now.heap in
    subst (λ (x : ThreadStep). Knows s (step_with c.args.roots.now x ∷ log) c.answered.new.self) (sym c.in-StoreStage.is)
    (c.answered.ensures s log c.in-StoreStage._stage (subst (λ (x : ThreadStep). MayHold s log (step_with c.args.roots.now x)) c.in-StoreStage.is h) k)
