use Rattle.std.proofs.Common.{subst}
use Rattle.colours.specs.Mutator.{MayFollow, stage_of, phase_of}
use Rattle.record_text.specs.declared.steps.ThreadStep.{ThreadStep}
use Rattle.record_text.specs.Records.{step_with}
use Rattle.thread_order.proofs.Steps.{goes_on, may_lose}
use Rattle.thread_order.proofs.order.ThreadOrder.follow.Goals as goal

pub go_on-requires : goal.go_on-requires
go_on-requires c = λ cell won e. let r = c.requires in
    may_lose c.args.self.now r.0 r.1 r.2 cell won r.3 (subst (λ (x : ThreadStep). MayFollow r.0 (stage_of r.2) (phase_of r.0 r.1 r.2) (step_with c.args.roots.now x)) e r.4)

pub returns-clause-ok : goal.returns-clause-ok
returns-clause-ok c = λ s thread log st m. goes_on c.args.self.now c.go_on.new.self (step_with c.args.roots.now c.args.step) s thread log (c.in_ok-go_on.ensures.ok c.args.roots.now) st m
