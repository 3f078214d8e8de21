use Rattle.std.proofs.Common.{Bool, IsTrue, sym, subst}
use Rattle.std.specs.Prelude.{◌↔◌}
use Rattle.colours.specs.Mutator.{MayFollow, stage_of, phase_of}
use Rattle.record_text.specs.Records.{step_with}
use Rattle.thread_order.proofs.Tests.{tells}
use Rattle.thread_order.proofs.order.ThreadOrder.may_follow.Goals as goal

pub returns : goal.returns
returns c = record { tells = λ s thread log st. subst (λ (b : Bool). IsTrue b ↔ MayFollow s (stage_of log) (phase_of s thread log) (step_with c.args.roots.now c.args.step)) (sym c.is_next.ensures) (tells c.args.self.now (step_with c.args.roots.now c.args.step) s thread log st) }
