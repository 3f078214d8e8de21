-- The log has the steps that were made.
use Rattle.std.proofs.Common.{◌++◌, reverse, take, ap, subst, ◌∙◌}
use Rattle.step_log.specs.Logs.{Log}
use Rattle.step_log.specs.Recorded.{IsRecorded}
use Rattle.step_log.specs.Upcoming.{actors_in}
use Rattle.step_log.proofs.Logged.{forgotten, logged}
use Rattle.step_log.proofs.stretch.StepLog.go_on.Goals as goal

pub returns-clause-made : goal.returns-clause-made
returns-clause-made c p setup before is =
    let left = ap (λ (log : Log). log.left) c.self.view_is in
    let world = c.in_ok-forget.ensures.world ∙ ap (λ (log : Log). log.world) c.self.view_is in
    let start = forgotten p setup before c.args.self.now c.forget.new.self world c.in_ok-forget.ensures.steps is in
    let made = subst (λ l. IsRecorded p setup before (reverse (take c.args.count l) ++ before) c.record.new.self) left (c.in_ok-record.ensures.made p setup before start) in
    logged p setup before (reverse (take c.args.count c.args.self.now.left) ++ before) (actors_in c.record.new.upcoming) c.record.new.self made
