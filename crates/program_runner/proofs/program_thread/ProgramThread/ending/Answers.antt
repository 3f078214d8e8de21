-- Where the thread does not ask to end, nothing is told of its end.
use Rattle.std.proofs.Common.{sym, ap, ◌∙◌, inl, inr}
use Rattle.machine.specs.Endings.{ending}
use Rattle.machine.specs.Machine.{action}
use Rattle.program_safety.specs.Threads.{ProgramThread}
use Rattle.program_runner.specs.Steps.{MayEnd}
use Rattle.program_runner.proofs.Overs.{over}
use Rattle.program_runner.proofs.program_thread.ProgramThread.ending.Goals as goal

pub returns-in_default : goal.returns-in_default
returns-in_default c =
    let i = c.self.inside in
    let goes_on = over i.program.now i.thread.state (λ (ends : MayEnd (action i.program.now i.thread.state)). elim ends [
      | inl is ↦ c.in_default.not-End (c.self.invariant.1 ∙ is)
      | inr is ↦ c.in_default.not-Wrong (c.self.invariant.1 ∙ is)
    ]) in
    sym goes_on ∙ ap (λ (t : ProgramThread). ending t.program t.state) c.self.view_is
