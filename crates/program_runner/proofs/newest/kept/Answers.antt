-- Where the thread goes on, all but the two newest frames stay.
use Rattle.std.proofs.Common.{◌≡◌, ◌-◌, length, refl, sym, ap, ◌∙◌, subst, inl, inr}
use Rattle.machine.specs.Machine.{action, after_answer}
use Rattle.program_runner.specs.Newest.{AreKept}
use Rattle.program_runner.specs.Steps.{MayEnd}
use Rattle.program_runner.proofs.Kept.{none_kept, goes_on_above}
use Rattle.program_runner.proofs.newest.kept.Goals as goal

pub returns-in-End : goal.returns-in-End
returns-in-End c given = none_kept 0 c.args.thread.now.state.frames (after_answer c.args.thread.now.program c.args.thread.now.state given).frames refl

pub returns-in_default : goal.returns-in_default
returns-in_default c given =
    let now = c.args.thread.now in
    let count : c.saturating_sub.result ≡ length now.state.frames - 2 = c.saturating_sub.ensures ∙ ap (λ n. n - 2) c.frames.ensures in
    subst (λ n. AreKept n now.state.frames (after_answer now.program now.state given).frames) (sym count)
    (goes_on_above now.program now.state given (λ (ends : MayEnd (action now.program now.state)). elim ends [
      | inl is ↦ c.in_default.not-End (c.requires ∙ is)
      | inr is ↦ c.in_default.not-Wrong (c.requires ∙ is)
    ]))
