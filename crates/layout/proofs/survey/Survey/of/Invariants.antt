use Rattle.std.proofs.Common.{◌≡◌, ◌<◌, ℕ, [], false}
use Rattle.layout.specs.Survey.{IsSurvey, mark_at, is_new}
use Rattle.layout.proofs.survey.Survey.of.Given as goal

abbrev pub invariant-loop-number : goal.invariant-loop-number
invariant-loop-number l = IsSurvey l.«module» l.survey.marks l.survey.fields.items [] × ((p : ℕ) → p < l.number → is_new (mark_at l.survey.marks p) ≡ false)
