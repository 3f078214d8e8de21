-- What an entry says that is made of a step.
use Rattle.std.proofs.Common.{◌≡◌, ◌≢◌, ◌<◌, ◌==◌, ℕ, Bool, Some, ap, ◌∙◌, if◌then◌else◌, arith}
use Rattle.lemmas.specs.Numbers.{test_no}
use Rattle.record_text.specs.declared.steps.ThreadStep.{ThreadStep}
use Rattle.record_text.specs.declared.steps.Recorded.TheVariants.{Thread, Root}
use Rattle.record_text.specs.declared.writing.Fields.{Fields}
use Rattle.record_text.specs.Recorded.{recorded_of, thread_step, turn_recorded, of_thread, of_collector}
use Rattle.record_text.specs.Written.{entry_by}

-- an entry of a thread that names no root says its step
pub thread_said : (actor : ℕ) (f : Fields) (step : ThreadStep) → actor < 255 → f.kind ≢ 13 → thread_step (entry_by actor f) ≡ Some step → recorded_of (entry_by actor f) ≡ Thread actor step
thread_said actor f step few no_root reads =
    ap (λ (c : Bool). if c then of_collector (turn_recorded (entry_by actor f)) else (if f.kind == 13 then Root actor f.cell else of_thread actor (thread_step (entry_by actor f))))
    (test_no actor 255 (λ e. omega (arith, few, e)))
    ∙ (ap (λ (c : Bool). if c then Root actor f.cell else of_thread actor (thread_step (entry_by actor f))) (test_no f.kind 13 no_root) ∙ ap (of_thread actor) reads)
