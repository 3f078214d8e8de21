-- The first steps of the trace are made and recorded.
use Rattle.step_records.proofs.Going.{IsGoingOn}
use Rattle.step_records.proofs.recording.record_run.Given as goal

abbrev pub invariant-loop-step : goal.invariant-loop-step
invariant-loop-step l = IsGoingOn l.program l.trace l._step l.recorded l.upcoming
