use Rattle.step_log.specs.Upcoming.{actors_in}
use Rattle.step_log.proofs.Logged.{IsGoingOn}
use Rattle.step_log.proofs.recording.Recorder.record.Given as goal

abbrev pub invariant-loop-step : goal.invariant-loop-step
invariant-loop-step l = IsGoingOn l.fn.self (actors_in l.fn.upcoming) l._step l.self l.upcoming
