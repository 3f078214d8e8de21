-- Traces whose last step breaks their run, and of what kind the cause is.
use Rattle.std.specs.Prelude.{◌≡◌}
use Rattle.layout.specs.Layouts.{LaidOut}
use Rattle.trace_text.specs.Traces.{IsTraceOf, step_sum}
use Rattle.trace_text.specs.declared.trace.Trace.{Trace}
use Rattle.moves.specs.declared.cause.Cause.TheVariants as step
use Rattle.stepping.specs.declared.gone.Gone.TheVariants as gone
use Rattle.replay.specs.Outcomes.{IsOutcome}
use Rattle.replay.specs.declared.outcome.Break.{Break}
use Rattle.replay.specs.declared.outcome.BreakCause.{BreakCause}
use Rattle.replay.specs.declared.outcome.BreakCause.TheVariants as cause
use Rattle.replay.specs.declared.outcome.Outcome.TheVariants.{Broken}
use Rattle.hunting.specs.declared.kind.Kind.{Kind}
use Rattle.hunting.specs.declared.kind.Kind.TheVariants.{Wrong, TouchBlue, TouchBirth, ReachBlue, ReachBirth}

-- the kind of a cause: what is printed of it but for the cell
abbrev pub kind_of : BreakCause → Kind
kind_of (cause.OfStep step.Wrong) = Wrong
kind_of (cause.OfStep (step.TouchBlue cell)) = TouchBlue
kind_of (cause.OfStep (step.TouchBirth cell)) = TouchBirth
kind_of (cause.OfReach (gone.Blue cell)) = ReachBlue
kind_of (cause.OfReach (gone.Reborn cell)) = ReachBirth

-- the last step of the trace is the first that breaks its run
pub record IsBreaking (p : LaidOut) (trace : Trace) (b : Break) : Type 0 where
  pub is_trace : IsTraceOf p trace
  pub breaks : IsOutcome p trace (Broken b)
  pub ends : step_sum trace.steps ≡ b.step
