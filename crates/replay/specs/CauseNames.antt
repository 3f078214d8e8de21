-- The words of a cause, as it is printed.
use Rattle.std.specs.Prelude.{ℕ, List, ◌++◌, codes}
use Rattle.std.specs.Fmt.{decimal}
use Rattle.moves.specs.declared.cause.Cause.TheVariants as step
use Rattle.stepping.specs.declared.gone.Gone.TheVariants as gone
use Rattle.replay.specs.declared.outcome.BreakCause.{BreakCause}
use Rattle.replay.specs.declared.outcome.BreakCause.TheVariants as cause

-- the cause by which a run is broken, with the cell that it is about
abbrev pub cause_name : BreakCause → List ℕ
cause_name (cause.OfStep step.Wrong) = codes "wrong"
cause_name (cause.OfStep (step.TouchBlue cell)) = codes "touch-blue " ++ decimal cell
cause_name (cause.OfStep (step.TouchBirth cell)) = codes "touch-birth " ++ decimal cell
cause_name (cause.OfReach (gone.Blue cell)) = codes "reach-blue " ++ decimal cell
cause_name (cause.OfReach (gone.Reborn cell)) = codes "reach-birth " ++ decimal cell
