-- What is told of whether a step may lose something.
use Rattle.stepping.specs.declared.loss.Loss.{Loss}
use Rattle.stepping.specs.declared.loss.Loss.TheVariants.{Nothing, Possible}

-- what is told is so, where this says that the step loses nothing
abbrev pub IsTold : Loss → (LosesNothing : Type 0) → Type 0
IsTold Nothing LosesNothing = LosesNothing
IsTold Possible LosesNothing = LosesNothing → ⊥
