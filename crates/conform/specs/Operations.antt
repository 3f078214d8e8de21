-- Steps that change a colour.
use Rattle.std.specs.Prelude.{Bool, true, false}
use Rattle.record_text.specs.declared.steps.ThreadStep.{ThreadStep}
use Rattle.record_text.specs.declared.steps.ThreadStep.TheVariants.{Mark, Claim}

-- the step marks a cell, or tries to take one
abbrev pub is_colouring : ThreadStep → Bool
is_colouring (Mark cell) = true
is_colouring (Claim cell won) = true
is_colouring step = false
