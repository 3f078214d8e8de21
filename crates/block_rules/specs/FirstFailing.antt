-- Lists of conditions, each with the rule that asks for it.
use Rattle.std.specs.Prelude.{Bool, if◌then◌else◌, List, [], ◌∷◌, Option, Some, None}
use Rattle.block_rules.specs.declared.rule.Rule.{Rule}

-- the number of the first condition that fails; each list of conditions is in the order of the numbers
abbrev pub first_failing : List (Rule × Bool) → Option Rule
first_failing [] = None
first_failing (condition ∷ rest) = if condition.1 then first_failing rest else Some condition.0
