-- Steps that a trace may list, and how many they are.
use Rattle.std.specs.Prelude.{◌-◌, ℕ, List, min, take, drop}
use Rattle.std.specs.List.{AllByRecursion}
use Rattle.moves.specs.Runs.{IsActor}
use Rattle.trace_text.specs.declared.trace.Steps.{Steps}

-- each of these lines is of one of this number of threads or of the collector
abbrev pub AreOfActors : (threads : ℕ) → List Steps → Type 0
AreOfActors threads lines = AllByRecursion (λ (s : Steps). IsActor threads s.actor) lines

-- the lines from one place to before another
abbrev pub between : (from to : ℕ) → List Steps → List Steps
between from to lines = take (to - from) (drop from lines)

-- a line with no more than this number of its steps
abbrev pub with_at_most : (count : ℕ) → Steps → Steps
with_at_most count line = record { actor = line.actor; count = min count line.count }
