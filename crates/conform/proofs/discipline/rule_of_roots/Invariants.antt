use Rattle.std.proofs.Common.{◌<◌, ℕ, List, get_or}
use Rattle.pools.specs.Heap.{Setup}
use Rattle.colours.specs.Steps.{Step}
use Rattle.colours.specs.Mutator.{MayUse}
use Rattle.watch.specs.Knows.{Knows}
use Rattle.conform.proofs.discipline.rule_of_roots.Given as goal

abbrev pub invariant-loop-root : goal.invariant-loop-root
invariant-loop-root l = (s : Setup) (log : List Step) → Knows s log l.holdings → (i : ℕ) → i < l.root-index → MayUse s log (get_or l.roots i 0)
