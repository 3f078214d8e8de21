use Rattle.std.proofs.Common.{◌<◌, ℕ, get_or}
use Rattle.colours.specs.Mutator.{MayUse}
use Rattle.watched.proofs.watched.Watched.are_held.Given as goal

abbrev pub invariant-loop-root : goal.invariant-loop-root
invariant-loop-root l = (i : ℕ) → i < l.root-index → MayUse l.self.setup l.self.log (get_or l.roots i 0)
