use Rattle.std.proofs.Common.{◌≡◌, take}
use Rattle.runs.specs.Moves.{cells_of}
use Rattle.watched_serving.proofs.root_lists.fill.Given as goal

abbrev pub invariant-loop-root : goal.invariant-loop-root
invariant-loop-root g l = l.list.items ≡ cells_of (take l.root-index l.root-items)
