-- The roots so far were followed.
use Rattle.std.proofs.Common.{◌≡◌}
use Rattle.stepping.specs.Walks.{following_first}
use Rattle.stepping.proofs.walk.Walk.follow_all.Given as goal

abbrev pub invariant-loop-root : goal.invariant-loop-root
invariant-loop-root l = l.self ≡ following_first l.shared l.roots l.initial.self l.root-index
