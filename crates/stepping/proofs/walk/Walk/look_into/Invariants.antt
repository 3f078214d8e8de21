-- The words of the cell so far.
use Rattle.std.proofs.Common.{◌≡◌}
use Rattle.stepping.specs.Walks.{looking}
use Rattle.stepping.proofs.walk.Walk.look_into.Given as goal

abbrev pub invariant-loop-word : goal.invariant-loop-word
invariant-loop-word l = l.self ≡ looking l.shared l.kind-items l.row l.initial.self l.word
