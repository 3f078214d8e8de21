use Rattle.std.proofs.Common.{◌≡◌, ◌-◌, length}
use Rattle.certs.specs.Roots.{allocated_within}
use Rattle.certs.proofs.roots.allocated.Given as goal

abbrev pub invariant-loop-turn : goal.invariant-loop-turn
invariant-loop-turn l = allocated_within l.function (length l.function.locals) l.fn.value ≡ allocated_within l.function (l._turn-end - l._turn) l.name
