use Rattle.std.proofs.Common.{◌≡◌, ◌≤◌, ◌-◌, true, length, take}
use Rattle.certs.specs.Fits.{lists_once}
use Rattle.certs.proofs.runs.lists_once.Given as goal

abbrev pub invariant-loop-before : goal.invariant-loop-before
invariant-loop-before l = (l.before ≤ length l.claims) × (lists_once (take l.before l.claims) ≡ true)

abbrev pub decreases-loop-before : goal.decreases-loop-before
decreases-loop-before l = length l.claims - l.before
