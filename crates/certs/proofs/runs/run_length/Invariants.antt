use Rattle.std.proofs.Common.{◌≡◌, ◌<◌, ◌≤◌, ◌-◌, true, length, take}
use Rattle.certs.specs.Runs.{is_run}
use Rattle.certs.proofs.runs.run_length.Given as goal

abbrev pub invariant-loop-count : goal.invariant-loop-count
invariant-loop-count l = (0 < l.count) × (l.count ≤ length l.claims) × (is_run (take l.count l.claims) ≡ true)

abbrev pub decreases-loop-count : goal.decreases-loop-count
decreases-loop-count l = length l.claims - l.count
