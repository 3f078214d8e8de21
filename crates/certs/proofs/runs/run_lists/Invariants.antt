use Rattle.std.proofs.Common.{◌≡◌, true, length}
use Rattle.std.specs.List.{list_any}
use Rattle.certs.specs.Runs.{is_run, lists_this}
use Rattle.certs.proofs.runs.run_lists.Given as goal

abbrev pub invariant-loop-rest : goal.invariant-loop-rest
invariant-loop-rest l = (is_run l.rest ≡ true) × (list_any (lists_this l.listed) l.run ≡ list_any (lists_this l.listed) l.rest)

abbrev pub decreases-loop-rest : goal.decreases-loop-rest
decreases-loop-rest l = length l.rest
