use Rattle.std.proofs.Common.{◌≡◌, ◌++◌, length, map}
use Rattle.watched_serving.specs.Jobs.{token_of}
use Rattle.watched_serving.proofs.closing.into_tokens.Given as goal

abbrev pub invariant-loop-job : goal.invariant-loop-job
invariant-loop-job g l = map token_of l.fn.jobs.items ≡ map token_of l.jobs.items ++ l.mutators.items

abbrev pub decreases-loop-job : goal.decreases-loop-job
decreases-loop-job g l = length l.jobs.items
