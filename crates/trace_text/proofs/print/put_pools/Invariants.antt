use Rattle.std.proofs.Common.{◌≡◌, ◌++◌}
use Rattle.trace_text.specs.Print.{pools_text}
use Rattle.trace_text.proofs.print.put_pools.Given as goal

abbrev pub invariant-loop-layout : goal.invariant-loop-layout
invariant-loop-layout l = l.out.items ≡ l.fn.out.items ++ pools_text l.«module» l.layout l.pools
