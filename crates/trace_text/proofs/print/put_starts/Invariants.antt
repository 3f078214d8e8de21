use Rattle.std.proofs.Common.{◌≡◌, ◌++◌, take}
use Rattle.std.specs.List.{flat_map}
use Rattle.trace_text.specs.Print.{start_text}
use Rattle.trace_text.proofs.print.put_starts.Given as goal

abbrev pub invariant-loop-start : goal.invariant-loop-start
invariant-loop-start l = l.out.items ≡ l.fn.out.items ++ flat_map (start_text l.«module») (take l.start-index l.starts)
