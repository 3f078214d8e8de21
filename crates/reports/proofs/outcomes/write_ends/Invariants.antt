-- what was written so far is the lines of the threads that the loop went over
use Rattle.std.proofs.Common.{take}
use Rattle.std.specs.List.{enumerate_from, flat_map}
use Rattle.std.specs.Io.KnownBytes.{Appends}
use Rattle.reports.specs.Outcomes.{end_text}
use Rattle.reports.proofs.outcomes.write_ends.Given as goal

abbrev pub invariant-loop-thread : goal.invariant-loop-thread
invariant-loop-thread g l = Appends (g.W.Write.contents l.fn.out) (g.W.Write.contents l.out) (flat_map end_text (enumerate_from 0 (take l.thread l.ends)))
