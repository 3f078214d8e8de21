-- what was written so far is the lines of the threads that the loop went over
use Rattle.std.proofs.Common.{take}
use Rattle.std.specs.List.{enumerate_from, flat_map}
use Rattle.std.specs.Io.KnownBytes.{Appends}
use Rattle.reports.specs.RunReport.{thread_text}
use Rattle.reports.proofs.run_report.write_threads.Given as goal

abbrev pub invariant-loop-thread : goal.invariant-loop-thread
invariant-loop-thread g l = Appends (g.W.Write.contents l.fn.out) (g.W.Write.contents l.out) (flat_map thread_text (enumerate_from 0 (take l.thread l.threads)))
