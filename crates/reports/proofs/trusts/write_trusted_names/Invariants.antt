-- what was written so far is the names of the functions that the loop went over
use Rattle.std.proofs.Common.{take}
use Rattle.std.specs.List.{flat_map}
use Rattle.std.specs.Io.KnownBytes.{Appends}
use Rattle.reports.specs.Report.{trusted_name}
use Rattle.reports.proofs.trusts.write_trusted_names.Given as goal

abbrev pub invariant-loop-symbol : goal.invariant-loop-symbol
invariant-loop-symbol g l = Appends (g.W.Write.contents l.fn.out) (g.W.Write.contents l.out) (flat_map (trusted_name l.of_module) (take l.symbol-index l.trusts))
