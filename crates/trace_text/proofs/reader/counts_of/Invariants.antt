use Rattle.std.proofs.Common.{◌≡◌}
use Rattle.trace_text.specs.Text.{counts_of}
use Rattle.trace_text.proofs.reader.counts_of.Given as goal

abbrev pub invariant-loop-layout : goal.invariant-loop-layout
invariant-loop-layout l = l.counts ≡ counts_of l.layout l.listed
