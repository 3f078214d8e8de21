use Rattle.std.proofs.Common.{reverse}
use Rattle.record_text.specs.Entries.{first_entries}
use Rattle.conform.specs.Verdicts.{IsChecked}
use Rattle.conform.proofs.record_check.conform.Given as goal

abbrev pub invariant-loop-number : goal.invariant-loop-number
invariant-loop-number l = IsChecked l.fn.plan (reverse (first_entries l.number l.fn.bytes)) l.check
