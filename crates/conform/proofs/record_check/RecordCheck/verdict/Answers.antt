use Rattle.std.proofs.Common.{sym, subst}
use Rattle.conform.specs.declared.verdict.Verdict.{Verdict}
use Rattle.conform.specs.Verdicts.{IsCheckedTo}
use Rattle.conform.proofs.Records.{read_told}
use Rattle.conform.proofs.record_check.RecordCheck.verdict.Goals as goal

pub returns-in-None : goal.returns-in-None
returns-in-None c = λ s entries is. read_told s entries c.args.self.now (c.heap_law.ensures.kept s) (subst (IsCheckedTo s entries c.args.self.now) c.in-None.is is)
