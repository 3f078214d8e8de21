use Rattle.std.proofs.Common.{◌∙◌, refl}
use Rattle.conform.proofs.Records.{read_root}
use Rattle.conform.proofs.record_check.RecordCheck.read_said.Goals as goal

pub returns-in_ok-name_root-in-Root-clause-read : goal.returns-in_ok-name_root-in-Root-clause-read
returns-in_ok-name_root-in-Root-clause-read c = λ s entries is entry said. read_root s entries c.args.self.now is entry c.in-Root.thread c.in-Root.cell (said ∙ c.in-Root.is) _ refl c.in_ok-name_root-in-Root.ensures refl
