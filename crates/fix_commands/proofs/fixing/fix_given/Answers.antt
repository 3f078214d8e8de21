use Rattle.std.proofs.Common.{refl}
use Rattle.std.proofs.lemmas.Result.{IfOk-weaker}
use Rattle.reports.specs.Report.{no_memory}
use Rattle.reports.specs.Said.{OnError}
use Rattle.fix_commands.specs.Fixing.{no_room}
use Rattle.fix_commands.proofs.fixing.fix_given.Goals as goal

pub returns-in-Err-clause-said : goal.returns-in-Err-clause-said
returns-in-Err-clause-said g c = IfOk-weaker c.memory.result _ _ (λ status told. (OnError no_memory, no_room _ refl, (refl, told))) c.memory.ensures
