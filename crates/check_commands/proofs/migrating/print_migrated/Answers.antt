use Rattle.std.proofs.Common.{refl}
use Rattle.std.proofs.lemmas.Result.{IfOk-weaker}
use Rattle.reports.specs.Said.{OnError}
use Rattle.check_commands.specs.Migrating.{not_migrated}
use Rattle.check_commands.proofs.migrating.print_migrated.Goals as goal

pub returns-in-Ok : goal.returns-in-Ok
returns-in-Ok c = c.print_made-status.ensures

pub returns-in-Err : goal.returns-in-Err
returns-in-Err c = IfOk-weaker c.memory.result _ _ (λ status told. (OnError _, not_migrated, (refl, told))) c.memory.ensures
