use Rattle.std.proofs.Common.{Some, ◌≡◌, refl, subst, rules}
use Rattle.std.proofs.lemmas.Result.{IfOk-weaker}
use Rattle.reports.specs.Report.{IsTold, made_text}
use Rattle.reports.specs.Said.{OnError, OnOutput}
use Rattle.check_commands.specs.Migrating.{migrated_text, printed, not_printed}
use Rattle.check_commands.proofs.migrating.print_module.Goals as goal

pub returns-in-Ok : goal.returns-in-Ok
returns-in-Ok c =
    let text : c.as_slice.result.now ≡ migrated_text c.args.of_module.now c.args.bytes.now = search rules in
    IfOk-weaker c.print_text.result _ _
    (λ status told. (OnOutput _, printed, (subst (λ text. IsTold (Some c.args.outputs.now.out.items) (Some c.print_text.new.out.items) status (made_text text)) text told, refl)))
    c.print_text.ensures

pub returns-in-Err : goal.returns-in-Err
returns-in-Err c = IfOk-weaker c.memory.result _ _ (λ status told. (OnError _, not_printed, (refl, told))) c.memory.ensures
