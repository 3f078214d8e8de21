use Rattle.std.proofs.Common.{Some, ◌∙◌, refl, subst}
use Rattle.std.proofs.lemmas.Result.{IfOk-weaker}
use Rattle.std.specs.Io.KnownBytes.{Appends}
use Rattle.reports.specs.Report.{no, no_answer}
use Rattle.reports.specs.Said.{OnBoth, OnError}
use Rattle.check_commands.specs.Checks.{none_made_why, not_made}
use Rattle.check_commands.proofs.making.print_refused.Goals as goal

pub returns-in_ok-refused-in-Ok : goal.returns-in_ok-refused-in-Ok
returns-in_ok-refused-in-Ok c =
    let m = c.args.of_module.now in
    let tried = c.args.tried.now in
    let old = Some c.args.outputs.now.err.items in
    let new = Some c.refused.new.out.items in
    let told = subst (λ line. Appends old new (no m line tried.refusal).text) (c.as_slice.ensures.value ∙ c.in-Ok.ensures) c.in_ok-refused-in-Ok.ensures.1 in
    (OnBoth no_answer _, none_made_why tried.certs.sections tried.refusal refl c.requires.plain c.requires.refused.fit c.requires.refused.first, (c.in_ok-status-in-Ok.ensures, told))

pub returns-in-Err : goal.returns-in-Err
returns-in-Err c = IfOk-weaker c.memory.result _ _ (λ status told. (OnError _, not_made, (refl, told))) c.memory.ensures
