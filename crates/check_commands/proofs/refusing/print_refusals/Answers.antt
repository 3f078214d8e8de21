use Rattle.std.proofs.Common.{◌∙◌, ◌++◌, ℕ, List, ap, ap₂, refl}
use Rattle.std.proofs.lemmas.Result.{IfOk-weaker}
use Rattle.certs.specs.declared.certs.Certs.{Certs}
use Rattle.layout.specs.Layouts.{LaidOut}
use Rattle.reports.specs.Said.{OnError, OnOutput}
use Rattle.check_commands.specs.Checks.{all_refused, refusals_told, refusals_not_told}
use Rattle.check_commands.proofs.refusing.print_refusals.Goals as goal

pub returns-in_ok-write_all-in-Ok : goal.returns-in_ok-write_all-in-Ok
returns-in_ok-write_all-in-Ok g c =
    let of_under = ap₂ (λ (program : LaidOut) (certs : Certs). (all_refused program.of_module certs.sections c.args.limit c.args.refusals.now).text) c.program-program.ensures c.certs-certs.ensures in
    let told = c.as_slice.ensures.value ∙ c.in-Ok.ensures ∙ of_under in
    let written = c.in_ok-write_all-in-Ok.ensures.bytes ∙ ap (λ (text : List ℕ). c.args.outputs.now.out.items ++ text) told in
    (OnOutput _, refusals_told c.args.refusals.now c.requires, ((refl, written), refl))

pub returns-in-Err : goal.returns-in-Err
returns-in-Err g c = IfOk-weaker c.memory.result _ _ (λ status told. (OnError _, refusals_not_told, (refl, told))) c.memory.ensures
