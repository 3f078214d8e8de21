use Rattle.std.proofs.Common.{◌∙◌, ◌++◌, ℕ, List, ap, refl}
use Rattle.std.proofs.lemmas.Result.{IfOk-weaker}
use Rattle.reports.specs.Said.{OnError, OnOutput}
use Rattle.check_commands.specs.EditedFiles.{edited, not_edited}
use Rattle.check_commands.proofs.rechecking.edit_session.Goals as goal

pub returns-in_ok-write_all-in-Ok : goal.returns-in_ok-write_all-in-Ok
returns-in_ok-write_all-in-Ok g c =
    let told = c.in-Ok.ensures in
    let last = c.status_of_verdict.ensures in
    let written = c.in_ok-write_all-in-Ok.ensures.bytes ∙ ap (λ (text : List ℕ). c.args.outputs.now.out.items ++ text) (c.as_slice.ensures.value ∙ told.4) in
    (OnOutput _, edited c.lines_of.new.session told.0 last.0 told.1 told.2 told.3 last.1, ((last.2, written), refl))

pub returns-in-Err : goal.returns-in-Err
returns-in-Err g c = IfOk-weaker c.memory.result _ _ (λ status told. (OnError _, not_edited, (refl, told))) c.memory.ensures
