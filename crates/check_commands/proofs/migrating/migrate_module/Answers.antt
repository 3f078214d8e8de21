use Rattle.std.proofs.Common.{ℕ, List, refl, subst, ap, ◌∙◌}
use Rattle.std.proofs.lemmas.Result.{IfOk-weaker}
use Rattle.reports.specs.Said.{OnError}
use Rattle.check_commands.specs.Migrating.{OfText, known_bytes, no_module, of_module}
use Rattle.check_commands.proofs.migrating.migrate_module.Goals as goal

pub returns-in-Ok : goal.returns-in-Ok
returns-in-Ok c =
    let m = c.in-Ok.of_module in
    IfOk-weaker c.print_module-status.result _ _
    (λ status told. (told.0, of_module m told.0 c.in-Ok.ensures.ok (subst (λ (bytes : List ℕ). OfText m bytes told.0) (c.known_bytes.ensures ∙ ap known_bytes c.file_of.ensures) told.1), told.2))
    c.print_module-status.ensures

pub returns-in-Err : goal.returns-in-Err
returns-in-Err c =
    IfOk-weaker c.unread.result _ _ (λ status told. (OnError _, no_module c.in-Err.fault c.in-Err.ensures.err, (refl, told))) c.unread.ensures
