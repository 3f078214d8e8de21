use Rattle.std.proofs.Common.{ℕ, List, refl, subst}
use Rattle.std.proofs.lemmas.Result.{IfOk-weaker}
use Rattle.reports.specs.Said.{OnError, not_certified, of_certified}
use Rattle.check_commands.specs.Migrating.{OfMigrated}
use Rattle.check_commands.proofs.migrating.migrate_certs.Goals as goal

pub returns-in-Ok : goal.returns-in-Ok
returns-in-Ok c =
    let certified = c.in-Ok.certified in
    IfOk-weaker c.migrate_certified-status.result _ _
    (λ status told. (told.0, of_certified certified.of_module certified.certs told.0 c.in-Ok.ensures.of_module c.in-Ok.ensures.certs (subst (λ (bytes : List ℕ). OfMigrated bytes certified.of_module certified.certs told.0) c.known_bytes-bytes.ensures told.1), told.2))
    c.migrate_certified-status.ensures

pub returns-in-Err : goal.returns-in-Err
returns-in-Err c =
    IfOk-weaker c.unread.result _ _ (λ status told. (OnError _, not_certified c.in-Err.fault c.in-Err.ensures.err, (refl, told))) c.unread.ensures
