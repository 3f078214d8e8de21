use Rattle.std.proofs.Common.{◌≢◌, Err, inl, inr, refl}
use Rattle.std.proofs.lemmas.Result.{IfOk-weaker}
use Rattle.certificate.specs.Migrated.{IsMigration}
use Rattle.certificate.specs.declared.fault.CertFault.TheVariants as cert
use Rattle.reports.specs.Said.{OnError}
use Rattle.check_commands.specs.Migrating.{missing}
use Rattle.check_commands.proofs.migrating.migrate_certified.Goals as goal

pub print_migrated-status-requires : goal.print_migrated-status-requires
print_migrated-status-requires c = elim c.in-Ok.ensures [ inl e ↦ absurd cc | inr answer ↦ answer ]

pub returns-in-Ok : goal.returns-in-Ok
returns-in-Ok c = c.print_migrated-status.ensures

pub returns-in-Err : goal.returns-in-Err
returns-in-Err c =
    let fault = c.in-Err.fault in
    let certified = c.args.certified.now in
    let why : fault ≢ cert.Memory → IsMigration certified.of_module certified.certs (Err fault) = λ other. elim c.in-Err.ensures [ inl e ↦ absurd (other cc) | inr answer ↦ answer ] in
    IfOk-weaker c.no_certificate.result _ _ (λ status told. (OnError _, missing fault why, (refl, told))) c.no_certificate.ensures
