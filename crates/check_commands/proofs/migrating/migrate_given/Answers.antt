use Rattle.std.proofs.Common.{Option, IfOk, subst}
use Rattle.reports.specs.Said.{OfCertified, Says}
use Rattle.reports.specs.declared.files.File.{File}
use Rattle.check_commands.specs.Migrating.{OfMigrated, known_bytes}
use Rattle.check_commands.proofs.migrating.migrate_given.Goals as goal

pub returns-in-Some : goal.returns-in-Some
returns-in-Some c =
    let says = λ (file : Option File). IfOk c.migrate_certs.result (Says (OfCertified (OfMigrated (known_bytes file)) c.args.files.now.of_module file) c.args.outputs.now c.migrate_certs.new.outputs) in
    rw c.in-Some.is (subst says c.in-Some.is c.migrate_certs.ensures)

pub returns-in-None : goal.returns-in-None
returns-in-None c = rw c.in-None.is c.migrate_module.ensures
