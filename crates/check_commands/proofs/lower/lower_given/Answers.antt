use Rattle.std.proofs.Common.{Option, IfOk, subst}
use Rattle.reports.specs.Said.{OfCertified, Says}
use Rattle.reports.specs.declared.files.File.{File}
use Rattle.check_commands.specs.Lowering.{OfLowered}
use Rattle.check_commands.proofs.lower.lower_given.Goals as goal

pub returns-in-Some : goal.returns-in-Some
returns-in-Some c =
    let says = λ (file : Option File). IfOk c.lower_checked.result (Says (OfCertified (OfLowered c.args.options.recorded) c.args.files.now.of_module file) c.args.outputs.now c.lower_checked.new.outputs) in
    rw c.in-Some.is (subst says c.in-Some.is c.lower_checked.ensures)

pub returns-in-None : goal.returns-in-None
returns-in-None c = rw c.in-None.is c.lower_unchecked.ensures
