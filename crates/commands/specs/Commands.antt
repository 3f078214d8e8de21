-- What each command says of its files.
use Rattle.std.specs.Prelude.{◌&&◌, option_map}
use Rattle.command_line.specs.declared.options.What.{What}
use Rattle.command_line.specs.declared.options.What.TheVariants.{Check, Make, Fix, Recheck, Replay, Soak, Hunt, Run, Watch, Conform, Explain, Migrate, Lower}
use Rattle.reports.specs.Said.{Said, Saved, OfCertified}
use Rattle.reports.specs.declared.files.Files.{Files}
use Rattle.fix_commands.specs.Fixing.{OfFix}
use Rattle.check_commands.specs.Checks.{OfCerts, OfMake}
use Rattle.check_commands.specs.Explained.{OfExplain}
use Rattle.check_commands.specs.Lowering.{OfLower}
use Rattle.check_commands.specs.Migrating.{OfMigrate}
use Rattle.check_commands.specs.EditedFiles.{OfEditsFile}
use Rattle.reports.specs.TraceRuns.{OfRun, OfRunCerts}
use Rattle.search_commands.specs.Searches.{OfHuntFiles, OfSeeds}
use Rattle.commands.specs.Conforming.{OfRecord}
use Rattle.commands.specs.Replaying.{OfReplay}
use Rattle.commands.specs.Watching.{OfWatch}

-- what a command says of its files; before and after it these bytes are saved
abbrev pub OfCommand : What → Files → (before after : Saved) → Said → Type 0
OfCommand (Check options) files before after = OfCertified (OfCerts options.refusals) files.of_module files.certificate
OfCommand (Make options) files before after = OfMake options.why files.of_module files.shapes
OfCommand Fix files before after = OfFix files before after
OfCommand Recheck files before after = OfCertified (OfEditsFile files.edits) files.of_module files.certificate
OfCommand (Replay options) files before after = OfRun (λ p t. OfReplay (files.saves && options.recorded) p t before.file after.file) files.of_module files.trace files.shapes
OfCommand (Soak options) files before after = OfRun (λ p t. OfSeeds options files.saves p t before.file after.file) files.of_module files.trace files.shapes
OfCommand (Hunt options) files before after = OfHuntFiles options files.saves files.of_module files.certificate files.shapes before.file after.file
OfCommand (Run options) files before after =
    OfCertified (OfRunCerts (record { turns = options.turns; steps = options.steps }) files.trace) files.of_module files.certificate
OfCommand (Watch options) files before after = OfRun (OfWatch (record { turns = options.turns; steps = options.steps })) files.of_module files.trace files.shapes
OfCommand Conform files before after = OfRun (OfRecord files.of_record) files.of_module files.trace files.shapes
OfCommand (Explain options) files before after = OfExplain (option_map (λ code. code.now) options.code)
OfCommand Migrate files before after = OfMigrate files.of_module files.certificate
OfCommand (Lower options) files before after = OfLower options.recorded files.of_module files.certificate files.shapes
