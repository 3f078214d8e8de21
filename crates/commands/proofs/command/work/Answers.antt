-- What was said, with the text that follows on each output.
use Rattle.std.proofs.Common.{subst}
use Rattle.command_line.specs.Asked.{is_wanted}
use Rattle.reports.specs.Said.{GivesTextIf}
use Rattle.commands.proofs.command.work.Goals as goal

pub returns-clause-said : goal.returns-clause-said
returns-clause-said g c =
    let said = c.in_ok-status.ensures.said in
    (said.0, said.1, said.2, subst (λ items. GivesTextIf (is_wanted c.args.command.now.explained) items c.explain_done.new.err.items) said.3 c.in_ok-explain_done.ensures)
