use Rattle.std.proofs.Common.{◌≡◌, subst, sym}
use Rattle.reports.specs.Files.{of_unread}
use Rattle.reports.specs.Said.{OnError}
use Rattle.command_line.specs.declared.options.Why.TheVariants.{NotWanted}
use Rattle.check_commands.specs.Checks.{OfMade, OfMake, no_module, of_module}
use Rattle.library_answers.proofs.Answered.{answered_as}
use Rattle.library_answers.proofs.made.make_files.Goals as goal

pub returns-in-Ok : goal.returns-in-Ok
returns-in-Ok c =
    let files = c.args.files.now in
    answered_as (OfMade NotWanted c.in-Ok.of_module) (OfMake NotWanted files.of_module files.shapes) _ _ c.make_of.result
    (λ said is. of_module c.in-Ok.of_module said c.in-Ok.ensures.ok is)
    c.make_of.ensures

pub returns-in-Err : goal.returns-in-Err
returns-in-Err c =
    let files = c.args.files.now in
    let fault = c.in-Err.fault in
    answered_as (λ said. said ≡ OnError (of_unread fault)) (OfMake NotWanted files.of_module files.shapes) _ _ c.not_read.result
    (λ said same. subst (OfMake NotWanted files.of_module files.shapes) (sym same) (no_module fault c.in-Err.ensures.err))
    c.not_read.ensures.said
