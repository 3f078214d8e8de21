use Rattle.std.proofs.Common.{◌≡◌, arith, subst, sym}
use Rattle.reports.specs.Files.{of_unread}
use Rattle.reports.specs.Said.{OnError, OfCertified, not_certified, of_certified}
use Rattle.check_commands.specs.Checks.{OfCerts}
use Rattle.command_line.specs.declared.options.Refusals.TheVariants.{First}
use Rattle.library_answers.proofs.Answered.{answered_as}
use Rattle.library_answers.proofs.checked.check_files.Goals as goal

pub returns-in-Ok-clause-said : goal.returns-in-Ok-clause-said
returns-in-Ok-clause-said c =
    let files = c.args.files.now in
    let certified = c.in-Ok.certified in
    answered_as (OfCerts First certified.of_module certified.certs) (OfCertified (OfCerts First) files.of_module files.certificate) _ _ c.check_certified.result
    (λ said is. of_certified certified.of_module certified.certs said c.in-Ok.ensures.of_module c.in-Ok.ensures.certs is)
    c.check_certified.ensures.said

pub returns-in-Ok-clause-accepted : goal.returns-in-Ok-clause-accepted
returns-in-Ok-clause-accepted c = λ yes. (c.in-Ok.certified.of_module, c.in-Ok.certified.certs, c.in-Ok.ensures.of_module, c.in-Ok.ensures.certs, c.check_certified.ensures.accepted yes)

pub returns-in-Ok-clause-place : goal.returns-in-Ok-clause-place
returns-in-Ok-clause-place c = λ other. (c.in-Ok.certified.of_module, c.in-Ok.certified.certs, c.in-Ok.ensures.of_module, c.in-Ok.ensures.certs, c.check_certified.ensures.place)

pub returns-in-Err-clause-said : goal.returns-in-Err-clause-said
returns-in-Err-clause-said c =
    let files = c.args.files.now in
    let fault = c.in-Err.fault in
    answered_as (λ said. said ≡ OnError (of_unread fault)) (OfCertified (OfCerts First) files.of_module files.certificate) _ _ c.not_read.result
    (λ said same. subst (OfCertified (OfCerts First) files.of_module files.certificate) (sym same) (not_certified fault c.in-Err.ensures.err))
    c.not_read.ensures.said

pub returns-in-Err-clause-accepted : goal.returns-in-Err-clause-accepted
returns-in-Err-clause-accepted c = λ yes. let no = c.not_read.ensures.no in absurd (omega (arith, yes, no))

pub returns-in-Err-clause-place : goal.returns-in-Err-clause-place
returns-in-Err-clause-place c = λ other. absurd (other c.not_read.ensures.place)
