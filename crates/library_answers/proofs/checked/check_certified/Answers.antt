use Rattle.std.proofs.Common.{arith, subst}
use Rattle.ir_ast.specs.declared.module.Module.{Module}
use Rattle.certs.specs.declared.certs.Certs.{Certs}
use Rattle.reports.specs.Said.{OfAccepted, OfVerdict}
use Rattle.check_commands.specs.Accepted.{of_accepted}
use Rattle.check_commands.specs.Checks.{OfCerts, not_accepted}
use Rattle.command_line.specs.declared.options.Refusals.TheVariants.{First}
use Rattle.library_answers.proofs.Answered.{answered_as}
use Rattle.library_answers.specs.Told.{IsRefusedAt}
use Rattle.library_answers.proofs.checked.check_certified.Goals as goal

pub returns-in-Ok-clause-said : goal.returns-in-Ok-clause-said
returns-in-Ok-clause-said c =
    let m = c.args.certified.of_module in
    let certs = c.args.certified.certs in
    answered_as (OfAccepted c.in-Ok.taken.program.of_module) (OfCerts First m certs) _ _ c.is_accepted-answer.result
    (λ said is. of_accepted First m certs said c.in-Ok.ensures.accepted (subst (λ (x : Module). OfAccepted x said) c.in-Ok.ensures.kept.0 is))
    c.is_accepted-answer.ensures.said

pub returns-in-Ok-clause-place : goal.returns-in-Ok-clause-place
returns-in-Ok-clause-place c = λ other. absurd (other c.is_accepted-answer.ensures.place)

pub returns-in-Ok-clause-accepted : goal.returns-in-Ok-clause-accepted
returns-in-Ok-clause-accepted c = λ yes. c.in-Ok.ensures.accepted

pub returns-in-Err-clause-said : goal.returns-in-Err-clause-said
returns-in-Err-clause-said c =
    let m = c.args.certified.of_module in
    let certs = c.args.certified.certs in
    let refused = c.in-Err.refused in
    let back = c.in-Err.ensures.given_back in
    answered_as (OfVerdict refused.of_module refused.certs) (OfCerts First m certs) _ _ c.is_refused-answer.result
    (λ said is. not_accepted said (subst (λ (x : Module). OfVerdict x certs said) back.0 (subst (λ (k : Certs). OfVerdict refused.of_module k said) back.1 is)))
    c.is_refused-answer.ensures.said

pub returns-in-Err-clause-place : goal.returns-in-Err-clause-place
returns-in-Err-clause-place c =
    let refused = c.in-Err.refused in
    let certs = c.args.certified.certs in
    let place = c.is_refused-answer.result.place in
    let back = c.in-Err.ensures.given_back in
    subst (λ (x : Module). IsRefusedAt x certs place) back.0 (subst (λ (k : Certs). IsRefusedAt refused.of_module k place) back.1 c.is_refused-answer.ensures.place)

pub returns-in-Err-clause-accepted : goal.returns-in-Err-clause-accepted
returns-in-Err-clause-accepted c = λ yes. let no = c.is_refused-answer.ensures.no in absurd (omega (arith, yes, no))
