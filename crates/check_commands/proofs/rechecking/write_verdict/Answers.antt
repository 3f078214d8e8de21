use Rattle.std.proofs.Common.{◌∙◌, ap, ap₂, subst}
use Rattle.std.proofs.lemmas.Result.{IfOk-weaker}
use Rattle.certs.specs.declared.certs.Certs.{Certs}
use Rattle.ir_ast.specs.declared.module.Module.{Module}
use Rattle.layout.specs.Layouts.{LaidOut}
use Rattle.reports.specs.Report.{IsTold, line_of, no, yes_again}
use Rattle.check_commands.specs.Rechecks.{session_accepted, session_refused}
use Rattle.check_commands.proofs.rechecking.write_verdict.Goals as goal

pub returns-in-None : goal.returns-in-None
returns-in-None g c =
    let old = g.W.Write.contents c.args.lines.now in
    let new = g.W.Write.contents c.accepted_again.new.out in
    let of_module = c.module-of_module.ensures.of_module ∙ ap (λ (p : LaidOut). p.of_module) c.program.ensures in
    IfOk-weaker c.accepted_again.result _ _
    (λ status told. (_, session_accepted c.in-None.ensures, subst (λ (m : Module). IsTold old new status (yes_again m)) of_module told))
    c.accepted_again.ensures

pub returns-in_ok-line-in-Some : goal.returns-in_ok-line-in-Some
returns-in_ok-line-in-Some g c =
    let session = c.args.session.now in
    let refusal = c.in-Some.refusal in
    let old = g.W.Write.contents c.args.lines.now in
    let new = g.W.Write.contents c.refused.new.out in
    let of_module = c.module-of_module.ensures.of_module ∙ ap (λ (p : LaidOut). p.of_module) c.program.ensures in
    let line = c.as_slice.ensures.value ∙ c.in_ok-line-in-Some.ensures ∙ ap₂ (λ (certs : Certs) m. line_of certs.sections m refusal.func refusal.detail) c.certs.ensures of_module in
    IfOk-weaker c.refused.result _ _
    (λ status told. (
      _,
      session_refused refusal c.in-Some.ensures,
      subst (λ m. IsTold old new status (no m (line_of session.certs.sections session.program.of_module refusal.func refusal.detail) refusal)) of_module
          (subst (λ text. IsTold old new status (no c.module-of_module.result.now text refusal)) line told),
    ))
    c.refused.ensures
