use Rattle.std.proofs.Common.{◌∙◌, ap, subst}
use Rattle.std.proofs.lemmas.Result.{IfOk-weaker}
use Rattle.ir_ast.specs.declared.module.Module.{Module}
use Rattle.layout.specs.Layouts.{LaidOut}
use Rattle.reports.specs.Said.{OfAccepted}
use Rattle.check_commands.proofs.checking.print_accepted.Goals as goal

pub returns : goal.returns
returns c =
    let same = c.module.ensures.of_module ∙ ap (λ (p : LaidOut). p.of_module) c.program.ensures.program in
    IfOk-weaker c.report_accepted-status.result _ _ (λ status told. (told.0, subst (λ (m : Module). OfAccepted m told.0) same told.1, told.2)) c.report_accepted-status.ensures
