use Rattle.std.proofs.Common.{Some, refl, subst, sym}
use Rattle.std.proofs.lemmas.Result.{IfOk-weaker}
use Rattle.ir_ast.specs.declared.module.Module.{Module}
use Rattle.layout.specs.Layouts.{AreLayouts, LaidOut}
use Rattle.reports.specs.Report.{IsTold, of_layout_reason}
use Rattle.reports.specs.Said.{OnError}
use Rattle.search_commands.specs.Searches.{OfHunt, not_laid_out, of_shaped}
use Rattle.search_commands.proofs.hunts.hunt_certified.Goals as goal

pub returns-in-Err-clause-said : goal.returns-in-Err-clause-said
returns-in-Err-clause-said g c =
    let reason = c.in-Err.refused.verdict in
    IfOk-weaker c.not_laid_out-status.result _ _
    (λ status told. (
      OnError _,
      not_laid_out reason c.in-Err.ensures.fault refl,
      (refl, subst (λ (m : Module). IsTold (Some c.args.results.now.outputs.err.items) (Some c.not_laid_out-status.new.err.items) status (of_layout_reason m reason)) c.in-Err.ensures.given_back.0 told),
    ))
    c.not_laid_out-status.ensures

pub returns-in-Ok-clause-said : goal.returns-in-Ok-clause-said
returns-in-Ok-clause-said g c =
    let under = c.in-Ok.under in
    let shaped = c.in-Ok.ensures.of_module in
    let laid = subst (λ (m : Module). AreLayouts m under.program.layouts) (sym shaped) c.in-Ok.ensures.laid_out.0 in
    IfOk-weaker c.hunt_program-status.result _ _
    (λ status told. (told.0, of_shaped under.program told.0 shaped laid (subst (λ (p : LaidOut). OfHunt c.args.asked.options c.args.asked.saves p c.args.results.now.saved.items c.hunt_program-status.new.results.saved.items told.0) c.program.ensures told.1), told.2))
    c.hunt_program-status.ensures.said
