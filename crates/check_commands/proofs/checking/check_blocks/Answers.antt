use Rattle.std.proofs.Common.{◌∙◌, IfSome, ap, length, refl, subst, sym}
use Rattle.std.proofs.lemmas.Result.{IfOk-weaker}
use Rattle.certs.specs.declared.certs.Certs.{Certs}
use Rattle.ir_ast.specs.declared.module.Module.{Module}
use Rattle.layout.specs.Layouts.{LaidOut}
use Rattle.command_line.specs.declared.options.Refusals.TheVariants.{OfBlocks}
use Rattle.module_check.specs.Accepted.{IsModuleCertified, accepted_program, shaped}
use Rattle.module_check.specs.Refusals.{AreOfFunctions}
use Rattle.module_check.specs.declared.under_check.UnderCheck.{UnderCheck}
use Rattle.reports.specs.Report.{of_layout_reason}
use Rattle.reports.specs.Said.{OfAccepted, OnError}
use Rattle.check_commands.specs.Accepted.{of_accepted}
use Rattle.check_commands.specs.Checks.{OfCerts, OfRejected, not_accepted}
use Rattle.check_commands.proofs.Rejected.{rejected, unlaid}
use Rattle.check_commands.proofs.checking.check_blocks.Goals as goal

-- ---- it has no layouts

pub returns-in-Err : goal.returns-in-Err
returns-in-Err g c =
    let answer = c.in-Err.answer in
    let m = c.args.certified.of_module in
    let certs = c.args.certified.certs in
    let limit = c.args.blocks.limit in
    let back = sym c.in-Err.ensures.given_back.0 in
    let said = subst (λ (given : Module). OfCerts (OfBlocks limit) m certs (OnError (of_layout_reason given answer.verdict))) back (not_accepted _ (unlaid limit m certs answer.verdict c.in-Err.ensures.fault)) in
    IfOk-weaker c.not_laid_out-status.result _ _ (λ status told. (OnError _, said, (refl, told))) c.not_laid_out-status.ensures

-- ---- it is accepted

pub returns-in-Ok-check_all : goal.returns-in-Ok-check_all
returns-in-Ok-check_all g c =
    let m = c.args.certified.of_module in
    let certs = c.args.certified.certs in
    let program = c.in-Ok.under.program in
    let found = c.in-Ok.ensures in
    let answer = c.in-Ok-check_all.ensures in
    let all = subst (λ (k : Certs). IsModuleCertified program k.sections (length program.of_module.functions)) found.certs answer.certified in
    let is = accepted_program program (shaped m certs) certs.sections found.of_module found.laid_out.0 found.laid_out.1 all in
    let same = ap (λ (p : LaidOut). p.of_module) answer.kept.0 ∙ found.of_module in
    IfOk-weaker c.print_accepted.result _ _
    (λ status told. (told.0, of_accepted (OfBlocks c.args.blocks.limit) m certs told.0 is (subst (λ (x : Module). OfAccepted x told.0) same told.1), told.2))
    c.print_accepted.ensures

-- ---- it is not

pub print_rejected-requires : goal.print_rejected-requires
print_rejected-requires g c =
    let given = c.in-Err-check_all.rejected in
    let answer = c.in-Err-check_all.ensures in
    subst (λ (under : UnderCheck). IfSome given.refusals (AreOfFunctions under.program under.certs.sections (length under.program.of_module.functions))) (sym answer.given_back) answer.each

pub returns-in-Err-check_all : goal.returns-in-Err-check_all
returns-in-Err-check_all g c =
    let m = c.args.certified.of_module in
    let certs = c.args.certified.certs in
    let limit = c.args.blocks.limit in
    let under = c.in-Ok.under in
    let found = c.in-Ok.ensures in
    let given = c.in-Err-check_all.rejected in
    let answer = c.in-Err-check_all.ensures in
    IfOk-weaker c.print_rejected.result _ _
    (λ status told. (
      told.0,
      not_accepted told.0
          (rejected limit under.program m under.certs certs given.refusals told.0 found.of_module found.certs found.laid_out.0 found.laid_out.1 answer.first
          (subst (λ (under : UnderCheck). OfRejected limit under.program under.certs.sections given.refusals told.0) answer.given_back told.1)),
      told.2,
    ))
    c.print_rejected.ensures
