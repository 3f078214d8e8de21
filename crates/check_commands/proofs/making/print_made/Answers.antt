use Rattle.std.proofs.Common.{Some, ◌≡◌, ◌∙◌, true, ap, refl, subst, rules}
use Rattle.std.proofs.lemmas.Result.{IfOk-weaker}
use Rattle.ir_ast.specs.declared.module.Module.{Module}
use Rattle.certs.specs.Fits.{fits}
use Rattle.certificate.specs.Print.{cert_text}
use Rattle.module_check.specs.Accepted.{IsAccepted}
use Rattle.reports.specs.Report.{IsTold, made_text}
use Rattle.reports.specs.Said.{OnError, OnOutput}
use Rattle.check_commands.specs.Checks.{made, not_made}
use Rattle.check_commands.proofs.making.print_made.Goals as goal

pub returns-in-Ok : goal.returns-in-Ok
returns-in-Ok c = λ m same.
    let accepted = c.args.accepted.now in
    let text : c.as_slice.result.now ≡ cert_text accepted.certs accepted.program.of_module = search rules in
    let fit = subst (λ (x : Module). fits x accepted.certs.sections ≡ true) same c.requires.fits in
    let shapes = c.requires.shapes ∙ ap (λ (x : Module). x.shapes) same in
    let foreign = c.requires.foreign ∙ ap (λ (x : Module). x.trusted) same in
    let certified = subst (λ (x : Module). IsAccepted x accepted.certs.sections) same c.requires.certified in
    IfOk-weaker c.print_text.result _ _
    (λ status told. (
      OnOutput _,
      made accepted.certs fit shapes foreign certified,
      (subst (λ text. IsTold (Some c.args.outputs.now.out.items) (Some c.print_text.new.out.items) status (made_text text)) (text ∙ ap (cert_text accepted.certs) same) told, refl),
    ))
    c.print_text.ensures

pub returns-in-Err : goal.returns-in-Err
returns-in-Err c = λ m same. IfOk-weaker c.memory.result _ _ (λ status told. (OnError _, not_made, (refl, told))) c.memory.ensures
