-- The answers are those of the module as it is checked, and nothing else is kept.
use Rattle.std.proofs.Common.{◌∙◌, None, ap, length, subst, sym}
use Rattle.ir_ast.specs.declared.module.Module.{Module}
use Rattle.certs.specs.declared.certs.Certs.{Certs}
use Rattle.layout.specs.Layouts.{AreLayouts, AreSizes, LaidOut}
use Rattle.answers.specs.Answers.{AreAnswers}
use Rattle.recheck.specs.Put.{IsKept}
use Rattle.recheck.proofs.Rows.{none_kept}
use Rattle.recheck.proofs.session.Session.new.Goals as goal

pub invariant_of-result : goal.invariant_of-result
invariant_of-result c =
    let under = c.in_ok-under.under in
    let found = c.in_ok-under.ensures in
    let of_program = subst (λ (p : LaidOut). AreAnswers p c.certs.result.now.sections c.in-Ok.answers) c.program.ensures c.in-Ok.ensures in
    let answers = subst (λ (k : Certs). AreAnswers under.program k.sections c.in-Ok.answers) c.certs.ensures of_program in
    let here : IsKept under.program under.certs.sections (record { functions = record { answers = c.in-Ok.answers; rows = c.new-rows.result }; tables = None }) = record {
      answered = record {
        laid_out = subst (λ (m : Module). AreLayouts m under.program.layouts) (sym found.of_module) found.laid_out.0;
        sized = subst (λ (m : Module). AreSizes m under.program.sizes) (sym found.of_module) found.laid_out.1;
        one_each = ap (λ (k : Certs). length k.sections) found.certs ∙ c.requires ∙ sym (ap (λ (m : Module). length m.functions) found.of_module);
        are_answers = answers;
      };
      rows = none_kept under.program under.certs.sections c.new-rows.result c.new-rows.ensures;
      ready = tt;
    } in
    subst (λ (parts : LaidOut × Certs). IsKept parts.0 parts.1.sections (record { functions = record { answers = c.in-Ok.answers; rows = c.new-rows.result }; tables = None })) (sym c.into_parts-program.ensures) here
