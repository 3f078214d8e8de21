use Rattle.std.proofs.Common.{◌≡◌, ◌<◌, ◌∙◌, ℕ, Some, slice_get, refl, ap, subst, sym}
use Rattle.ir_ast.specs.declared.module.Module.{Module}
use Rattle.answers.specs.declared.kept_functions.KeptFunctions.{KeptFunctions}
use Rattle.layout.specs.Layouts.{LaidOut}
use Rattle.recheck.specs.Put.{IsBothPut}
use Rattle.recheck.proofs.Edited.{both_anew}
use Rattle.recheck.proofs.Puts.{certs_back, as_many_sections}
use Rattle.recheck.proofs.code.put_anew.Goals as goal

pub returns-in-Ok-answer_all-clause-put : goal.returns-in-Ok-answer_all-clause-put
returns-in-Ok-answer_all-clause-put c =
    subst (λ (p : LaidOut). IsBothPut c.args.program.now c.args.certs.now.sections c.args.text.now.func c.args.code.now c.args.text.now.bytes.now p c.replace-past.new.self.sections c.in-Ok-answer_all.count) (sym c.put_program.ensures)
    (both_anew c.args.program.now c.in-Ok.read.0 c.args.certs.now.sections c.replace-past.new.self.sections c.args.text.now.func c.function_at.result.now c.replace-past.result c.in-Ok.read.1 c.args.code.now c.args.text.now.bytes.now c.in-Ok-answer_all.count
    c.in-Ok.ensures.found c.replace-past.ensures.new
    (subst (λ (m : Module). slice_get m.functions c.args.text.now.func ≡ Some c.function_at.result.now) c.module.ensures.of_module c.function_at.ensures)
    c.replace-past.ensures.given_back c.in-Ok-answer_all.ensures.count)

pub replace-requires : goal.replace-requires
replace-requires c =
    subst (λ (n : ℕ). c.args.text.now.func < n) (sym (as_many_sections c.args.certs.now.sections c.replace-past.new.self.sections c.args.text.now.func c.in-Ok.read.1 c.replace-past.ensures.new)) c.requires.section

pub returns-in-Err-answer_all-clause-kept : goal.returns-in-Err-answer_all-clause-kept
returns-in-Err-answer_all-clause-kept c = (
  refl,
  certs_back c.args.certs.now c.replace-past.new.self c.replace.new.self c.args.text.now.func c.replace-past.result c.in-Ok.read.1 c.replace-past.ensures.new c.replace-past.ensures.given_back c.replace.ensures.new (c.replace.ensures.shapes ∙ c.replace-past.ensures.shapes) (c.replace.ensures.foreign ∙ c.replace-past.ensures.foreign),
  ap (λ (functions : KeptFunctions). record c.args.kept.now { functions = functions }) c.in-Err-answer_all.ensures.kept,
)
