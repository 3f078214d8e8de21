use Rattle.std.proofs.Common.{◌<◌, ◌∙◌, ℕ, subst, sym}
use Rattle.ir_ast.specs.declared.module.Module.{Module}
use Rattle.recheck.specs.Edits.{HasSectionFault}
use Rattle.recheck.proofs.Faults.{of_section, to_section}
use Rattle.recheck.proofs.Puts.{with_section, put_so, certs_back, as_many_sections}
use Rattle.recheck.proofs.Rows.{others_with_section}
use Rattle.recheck.proofs.put.put_section.Goals as goal

pub replace-requires : goal.replace-requires
replace-requires c =
    subst (λ (n : ℕ). c.args.text.now.func < n) (sym (as_many_sections c.args.certs.now.sections c.replace-past.new.self.sections c.args.text.now.func c.in-Ok.section c.replace-past.ensures.new)) c.requires.section

pub returns-in-Ok-answer_anew-clause-put : goal.returns-in-Ok-answer_anew-clause-put
returns-in-Ok-answer_anew-clause-put c = λ p code.
    put_so p c.args.certs.now.sections c.args.program.now c.replace-past.new.self.sections c.args.text.now.func c.args.old.now c.replace-past.result c.in-Ok.section c.args.text.now.bytes.now c.in-Ok-answer_anew.count
    (of_section c.args.program.now.of_module c.module.result.now c.module.ensures.of_module c.args.text.now.func c.args.text.now.bytes.now c.in-Ok.section c.in-Ok.ensures.found)
    c.replace-past.ensures.new code.code c.replace-past.ensures.given_back c.in-Ok-answer_anew.ensures.count

pub returns-in-Ok-answer_anew-clause-answers : goal.returns-in-Ok-answer_anew-clause-answers
returns-in-Ok-answer_anew-clause-answers c = λ p are code.
    c.in-Ok-answer_anew.ensures.answers p c.args.certs.now.sections are code
    (with_section c.args.certs.now.sections c.replace-past.new.self.sections c.args.text.now.func c.replace-past.result c.in-Ok.section c.replace-past.ensures.new c.replace-past.ensures.given_back)

pub returns-in-Ok-answer_anew-clause-only_fault : goal.returns-in-Ok-answer_anew-clause-only_fault
returns-in-Ok-answer_anew-clause-only_fault c = λ e h.
    c.in-Ok.ensures.only_fault e (subst (λ (m : Module). HasSectionFault m c.args.text.now.func c.args.text.now.bytes.now e) (sym c.module.ensures.of_module) h)

pub returns-in-Err-clause-only : goal.returns-in-Err-clause-only
returns-in-Err-clause-only c = λ section is. c.in-Err.ensures.only section (to_section c.args.program.now.of_module c.module.result.now c.module.ensures.of_module c.args.text.now.func c.args.text.now.bytes.now section is)

pub returns-in-Err-clause-fault : goal.returns-in-Err-clause-fault
returns-in-Err-clause-fault c = λ differs. subst (λ (m : Module). HasSectionFault m c.args.text.now.func c.args.text.now.bytes.now c.in-Err.fault) c.module.ensures.of_module (c.in-Err.ensures.fault differs)

pub returns-in-Err-clause-only_fault : goal.returns-in-Err-clause-only_fault
returns-in-Err-clause-only_fault c = λ e h. c.in-Err.ensures.only_fault e (subst (λ (m : Module). HasSectionFault m c.args.text.now.func c.args.text.now.bytes.now e) (sym c.module.ensures.of_module) h)

pub returns-in-Err-answer_anew-clause-kept : goal.returns-in-Err-answer_anew-clause-kept
returns-in-Err-answer_anew-clause-kept c = (
  certs_back c.args.certs.now c.replace-past.new.self c.replace.new.self c.args.text.now.func c.replace-past.result c.in-Ok.section c.replace-past.ensures.new c.replace-past.ensures.given_back c.replace.ensures.new (c.replace.ensures.shapes ∙ c.replace-past.ensures.shapes) (c.replace.ensures.foreign ∙ c.replace-past.ensures.foreign),
  c.in-Err-answer_anew.ensures.kept,
)

-- ---- what is kept of the others

pub answer_anew-requires-clause-rows : goal.answer_anew-requires-clause-rows
answer_anew-requires-clause-rows c = others_with_section c.rows_law.ensures.others c.args.program.now c.args.certs.now.sections c.replace-past.new.self.sections c.args.text.now.func c.in-Ok.section c.args.kept.now.rows c.replace-past.ensures.new c.requires.rows

pub returns-in-Err-answer_anew-clause-rows : goal.returns-in-Err-answer_anew-clause-rows
returns-in-Err-answer_anew-clause-rows c =
    others_with_section c.rows_law.ensures.others c.args.program.now c.replace-past.new.self.sections c.replace.new.self.sections c.args.text.now.func c.replace-past.result c.answer_anew.new.kept.rows c.replace.ensures.new c.answer_anew.ensures.rows
