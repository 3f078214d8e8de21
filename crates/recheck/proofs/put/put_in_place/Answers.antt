use Rattle.std.proofs.Common.{◌<◌, ℕ, sym, subst, ◌∙◌}
use Rattle.layout.specs.Layouts.{LaidOut}
use Rattle.recheck.specs.Edits.{HasSectionFault, IsShapedSection}
use Rattle.recheck.proofs.Puts.{with_other, program_back, as_many_functions}
use Rattle.recheck.proofs.Rows.{others_with_code}
use Rattle.recheck.proofs.put.put_in_place.Goals as goal

pub put_section-requires-clause-function : goal.put_section-requires-clause-function
put_section-requires-clause-function c =
    subst (λ (n : ℕ). c.args.text.now.func < n) (sym (as_many_functions c.args.program.now c.replace_function-old.new.self c.args.text.now.func c.args.function c.replace_function-old.ensures.new)) c.requires.function

pub put_section-requires-clause-answers : goal.put_section-requires-clause-answers
put_section-requires-clause-answers c =
    c.requires.answers.one_each ∙ sym (as_many_functions c.args.program.now c.replace_function-old.new.self c.args.text.now.func c.args.function c.replace_function-old.ensures.new)

pub replace_function-requires : goal.replace_function-requires
replace_function-requires c =
    subst (λ (n : ℕ). c.args.text.now.func < n) (sym (as_many_functions c.args.program.now c.replace_function-old.new.self c.args.text.now.func c.args.function c.replace_function-old.ensures.new)) c.requires.function

pub returns-in-Ok-clause-put : goal.returns-in-Ok-clause-put
returns-in-Ok-clause-put c =
    c.in-Ok.ensures.put c.args.program.now
    (with_other c.args.program.now c.replace_function-old.new.self c.args.text.now.func c.replace_function-old.result c.args.function c.replace_function-old.ensures.new c.replace_function-old.ensures.given_back)

pub returns-in-Ok-clause-answers : goal.returns-in-Ok-clause-answers
returns-in-Ok-clause-answers c =
    c.in-Ok.ensures.answers c.args.program.now c.requires.answers
    (with_other c.args.program.now c.replace_function-old.new.self c.args.text.now.func c.replace_function-old.result c.args.function c.replace_function-old.ensures.new c.replace_function-old.ensures.given_back)

pub returns-in-Ok-clause-only_fault : goal.returns-in-Ok-clause-only_fault
returns-in-Ok-clause-only_fault c = λ e h.
    c.in-Ok.ensures.only_fault e (subst (λ (q : LaidOut). HasSectionFault q.of_module c.args.text.now.func c.args.text.now.bytes.now e) (sym c.replace_function-old.ensures.new) h)

pub returns-in-Err-clause-kept : goal.returns-in-Err-clause-kept
returns-in-Err-clause-kept c = (
  program_back c.args.program.now c.replace_function-old.new.self c.replace_function.new.self c.args.text.now.func c.replace_function-old.result c.args.function c.replace_function-old.ensures.new c.replace_function-old.ensures.given_back c.replace_function.ensures.new,
  c.in-Err.ensures.kept.0,
  c.in-Err.ensures.kept.1,
)

pub returns-in-Err-clause-fault : goal.returns-in-Err-clause-fault
returns-in-Err-clause-fault c = λ differs. subst (λ (q : LaidOut). HasSectionFault q.of_module c.args.text.now.func c.args.text.now.bytes.now c.in-Err.fault) c.replace_function-old.ensures.new (c.in-Err.ensures.fault differs)

pub returns-in-Err-clause-only : goal.returns-in-Err-clause-only
returns-in-Err-clause-only c = λ section is. c.in-Err.ensures.only section (subst (λ (q : LaidOut). IsShapedSection c.args.text.now.bytes.now q.of_module c.args.text.now.func section) (sym c.replace_function-old.ensures.new) is)

pub returns-in-Err-clause-only_fault : goal.returns-in-Err-clause-only_fault
returns-in-Err-clause-only_fault c = λ e h. c.in-Err.ensures.only_fault e (subst (λ (q : LaidOut). HasSectionFault q.of_module c.args.text.now.func c.args.text.now.bytes.now e) (sym c.replace_function-old.ensures.new) h)

-- ---- what is kept of the others

pub put_section-requires-clause-rows : goal.put_section-requires-clause-rows
put_section-requires-clause-rows c =
    others_with_code c.rows_law.ensures.others c.args.program.now c.replace_function-old.new.self c.args.certs.now.sections c.args.text.now.func c.args.function c.forget.new.self c.replace_function-old.ensures.new (c.forget.ensures.rows c.args.program.now c.args.certs.now.sections c.requires.rows)

pub returns-in-Ok-clause-rows : goal.returns-in-Ok-clause-rows
returns-in-Ok-clause-rows c = c.put_section.ensures.rows.1

pub returns-in-Err-clause-rows : goal.returns-in-Err-clause-rows
returns-in-Err-clause-rows c =
    let back = others_with_code c.rows_law.ensures.others c.replace_function-old.new.self c.replace_function.new.self c.put_section.new.certs.sections c.args.text.now.func c.replace_function-old.result c.put_section.new.kept.rows c.replace_function.ensures.new c.put_section.ensures.rows in
    back.1

pub returns-in-Ok-clause-stay : goal.returns-in-Ok-clause-stay
returns-in-Ok-clause-stay c = λ other rows differs at. c.put_section.ensures.stay other rows differs (c.forget.ensures.stay other rows differs at)

pub returns-in-Err-clause-stay : goal.returns-in-Err-clause-stay
returns-in-Err-clause-stay c = λ other rows differs at. c.put_section.ensures.stay other rows differs (c.forget.ensures.stay other rows differs at)
