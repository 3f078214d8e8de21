use Rattle.std.proofs.Common.{◌≡◌, Some, slice_get, subst}
use Rattle.ir_ast.specs.declared.module.Module.{Module}
use Rattle.recheck.proofs.Puts.{with_itself}
use Rattle.recheck.proofs.put.put_section_of.Goals as goal

pub returns-clause-put : goal.returns-clause-put
returns-clause-put c =
    c.put_section.ensures.put c.args.program.now
    (with_itself c.args.program.now c.args.text.now.func c.function_at-old.result.now
    (subst (λ (m : Module). slice_get m.functions c.args.text.now.func ≡ Some c.function_at-old.result.now) c.module.ensures.of_module c.function_at-old.ensures))

pub returns-clause-answers : goal.returns-clause-answers
returns-clause-answers c =
    c.put_section.ensures.answers c.args.program.now c.requires.answers
    (with_itself c.args.program.now c.args.text.now.func c.function_at-old.result.now
    (subst (λ (m : Module). slice_get m.functions c.args.text.now.func ≡ Some c.function_at-old.result.now) c.module.ensures.of_module c.function_at-old.ensures))

pub put_section-requires-clause-rows : goal.put_section-requires-clause-rows
put_section-requires-clause-rows c = c.forget.ensures.rows c.args.program.now c.args.certs.now.sections c.requires.rows

pub returns-clause-rows : goal.returns-clause-rows
returns-clause-rows c = c.put_section.ensures.rows.1

pub returns-clause-stay : goal.returns-clause-stay
returns-clause-stay c = λ other rows differs at. c.put_section.ensures.stay other rows differs (c.forget.ensures.stay other rows differs at)
