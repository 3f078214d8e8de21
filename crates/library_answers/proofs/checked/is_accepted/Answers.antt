use Rattle.std.proofs.Common.{◌∙◌, ap, subst}
use Rattle.ir_ast.specs.declared.module.Module.{Module}
use Rattle.layout.specs.Layouts.{LaidOut}
use Rattle.reports.specs.Said.{OfAccepted}
use Rattle.library_answers.proofs.Answered.{answered, answered_as, placed_nowhere}
use Rattle.library_answers.proofs.checked.is_accepted.Goals as goal

pub returns-clause-said : goal.returns-clause-said
returns-clause-said c =
    let m = c.module.result.now in
    let same = c.module.ensures.of_module ∙ ap (λ (p : LaidOut). p.of_module) c.program.ensures.program in
    answered_as (OfAccepted m) (OfAccepted c.args.taken.now.program.of_module) _ _ c.answer_of.result (λ said is. subst (λ (x : Module). OfAccepted x said) same is)
    (answered (OfAccepted m) c.nothing-outputs.result c.report_accepted-printed.new.outputs c.report_accepted-printed.result _ _ c.answer_of.result c.nothing-outputs.ensures.out c.nothing-outputs.ensures.err
    c.report_accepted-printed.ensures c.answer_of.ensures.printed c.answer_of.ensures.failed)

pub returns-clause-place : goal.returns-clause-place
returns-clause-place c = placed_nowhere _ _ c.nowhere.ensures.no_instruction c.answer_of.ensures.place
