use Rattle.std.proofs.Common.{ℕ, List, Some, length, slice_get, ap, ◌∙◌}
use Rattle.ir_ast.specs.declared.module.Module.{Module}
use Rattle.answers.specs.Edited.{touched}
use Rattle.recheck.specs.Interface.{is_interface_same}
use Rattle.recheck.proofs.Tells.{all_checked}
use Rattle.recheck.proofs.Rows.{none_kept}
use Rattle.recheck.proofs.put.answer_all.Goals as goal

pub count_checked-requires : goal.count_checked-requires
count_checked-requires c =
    all_checked c.args.program.now.of_module c.module.result.now c.module-3.result.now c.module.ensures.of_module c.module-3.ensures.of_module c.args.old.now.func c.seen-callers.result
    (λ (m : Module). is_interface_same m (Some c.args.old.now.code.now) (slice_get m.functions c.args.old.now.func) (Some c.args.old.now.section.now) (slice_get c.args.certs.now.sections c.args.old.now.func)) c.len.result
    (c.len.ensures ∙ ap (λ (xs : List ℕ). length xs) c.in_ok-touched.ensures ∙ ap (λ (m : Module). length (touched m c.args.old.now.func c.seen-callers.result)) c.module-2.ensures.of_module) c.seen-callers.ensures.interface

pub returns-clause-rows : goal.returns-clause-rows
returns-clause-rows c = none_kept c.args.program.now c.args.certs.now.sections c.forget_all.new.self c.forget_all.ensures
