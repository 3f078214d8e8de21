use Rattle.std.proofs.Common.{Some, slice_get}
use Rattle.ir_ast.specs.declared.module.Module.{Module}
use Rattle.recheck.specs.Interface.{is_interface_same}
use Rattle.recheck.proofs.Puts.{edited}
use Rattle.recheck.proofs.Tells.{all_checked}
use Rattle.recheck.proofs.put.answer_anew.Goals as goal

pub count_checked-requires : goal.count_checked-requires
count_checked-requires c =
    all_checked c.args.program.now.of_module c.module.result.now c.module-2.result.now c.module.ensures.of_module c.module-2.ensures.of_module c.args.old.now.func c.seen-callers.result
    (λ (m : Module). is_interface_same m (Some c.args.old.now.code.now) (slice_get m.functions c.args.old.now.func) (Some c.args.old.now.section.now) (slice_get c.args.certs.now.sections c.args.old.now.func)) c.in_ok-checked.checked c.in_ok-checked.ensures.checked c.seen-callers.ensures.interface

pub returns-clause-answers : goal.returns-clause-answers
returns-clause-answers c = λ p past are code section.
    c.in_ok-checked.ensures.again p past are (edited p past c.args.program.now c.args.certs.now.sections c.args.old.now.func c.seen-callers.result c.args.old.now.code.now c.args.old.now.section.now c.module.result.now c.module.ensures.of_module c.seen-callers.ensures.unseen code section)
