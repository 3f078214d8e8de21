use Rattle.std.proofs.Common.{Some, ◌≡◌, inl, inr, refl, subst, rules}
use Rattle.std.proofs.lemmas.Result.{IfOk-weaker}
use Rattle.copies.specs.Opaque.{opaque_module}
use Rattle.lowering.specs.Lowered.{lowered_text}
use Rattle.reports.specs.Report.{IsTold, made_text}
use Rattle.reports.specs.Said.{OnError, OnOutput}
use Rattle.check_commands.proofs.lower.put_program.Goals as goal

pub returns-in-Ok : goal.returns-in-Ok
returns-in-Ok c =
    let p = c.args.program.now in
    let text : c.as_slice.result.now ≡ lowered_text c.args.recorded p.layouts (opaque_module p.of_module) = search rules in
    IfOk-weaker c.print_lowered.result _ _
    (λ status told. (OnOutput _, inl refl, (subst (λ text. IsTold (Some c.args.outputs.now.out.items) (Some c.print_lowered.new.out.items) status (made_text text)) text told, refl)))
    c.print_lowered.ensures

pub returns-in-Err : goal.returns-in-Err
returns-in-Err c = IfOk-weaker c.memory.result _ _ (λ status told. (OnError _, inr refl, (refl, told))) c.memory.ensures
