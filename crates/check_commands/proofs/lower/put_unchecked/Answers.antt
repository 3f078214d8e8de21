use Rattle.std.proofs.Common.{◌≡◌, ℕ, List, inl, inr, refl, subst, rules}
use Rattle.std.specs.Prelude.{codes}
use Rattle.std.proofs.lemmas.Result.{IfOk-weaker}
use Rattle.copies.specs.Opaque.{opaque_module}
use Rattle.lowering.specs.Lowered.{lowered_text}
use Rattle.reports.specs.Report.{made_text}
use Rattle.reports.specs.Said.{OnBoth, OnError, Tells}
use Rattle.check_commands.proofs.lower.put_unchecked.Goals as goal

pub returns-in-Ok : goal.returns-in-Ok
returns-in-Ok c =
    let p = c.args.program.now in
    let text : c.as_slice.result.now ≡ lowered_text c.args.recorded p.layouts (opaque_module p.of_module) = search rules in
    IfOk-weaker c.print_unchecked.result _ _
    (λ status told. (OnBoth _ _, inl refl, subst (λ (t : List ℕ). Tells c.args.outputs.now c.print_unchecked.new.outputs status (OnBoth (made_text t) (codes "nothing was checked\n"))) text told))
    c.print_unchecked.ensures

pub returns-in-Err : goal.returns-in-Err
returns-in-Err c = IfOk-weaker c.memory.result _ _ (λ status told. (OnError _, inr refl, (refl, told))) c.memory.ensures
