use Rattle.std.proofs.Common.{◌≡◌, None, Some, inl, inr, refl, sym, ap, ◌∙◌}
use Rattle.std.proofs.lemmas.Result.{IfOk-weaker}
use Rattle.lowering.specs.Outside.{address_giver}
use Rattle.reports.specs.Report.{of_address_given}
use Rattle.reports.specs.Said.{OnError, OnOutput}
use Rattle.check_commands.specs.Lowering.{of_lowered, unless_given}
use Rattle.check_commands.proofs.lower.lower_program.Goals as goal

pub returns-in-Some : goal.returns-in-Some
returns-in-Some c =
    let p = c.args.program.now in
    let symbol = c.in-Some.symbol in
    let same = c.module-of_module.ensures.of_module in
    let giver : address_giver p.of_module ≡ Some symbol = ap address_giver (sym same) ∙ sym c.address_giver.ensures ∙ c.in-Some.is in
    let said = ap (λ m. OnError (of_address_given m symbol)) same ∙ ap (λ g. unless_given g p.of_module (OnOutput (of_lowered c.args.recorded p))) (sym giver) in
    IfOk-weaker c.address_given.result _ _ (λ status told. (OnError _, inl said, (refl, told))) c.address_given.ensures

pub returns-in-None : goal.returns-in-None
returns-in-None c =
    let p = c.args.program.now in
    let none : address_giver p.of_module ≡ None = ap address_giver (sym c.module-of_module.ensures.of_module) ∙ sym c.address_giver.ensures ∙ c.in-None.is in
    let said = ap (λ g. unless_given g p.of_module (OnOutput (of_lowered c.args.recorded p))) (sym none) in
    IfOk-weaker c.put_program.result _ _ (λ status told. (told.0, elim told.1 [ inl e ↦ inl (e ∙ said) | inr e ↦ inr e ], told.2)) c.put_program.ensures
