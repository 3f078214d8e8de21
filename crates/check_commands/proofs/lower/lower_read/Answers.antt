use Rattle.std.proofs.Common.{◌≡◌, None, Some, inl, inr, refl, sym, ap, ◌∙◌, subst}
use Rattle.std.proofs.lemmas.Result.{IfOk-weaker}
use Rattle.lowering.specs.Outside.{address_giver}
use Rattle.reports.specs.Report.{of_address_given}
use Rattle.reports.specs.Said.{OnError}
use Rattle.check_commands.specs.Lowering.{OfUnchecked, not_unchecked, unchecked, unchecked_text, unless_given}
use Rattle.check_commands.proofs.lower.lower_read.Goals as goal

pub returns-in-Some : goal.returns-in-Some
returns-in-Some c =
    let p = c.args.program.now in
    let files = c.args.files.now in
    let symbol = c.in-Some.symbol in
    let same = c.module-of_module.ensures.of_module in
    let giver : address_giver p.of_module ≡ Some symbol = ap address_giver (sym same) ∙ sym c.address_giver.ensures ∙ c.in-Some.is in
    let said = ap (λ g. unless_given g p.of_module (unchecked_text c.args.recorded p)) giver ∙ ap (λ m. OnError (of_address_given m symbol)) (sym same) in
    IfOk-weaker c.address_given.result _ _
    (λ status told. (OnError _, subst (OfUnchecked c.args.recorded files.of_module files.shapes) said (unchecked p c.requires), (refl, told)))
    c.address_given.ensures

pub returns-in-None : goal.returns-in-None
returns-in-None c =
    let p = c.args.program.now in
    let files = c.args.files.now in
    let of = OfUnchecked c.args.recorded files.of_module files.shapes in
    let none : address_giver p.of_module ≡ None = ap address_giver (sym c.module-of_module.ensures.of_module) ∙ sym c.address_giver.ensures ∙ c.in-None.is in
    let said = ap (λ g. unless_given g p.of_module (unchecked_text c.args.recorded p)) none in
    IfOk-weaker c.put_unchecked.result _ _
    (λ status told. (told.0, elim told.1 [ inl e ↦ subst of (said ∙ sym e) (unchecked p c.requires) | inr e ↦ subst of (sym e) not_unchecked ], told.2))
    c.put_unchecked.ensures
