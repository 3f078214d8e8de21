use Rattle.std.proofs.Common.{refl, subst}
use Rattle.std.proofs.lemmas.Result.{IfOk-weaker}
use Rattle.layout.specs.Layouts.{IsLayoutFault}
use Rattle.cert_maker.specs.Made.{IfLayout}
use Rattle.cert_maker.specs.Trusting.{trusting}
use Rattle.reports.specs.Said.{OnError, OnOutput}
use Rattle.check_commands.specs.Checks.{none_made, not_made, without_layouts}
use Rattle.check_commands.proofs.making.print_unmade.Goals as goal

pub returns-in-Layout-default : goal.returns-in-Layout-default
returns-in-Layout-default c =
    let m = c.args.unmade.now.of_module in
    let is = subst (λ fault. IfLayout fault (IsLayoutFault (trusting m))) c.in-Layout-default.is-0 c.requires.layout in
    IfOk-weaker c.no_layouts.result _ _ (λ status told. (OnError _, without_layouts c.in-Layout-default.fault is, (refl, told))) c.no_layouts.ensures

pub returns-in-Memory-default : goal.returns-in-Memory-default
returns-in-Memory-default c = IfOk-weaker c.memory.result _ _ (λ status told. (OnError _, not_made, (refl, told))) c.memory.ensures

pub returns-in-NoAnswer-default : goal.returns-in-NoAnswer-default
returns-in-NoAnswer-default c =
    IfOk-weaker c.print_no_answer.result _ _
    (λ status told. (OnOutput _, none_made (c.requires.plain c.in-NoAnswer-default.is-0), (told, refl)))
    c.print_no_answer.ensures
