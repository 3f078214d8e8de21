use Rattle.std.proofs.Common.{ℕ, List, Bool, refl, subst}
use Rattle.std.proofs.lemmas.Result.{IfOk-weaker}
use Rattle.reports.specs.Report.{no_memory}
use Rattle.reports.specs.Said.{OnError, Tells}
use Rattle.reports.specs.declared.outputs.Outputs.{Outputs}
use Rattle.fix_commands.specs.Fixing.{IsCheckAfter, fixed, no_room}
use Rattle.fix_commands.proofs.fixing.print_mended.Goals as goal

pub returns-in-Ok-clause-said : goal.returns-in-Ok-clause-said
returns-in-Ok-clause-said g c =
    let mended = c.args.mended.now in
    let lines = mended.lines.items in
    let of_module = mended.pair.of_module.items in
    let certificate = mended.pair.certificate.items in
    IfOk-weaker c.check_mended.result _ _
    (λ status told. (
      told.0,
      fixed lines of_module certificate told.0 c.requires c.in-Ok.ensures.texts (subst (λ (wide : Bool). IsCheckAfter lines wide of_module certificate told.0) c.is_wide-wide.ensures told.1),
      subst (λ (old : Outputs). Tells old c.check_mended.new.outputs status told.0) c.hand_out.ensures.outputs told.2,
    ))
    c.check_mended.ensures

pub returns-in-Err-clause-said : goal.returns-in-Err-clause-said
returns-in-Err-clause-said g c =
    let new : Outputs = record { out = c.hand_out.new.results.outputs.out; err = c.memory.new.err } in
    IfOk-weaker c.memory.result _ _
    (λ status told. (OnError no_memory, no_room _ refl, subst (λ (old : Outputs). Tells old new status (OnError no_memory)) c.hand_out.ensures.outputs (refl, told)))
    c.memory.ensures
