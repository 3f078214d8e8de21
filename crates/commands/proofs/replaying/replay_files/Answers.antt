use Rattle.std.proofs.Common.{refl}
use Rattle.std.proofs.lemmas.Result.{IfOk-weaker}
use Rattle.command_line.specs.Asked.{are_told}
use Rattle.reports.specs.Said.{OnError}
use Rattle.reports.specs.TraceRuns.{not_traced, of_traced}
use Rattle.reports.specs.declared.outputs.Outputs.{Outputs}
use Rattle.commands.proofs.Following.{none_follows}
use Rattle.commands.proofs.replaying.replay_files.Goals as goal

pub returns-in-Ok-clause-said : goal.returns-in-Ok-clause-said
returns-in-Ok-clause-said c =
    let traced = c.in-Ok.traced in
    IfOk-weaker c.replay_traced-status.result _ _
    (λ status told.
    (let says = told.1 in
    (told.0, (says.0, of_traced traced.program traced.trace says.0 c.in-Ok.ensures.program c.in-Ok.ensures.trace says.1, says.2), told.2, told.3)))
    c.replay_traced-status.ensures.said

pub returns-in-Err-clause-said : goal.returns-in-Err-clause-said
returns-in-Err-clause-said c =
    let said : Outputs = record { out = c.args.results.now.outputs.out; err = c.unread.new.err } in
    IfOk-weaker c.unread.result _ _
    (λ status told. (said, (OnError _, not_traced c.in-Err.fault c.in-Err.ensures.err, (refl, told)), none_follows (are_told c.args.options.steps) _, refl))
    c.unread.ensures
