use Rattle.std.proofs.Common.{refl, subst}
use Rattle.std.proofs.lemmas.Result.{IfOk-weaker}
use Rattle.layout.specs.Layouts.{LaidOut}
use Rattle.trace_text.specs.Traces.{IsTraceOf}
use Rattle.reports.specs.Said.{OnError}
use Rattle.reports.specs.TraceRuns.{no_trace, of_trace}
use Rattle.reports.specs.Files.{HasTrace, IsNoTrace}
use Rattle.commands.proofs.running.run_accepted.Goals as goal

pub run_threads-status-requires : goal.run_threads-status-requires
run_threads-status-requires g c =
    (c.type_bounds.sync-typeof-rt, subst (λ (p : LaidOut). IsTraceOf p c.in-Ok.trace) c.program.ensures.program c.in-Ok.ensures.of_program)

pub returns-in-Ok : goal.returns-in-Ok
returns-in-Ok g c =
    let has = subst (λ (p : LaidOut). HasTrace c.args.files.now.trace p c.in-Ok.trace) c.program.ensures.program c.in-Ok.ensures.ok in
    IfOk-weaker c.run_threads-status.result _ _
    (λ status told. (told.0, of_trace c.in-Ok.trace told.0 has told.1, told.2))
    c.run_threads-status.ensures

pub returns-in-Err : goal.returns-in-Err
returns-in-Err g c =
    let none = subst (λ (p : LaidOut). IsNoTrace c.args.files.now.trace p c.in-Err.fault) c.program.ensures.program c.in-Err.ensures.err in
    IfOk-weaker c.unread.result _ _
    (λ status told. (OnError _, no_trace c.in-Err.fault none, (refl, told)))
    c.unread.ensures
