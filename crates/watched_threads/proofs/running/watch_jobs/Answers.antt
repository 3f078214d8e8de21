use Rattle.std.proofs.Common.{◌≡◌, List, length, map, sym, ap, subst, ◌∙◌, arith}
use Rattle.std.specs.List.{AllByRecursion}
use Rattle.heap_table.specs.Closing.{AreOf}
use Rattle.heap_table.specs.Sweepers.{IsSweeperOf}
use Rattle.mutators.proofs.Lists.{written_over}
use Rattle.program_runner.specs.Kinds.{FitsThread}
use Rattle.program_runner.specs.Threads.{ProgramThread, program_machine}
use Rattle.watched_serving.specs.declared.beside.WatchedJob.{WatchedJob}
use Rattle.watched_serving.specs.Jobs.{MayBegin, token_of}
use Rattle.watched_threads.specs.Ends.{HaveFrames, AreToldSo}
use Rattle.watched_threads.specs.Jobs.{AreJobs}
use Rattle.watched_threads.specs.Reports.{IsWatchReport}
use Rattle.watched_threads.proofs.Ends.{all_may, are_of, have_frames, report}
use Rattle.watched_threads.proofs.running.watch_jobs.Goals as goal

pub serve_programs-turns-requires : goal.serve_programs-turns-requires
serve_programs-turns-requires g c =
    let may = all_may c.args.given.program.now c.args.given.setup.now c.args.begun.heap c.args.begun.jobs.items c.requires.jobs in
    (c.type_bounds.sync-T, (c.type_bounds.sync-G, (subst (AllByRecursion (MayBegin program_machine FitsThread c.args.begun.heap)) (sym c.as_mut_slice.ensures.value) may, c.requires.sweeper)))

pub told_of-requires-clause-few : goal.told_of-requires-clause-few
told_of-requires-clause-few g c =
    let before = c.as_mut_slice.result.now in
    let after = c.serve_programs-turns.new.jobs in
    let value = c.as_mut_slice.ensures.value in
    let same : length after ≡ length before = omega (arith, c.serve_programs-turns.auto.jobs) in
    let is = written_over c.args.begun.jobs.len after c.args.begun.jobs.items (same ∙ ap length value) (omega (arith, c.args.begun.jobs.ok.0)) in
    omega (arith, ap length c.as_slice.ensures.value, ap length is, same, ap length value, c.requires.count, c.requires.setup)

pub told_of-requires-clause-framed : goal.told_of-requires-clause-framed
told_of-requires-clause-framed g c =
    let before = c.as_mut_slice.result.now in
    let after = c.serve_programs-turns.new.jobs in
    let value = c.as_mut_slice.ensures.value in
    let same : length after ≡ length before = omega (arith, c.serve_programs-turns.auto.jobs) in
    let is = written_over c.args.begun.jobs.len after c.args.begun.jobs.items (same ∙ ap length value) (omega (arith, c.args.begun.jobs.ok.0)) in
    subst HaveFrames (sym (c.as_slice.ensures.value ∙ is)) (have_frames c.args.limits.steps before after same c.serve_programs-turns.ensures.jobs)

pub close_after-requires-clause-jobs : goal.close_after-requires-clause-jobs
close_after-requires-clause-jobs g c =
    let before = c.as_mut_slice.result.now in
    let after = c.serve_programs-turns.new.jobs in
    let value = c.as_mut_slice.ensures.value in
    let same : length after ≡ length before = omega (arith, c.serve_programs-turns.auto.jobs) in
    let are = subst (AreJobs c.args.given.program.now c.args.given.setup.now c.args.begun.heap) (sym value) c.requires.jobs in
    subst (λ (all : List (WatchedJob ProgramThread)). AreOf c.args.begun.heap (map token_of all)) (sym (written_over c.args.begun.jobs.len after c.args.begun.jobs.items (same ∙ ap length value) (omega (arith, c.args.begun.jobs.ok.0))))
    (are_of c.args.given.program.now c.args.given.setup.now c.args.begun.heap c.args.limits.steps before after same c.serve_programs-turns.ensures.jobs are)

pub close_after-requires-clause-sweeper : goal.close_after-requires-clause-sweeper
close_after-requires-clause-sweeper g c = subst (IsSweeperOf c.args.begun.heap) (sym c.serve_programs-turns.ensures.token) (record { table = c.requires.sweeper.table; setup = c.requires.sweeper.setup })

pub returns : goal.returns
returns g c =
    let before = c.as_mut_slice.result.now in
    let after = c.serve_programs-turns.new.jobs in
    let value = c.as_mut_slice.ensures.value in
    let same : length after ≡ length before = omega (arith, c.serve_programs-turns.auto.jobs) in
    let are = subst (AreJobs c.args.given.program.now c.args.given.setup.now c.args.begun.heap) (sym value) c.requires.jobs in
    subst (IsWatchReport c.args.given.program.now c.args.given.setup.now c.args.limits) (sym c.report_of.ensures)
    (report c.args.given.program.now c.args.given.setup.now c.args.begun.heap c.args.limits before after _ c.args.begun.sweeper c.serve_programs-turns.new.sweeper c.in_ok-close_after.field-0 c.in_ok-told.told
    c.serve_programs-turns.result c.cycles-cycles.result c.heap_law.ensures.kept c.heap_law.ensures.touched c.requires.heap are (ap length value ∙ c.requires.count) same
    (written_over c.args.begun.jobs.len after c.args.begun.jobs.items (same ∙ ap length value) (omega (arith, c.args.begun.jobs.ok.0))) c.serve_programs-turns.ensures.jobs c.requires.sweeper c.requires.fresh
    c.serve_programs-turns.ensures.token c.serve_programs-turns.ensures.turns c.serve_programs-turns.ensures.limit c.serve_programs-turns.ensures.first c.cycles-cycles.ensures
    c.in_ok-close_after.ensures.run (subst (λ (all : List (WatchedJob ProgramThread)). AreToldSo all c.in_ok-told.told) c.as_slice.ensures.value c.in_ok-told.ensures))
