use Rattle.std.proofs.Common.{◌≡◌, List, length, map, sym, ap, subst, ◌∙◌, arith}
use Rattle.std.specs.List.{AllByRecursion}
use Rattle.heap_table.specs.Closing.{AreOf}
use Rattle.heap_table.specs.Sweepers.{IsSweeperOf}
use Rattle.program_runner.specs.Kinds.{FitsThread}
use Rattle.program_runner.specs.Threads.{ProgramThread, program_machine}
use Rattle.serving.specs.declared.beside.Job.{Job}
use Rattle.serving.specs.Jobs.{MayBegin, token_of}
use Rattle.mutators.specs.Jobs.{AreJobs}
use Rattle.mutators.specs.Reports.{end_of}
use Rattle.mutators.proofs.Ends.{all_may, are_of, report}
use Rattle.mutators.proofs.Lists.{written_over}
use Rattle.mutators.proofs.running.run_jobs.Goals as goal

pub serve_programs-turns-requires : goal.serve_programs-turns-requires
serve_programs-turns-requires g c =
    let may = all_may c.args.of_setup.now.accepted.now.program c.args.of_setup.now.setup.now c.args.begun.heap c.args.begun.jobs.items c.requires.jobs in
    (c.type_bounds.sync-T, (c.type_bounds.sync-G, (subst (AllByRecursion (MayBegin program_machine FitsThread c.args.begun.heap)) (sym c.as_mut_slice.ensures.value) may, c.requires.sweeper)))

pub close_after-requires-clause-jobs : goal.close_after-requires-clause-jobs
close_after-requires-clause-jobs g c =
    let before = c.as_mut_slice.result.now in
    let after = c.serve_programs-turns.new.jobs in
    let value = c.as_mut_slice.ensures.value in
    let same : length after ≡ length before = omega (arith, c.serve_programs-turns.auto.jobs) in
    let are = subst (AreJobs c.args.of_setup.now.accepted.now.program c.args.of_setup.now.setup.now c.args.begun.heap) (sym value) c.requires.jobs in
    subst (λ (all : List (Job ProgramThread)). AreOf c.args.begun.heap (map token_of all)) (sym (written_over c.args.begun.jobs.len after c.args.begun.jobs.items (same ∙ ap length value) (omega (arith, c.args.begun.jobs.ok.0))))
    (are_of c.args.of_setup.now.accepted.now.program c.args.of_setup.now.setup.now c.args.begun.heap c.args.limits.steps before after same c.serve_programs-turns.ensures.jobs are)

pub close_after-requires-clause-sweeper : goal.close_after-requires-clause-sweeper
close_after-requires-clause-sweeper g c = subst (IsSweeperOf c.args.begun.heap) (sym c.serve_programs-turns.ensures.token) (record { table = c.requires.sweeper.table; setup = c.requires.sweeper.setup })

pub returns : goal.returns
returns g c =
    let before = c.as_mut_slice.result.now in
    let after = c.serve_programs-turns.new.jobs in
    let value = c.as_mut_slice.ensures.value in
    let same : length after ≡ length before = omega (arith, c.serve_programs-turns.auto.jobs) in
    let are = subst (AreJobs c.args.of_setup.now.accepted.now.program c.args.of_setup.now.setup.now c.args.begun.heap) (sym value) c.requires.jobs in
    report c.args.of_setup.now.accepted.now.program c.args.of_setup.now.setup.now c.args.begun.heap c.args.limits before after _ c.args.begun.sweeper c.serve_programs-turns.new.sweeper c.in_ok-close_after.field-0 c.in_ok-threads.threads
    c.serve_programs-turns.result c.cycles-cycles.result c.heap_law.ensures.kept c.heap_law.ensures.touched c.requires.heap are (ap length value ∙ c.requires.count) same
    (written_over c.args.begun.jobs.len after c.args.begun.jobs.items (same ∙ ap length value) (omega (arith, c.args.begun.jobs.ok.0))) c.serve_programs-turns.ensures.jobs c.requires.sweeper c.requires.fresh
    c.serve_programs-turns.ensures.token c.serve_programs-turns.ensures.turns c.serve_programs-turns.ensures.limit c.serve_programs-turns.ensures.first c.cycles-cycles.ensures c.in_ok-close_after.ensures.run
    (c.in_ok-threads.ensures ∙ ap (map end_of) c.as_slice.ensures.value)
