use Rattle.std.proofs.Common.{map, ap, ◌∙◌, arith}
use Rattle.std.proofs.lemmas.Result.{err_from_is_err_and}
use Rattle.ir_ast.specs.declared.module.Module.{Module}
use Rattle.layout.specs.Globals.{globals_of}
use Rattle.layout.specs.Layouts.{LaidOut}
use Rattle.program_runner.specs.Heaps.{value_of_global}
use Rattle.program_runner.specs.SetupHeaps.{few_words}
use Rattle.mutators.proofs.Plans.{plan_is, plan_fits}
use Rattle.mutators.proofs.running.run.Goals as goal

pub new-requires-clause-setup : goal.new-requires-clause-setup
new-requires-clause-setup g c =
    plan_fits c.args.accepted.now.program c.args.setup.now _ (c.globals-globals.ensures ∙ ap (λ (p : LaidOut). globals_of p.of_module) c.program-program.ensures.program)
    (c.as_slice.ensures.value ∙ c.in_ok-values.ensures ∙ ap (λ (m : Module). map (value_of_global m) m.globals) (c.module.ensures.of_module ∙ ap (λ (p : LaidOut). p.of_module) c.program-program.ensures.program))

pub new-requires-clause-threads : goal.new-requires-clause-threads
new-requires-clause-threads g c = omega (arith, c.len.ensures, c.requires.setup.threads)

pub new-requires-clause-words : goal.new-requires-clause-words
new-requires-clause-words g c = few_words c.program-program.result.now.of_module c.layouts.result.now c.layouts.ensures.laid_out

pub new_jobs-requires-clause-heap : goal.new_jobs-requires-clause-heap
new_jobs-requires-clause-heap g c =
    c.in_ok-heap.ensures.heap
    ∙ plan_is c.args.accepted.now.program c.args.setup.now c.len.ensures (c.as_slice-2.ensures.value ∙ c.in_ok-late.ensures) (c.layouts.ensures.layouts ∙ ap (λ (p : LaidOut). p.layouts) c.program-program.ensures.program)
    (c.globals-globals.ensures ∙ ap (λ (p : LaidOut). globals_of p.of_module) c.program-program.ensures.program)
    (c.as_slice.ensures.value ∙ c.in_ok-values.ensures ∙ ap (λ (m : Module). map (value_of_global m) m.globals) (c.module.ensures.of_module ∙ ap (λ (p : LaidOut). p.of_module) c.program-program.ensures.program))

pub new_jobs-requires-clause-count : goal.new_jobs-requires-clause-count
new_jobs-requires-clause-count g c = c.in_ok-heap.ensures.mutators.0 ∙ c.len.ensures

pub returns-in_err-jobs-clause-fault : goal.returns-in_err-jobs-clause-fault
returns-in_err-jobs-clause-fault g c =
    let p = err_from_is_err_and c.from_residual-in_err-jobs.result c.from_residual-in_err-jobs.ensures.1 in
    rw (p.1, p.2) c.in_err-jobs.ensures.fault
