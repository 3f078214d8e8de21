use Rattle.std.proofs.Common.{map, ap, ◌∙◌}
use Rattle.std.proofs.lemmas.Result.{err_from_is_err_and}
use Rattle.ir_ast.specs.declared.module.Module.{Module}
use Rattle.program_runner.specs.Heaps.{value_of_global}
use Rattle.watched_threads.proofs.running.watch.Goals as goal

pub watch_given-requires-clause-values : goal.watch_given-requires-clause-values
watch_given-requires-clause-values g c κs bounds = c.as_slice.ensures.value ∙ c.in_ok-values.ensures ∙ ap (λ (m : Module). map (value_of_global m) m.globals) c.module.ensures.of_module

pub watch_given-requires-clause-late : goal.watch_given-requires-clause-late
watch_given-requires-clause-late g c κs bounds = c.as_slice-2.ensures.value ∙ c.in_ok-late.ensures

pub returns-in_err-threads-clause-fault : goal.returns-in_err-threads-clause-fault
returns-in_err-threads-clause-fault g c =
    let p = err_from_is_err_and c.from_residual.result c.from_residual.ensures.1 in
    rw (p.1, p.2) c.in_err-threads.ensures.fault
