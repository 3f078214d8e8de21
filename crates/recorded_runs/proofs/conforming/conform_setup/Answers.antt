use Rattle.std.proofs.Common.{map, ap, ◌∙◌, arith, subst, ℕ}
use Rattle.pools.specs.Heap.{Setup as HeapSetup}
use Rattle.ir_ast.specs.declared.module.Module.{Module}
use Rattle.layout.specs.Globals.{globals_of}
use Rattle.layout.specs.Layouts.{LaidOut}
use Rattle.program_runner.specs.Heaps.{value_of_global}
use Rattle.program_runner.specs.SetupHeaps.{few_words}
use Rattle.recorded_runs.proofs.Plans.{plan_is, plan_fits}
use Rattle.recorded_runs.proofs.conforming.conform_setup.Goals as goal

pub conform-requires-clause-setup : goal.conform-requires-clause-setup
conform-requires-clause-setup c = plan_fits c.args.program.now c.args.setup.now _ c.globals-globals.ensures (c.as_slice.ensures.value ∙ c.in_ok-values.ensures ∙ ap (λ (m : Module). map (value_of_global m) m.globals) c.module.ensures.of_module)

pub conform-requires-clause-threads : goal.conform-requires-clause-threads
conform-requires-clause-threads c = omega (arith, c.len.ensures, c.requires.setup.threads)

pub conform-requires-clause-words : goal.conform-requires-clause-words
conform-requires-clause-words c = few_words c.args.program.now.of_module c.layouts.result.now c.layouts.ensures.laid_out
