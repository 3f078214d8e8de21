use Rattle.std.proofs.Common.{[], length, map, refl, sym, ap, ◌∙◌}
use Rattle.ir_ast.specs.declared.module.Module.{Module}
use Rattle.program_runner.specs.Heaps.{heap_of, value_of_global}
use Rattle.program_runner.specs.Setups.{starts_of}
use Rattle.program_runner.specs.SetupHeaps.{few_words, is_setup}
use Rattle.replay.proofs.WorldSteps.{as_many, late_threads, each_begun, is_first}
use Rattle.replay.proofs.world.World.new.Goals as goal

pub new-requires-clause-words : goal.new-requires-clause-words
new-requires-clause-words c = few_words c.args.program.now.of_module c.layouts.result.now c.layouts.ensures.laid_out

pub new-requires-clause-pools : goal.new-requires-clause-pools
new-requires-clause-pools c = c.requires.one_each ∙ ap length (sym c.layouts.ensures.layouts)

pub invariant_of-result : goal.invariant_of-result
invariant_of-result c =
    let p = c.args.program.now in
    let setup = c.args.setup.now in
    let threads = c.in_ok-threads.threads.items in
    let values = ap (λ (m : Module). map (value_of_global m) m.globals) c.module.ensures.of_module in
    let b = c.in_ok-actors.ensures (heap_of p setup) (starts_of p setup) (record { pools = refl; layouts = sym c.layouts.ensures.layouts; globals = sym c.globals-globals.ensures }) (is_setup p setup) (late_threads p setup threads c.in_ok-threads.ensures.ok)
    (sym (as_many p setup threads c.in_ok-threads.ensures.ok)) (sym (c.as_slice.ensures.value ∙ c.in_ok-values.ensures ∙ values))
    (each_begun c.begun_law.ensures p setup threads c.in_ok-threads.ensures.no_fault c.in_ok-threads.ensures.ok) in
    let many = c.in_ok-endings.ensures ∙ c.len.ensures in
    record {
      schema = b.schema;
      setup = c.requires;
      no_fault = c.in_ok-threads.ensures.no_fault;
      made = ([], is_first (record { alloc = c.args.alloc; program = c.args.program; setup = c.args.setup; actors = c.in_ok-actors.actors; endings = c.in_ok-endings.endings }) b many);
    }

pub returns-clause-ok : goal.returns-clause-ok
returns-clause-ok c =
    let p = c.args.program.now in
    let setup = c.args.setup.now in
    let threads = c.in_ok-threads.threads.items in
    let values = ap (λ (m : Module). map (value_of_global m) m.globals) c.module.ensures.of_module in
    let b = c.in_ok-actors.ensures (heap_of p setup) (starts_of p setup) (record { pools = refl; layouts = sym c.layouts.ensures.layouts; globals = sym c.globals-globals.ensures }) (is_setup p setup) (late_threads p setup threads c.in_ok-threads.ensures.ok)
    (sym (as_many p setup threads c.in_ok-threads.ensures.ok)) (sym (c.as_slice.ensures.value ∙ c.in_ok-values.ensures ∙ values))
    (each_begun c.begun_law.ensures p setup threads c.in_ok-threads.ensures.no_fault c.in_ok-threads.ensures.ok) in
    let many = c.in_ok-endings.ensures ∙ c.len.ensures in
    (refl, refl, is_first (record { alloc = c.args.alloc; program = c.args.program; setup = c.args.setup; actors = c.in_ok-actors.actors; endings = c.in_ok-endings.endings }) b many)
