use Rattle.std.proofs.Common.{Some, refl, subst}
use Rattle.std.proofs.lemmas.Result.{IfOk-weaker}
use Rattle.program_runner.specs.declared.setup_fault.SetupFault.TheVariants.{Memory}
use Rattle.replay.specs.declared.outcome.SeedBreak.{SeedBreak}
use Rattle.reports.specs.Report.{IsTold}
use Rattle.reports.specs.Said.{OnOutput, OnError}
use Rattle.search_commands.specs.Searches.{broken, not_started, of_seed}
use Rattle.search_commands.specs.Sources.{seed_break}
use Rattle.search_commands.proofs.Searched.{drawn_if}
use Rattle.search_commands.proofs.found_seeds.tell_as_drawn.Goals as goal

pub returns-in-Ok-clause-said : goal.returns-in-Ok-clause-said
returns-in-Ok-clause-said c t no_fault begins is_broken =
    let b = c.args.broken in
    let draws = c.args.soak.options.search.draws in
    let drawn = drawn_if c.args.soak.saves c.args.program.now _ b.found.trace b.found.broken _ _ begins c.requires.breaking c.in-Ok.ensures.added in
    IfOk-weaker c.broken_seed.result _ _
    (λ status told. (
      OnOutput _,
      broken (seed_break b) c.requires.as_drawn no_fault is_broken drawn,
      (subst (λ (at : SeedBreak). IsTold (Some c.args.results.now.outputs.out.items) (Some c.broken_seed.new.out.items) status (of_seed draws at)) c.seed_break-at.ensures told, refl),
    ))
    c.broken_seed.ensures

pub returns-in-Err-clause-said : goal.returns-in-Err-clause-said
returns-in-Err-clause-said c t no_fault begins is_broken =
    IfOk-weaker c.memory.result _ _ (λ status told. (OnError _, not_started Memory (λ other. absurd (other refl)) c.in-Err.ensures.err, (refl, told))) c.memory.ensures
