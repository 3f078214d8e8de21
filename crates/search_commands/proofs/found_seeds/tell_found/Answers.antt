use Rattle.std.proofs.Common.{◌∙◌, Some, ap, refl, subst, sym}
use Rattle.std.proofs.lemmas.Result.{IfOk-weaker}
use Rattle.program_runner.specs.declared.setup_fault.SetupFault.TheVariants.{Memory}
use Rattle.replay.specs.declared.outcome.SeedBreak.{SeedBreak}
use Rattle.reports.specs.Report.{IsTold}
use Rattle.reports.specs.Said.{OnOutput, OnError}
use Rattle.search_commands.specs.Searches.{shortened, not_started, of_shorter}
use Rattle.search_commands.specs.Sources.{seed_break}
use Rattle.search_commands.proofs.found_seeds.tell_found.Goals as goal

pub returns-in-Ok-clause-said : goal.returns-in-Ok-clause-said
returns-in-Ok-clause-said g c t no_fault begins is_broken =
    let draws = c.args.soak.options.search.draws in
    let shorter = c.in-Ok.shorter in
    IfOk-weaker c.broken_shorter.result _ _
    (λ status told. (
      OnOutput _,
      shortened (seed_break c.args.broken) shorter.broken c.in-WithTries.tries shorter.tries c.in-WithTries.is c.in-Ok.ensures.tries no_fault is_broken c.in-Ok.ensures.kind c.in-Ok.ensures.shorter,
      (subst (λ (at : SeedBreak). IsTold (Some c.args.results.now.outputs.out.items) (Some c.broken_shorter.new.out.items) status (of_shorter draws at shorter.broken shorter.tries)) c.seed_break-at.ensures told, refl),
    ))
    c.broken_shorter.ensures

pub returns-in-Err-clause-said : goal.returns-in-Err-clause-said
returns-in-Err-clause-said g c t no_fault begins is_broken =
    IfOk-weaker c.memory.result _ _ (λ status told. (OnError _, not_started Memory (λ other. absurd (other refl)) c.in-Err.ensures.err, (refl, told))) c.memory.ensures
