use Rattle.std.proofs.Common.{Some, refl, subst, sym}
use Rattle.std.proofs.lemmas.Result.{IfOk-weaker}
use Rattle.command_line.specs.declared.options.Draws.{Draws}
use Rattle.program_runner.specs.declared.setup_fault.SetupFault.TheVariants.{Memory}
use Rattle.replay.specs.declared.outcome.SeedBreak.{SeedBreak}
use Rattle.reports.specs.Report.{IsTold}
use Rattle.reports.specs.Said.{OnOutput, OnError}
use Rattle.search_commands.specs.Searches.{IsBroken, IsBrokenBy, broken, too_long, not_started, of_seed, of_too_long}
use Rattle.search_commands.proofs.Searched.{not_drawn}
use Rattle.search_commands.proofs.soaking.tell_drawn.Goals as goal

pub tell_found-status-requires : goal.tell_found-status-requires
tell_found-status-requires g c = c.in-Ok.ensures.breaking

pub returns-then-wants_line_alone-clause-said : goal.returns-then-wants_line_alone-clause-said
returns-then-wants_line_alone-clause-said g c =
    let search = c.args.soak.options.search in
    let traced = c.args.traced in
    let at = c.args.at in
    let is_broken = subst (λ (draws : Draws). IsBrokenBy draws search traced.program traced.trace at) (sym c.requires.uniform) c.requires.least in
    IfOk-weaker c.broken_seed.result _ _
    (λ status told. (
      OnOutput _,
      broken at (c.wants_line_alone.ensures.shrink c.if-wants_line_alone.true) c.requires.no_fault is_broken (not_drawn _ _ _ _ _ (c.wants_line_alone.ensures.saves c.if-wants_line_alone.true)),
      (subst (λ (draws : Draws). IsTold (Some c.args.results.now.outputs.out.items) (Some c.broken_seed.new.out.items) status (of_seed draws at)) (sym c.requires.uniform) told, refl),
    ))
    c.broken_seed.ensures

pub returns-then-at-gt-STEP_LIMIT-clause-said : goal.returns-then-at-gt-STEP_LIMIT-clause-said
returns-then-at-gt-STEP_LIMIT-clause-said g c =
    let search = c.args.soak.options.search in
    let traced = c.args.traced in
    let at = c.args.at in
    let is_broken = subst (λ (draws : Draws). IsBrokenBy draws search traced.program traced.trace at) (sym c.requires.uniform) c.requires.least in
    IfOk-weaker c.too_long.result _ _
    (λ status told. (of_too_long at, too_long at (c.wants_line_alone.ensures.wants c.if-wants_line_alone.false) c.requires.uniform c.requires.no_fault is_broken c.if-at-gt-STEP_LIMIT.true refl, told))
    c.too_long.ensures

pub returns-in-Ok-clause-said : goal.returns-in-Ok-clause-said
returns-in-Ok-clause-said g c =
    let search = c.args.soak.options.search in
    let traced = c.args.traced in
    let is_broken = subst (λ (draws : Draws). IsBrokenBy draws search traced.program traced.trace c.args.at) (sym c.requires.uniform) c.requires.least in
    c.tell_found-status.ensures.said traced.trace c.requires.no_fault c.in-Ok.ensures.setup
    (subst (λ (at : SeedBreak). IsBroken search traced.program traced.trace at) (sym c.in-Ok.ensures.seed) is_broken)

pub returns-in-Err-clause-said : goal.returns-in-Err-clause-said
returns-in-Err-clause-said g c =
    IfOk-weaker c.memory.result _ _ (λ status told. (OnError _, not_started Memory (λ other. absurd (other refl)) refl, (refl, told))) c.memory.ensures
