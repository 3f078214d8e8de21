-- The trace begins as the run of the seed, and breaks it at its last step.
use Rattle.std.proofs.Common.{◌∙◌, refl, subst, sym, length}
use Rattle.trace_text.specs.declared.trace.Setup.{Setup}
use Rattle.replay.specs.Lists.{IsFirstBreak}
use Rattle.replay.specs.Soaks.{actors_drawn}
use Rattle.search_commands.proofs.soaking.found_again.Goals as goal

pub returns-clause-breaking : goal.returns-clause-breaking
returns-clause-breaking c =
    let p = c.args.program.now in
    let at = c.args.at in
    let begun = c.in_ok-start.ensures.setup in
    record {
      is_trace = c.in_ok-trace.ensures.is_trace p c.in_ok-start.ensures.is_trace;
      breaks = c.in_ok-trace.ensures.breaks p c.args.search.steps
          (subst (λ (setup : Setup). IsFirstBreak p setup (actors_drawn (length setup.starts) at.seed c.args.search.steps) at.broken) (sym begun) c.requires.least.breaks);
      ends = c.in_ok-trace.ensures.ends;
    }

pub returns-clause-setup : goal.returns-clause-setup
returns-clause-setup c = c.in_ok-trace.ensures.setup ∙ c.in_ok-start.ensures.setup
