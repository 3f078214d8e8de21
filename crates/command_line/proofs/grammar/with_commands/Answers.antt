use Rattle.std.proofs.Common.{◌∙◌, ap, ap₂, map, refl, sym, take}
use Rattle.std.proofs.lemmas.List.{map_more}
use Rattle.clap.specs.Words.{App, app_of, with_subcommand}
use Rattle.command_line.specs.Grammar.{app_of_row, with_commands}
use Rattle.command_line.proofs.LineLemmas.{with_commands_more, with_commands_none}
use Rattle.command_line.proofs.grammar.with_commands.Goals as goal

pub loop-row-preserved : goal.loop-row-preserved
loop-row-preserved c =
    let added = c.in_ok-whole.ensures in
    let was = c.loop-row.invariant in
    let program = app_of c.args.program in
    record {
      app = added.shape c.in-Ok.ensures.own ∙ ap₂ with_subcommand was.app (ap (λ (a : App). a.top) c.in-Ok.ensures.app)
          ∙ sym (with_commands_more program (map (λ row. app_of_row row.now) (take c.loop-row.row-index c.args.rows.now)) _)
          ∙ ap (with_commands program) (sym (map_more (λ row. app_of_row row.now) c.args.rows.now c.loop-row.row-index _ c.loop-row-test.true));
      own = added.globals ∙ rw (was.own, c.in-Ok.ensures.own) refl;
    }

pub loop-row-init : goal.loop-row-init
loop-row-init c = record { app = sym (with_commands_none (app_of c.args.program)); own = c.requires }
