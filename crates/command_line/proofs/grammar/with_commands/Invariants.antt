use Rattle.std.proofs.Common.{◌≡◌, false, map, take}
use Rattle.clap.specs.Words.{app_of}
use Rattle.clap.specs.declared.builder.command.Command.TheViews.{out-Command}
use Rattle.command_line.specs.Grammar.{app_of_row, with_commands}
use Rattle.command_line.proofs.grammar.with_commands.Given as goal

abbrev pub invariant-loop-row : goal.invariant-loop-row
invariant-loop-row l = record {
  app : app_of l.whole ≡ with_commands (app_of l.fn.program) (map (λ row. app_of_row row.now) (take l.row-index l.rows));
  own : (out-Command l.whole).has_globals ≡ false;
}
