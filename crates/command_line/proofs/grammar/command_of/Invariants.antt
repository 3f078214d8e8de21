use Rattle.std.proofs.Common.{◌≡◌, false, map, take}
use Rattle.clap.specs.Words.{app_of}
use Rattle.clap.specs.declared.builder.command.Command.TheViews.{out-Command}
use Rattle.command_line.specs.Grammar.{command_app, rule_of_argument}
use Rattle.command_line.proofs.grammar.command_of.Given as goal

abbrev pub invariant-loop-argument : goal.invariant-loop-argument
invariant-loop-argument l = record {
  app : app_of l.command ≡ command_app l.row.name.now (map rule_of_argument (take l.argument-index l.row.arguments.now));
  own : (out-Command l.command).has_globals ≡ false;
}
