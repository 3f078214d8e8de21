use Rattle.std.proofs.Common.{◌∙◌, ap, ap₂, refl, sym}
use Rattle.std.proofs.lemmas.List.{map_more}
use Rattle.clap.specs.Words.{with_rule}
use Rattle.command_line.specs.Grammar.{command_app, rule_of_argument}
use Rattle.command_line.proofs.grammar.command_of.Goals as goal

pub loop-argument-preserved : goal.loop-argument-preserved
loop-argument-preserved c =
    let added = c.in_ok-command.ensures in
    let was = c.loop-argument.invariant in
    record {
      app = added.shape c.arg_of.ensures.own ∙ ap₂ with_rule was.app c.arg_of.ensures.rule
          ∙ ap (command_app c.args.row.now.name.now) (sym (map_more rule_of_argument c.args.row.now.arguments.now c.loop-argument.argument-index _ c.loop-argument-test.true));
      own = added.globals ∙ rw (was.own, c.arg_of.ensures.own) refl;
    }
