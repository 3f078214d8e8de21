use Rattle.std.proofs.Common.{inr}
use Rattle.command_line.specs.declared.options.Why.TheVariants.{NotWanted}
use Rattle.check_commands.specs.Checks.{OfMade}
use Rattle.library_answers.proofs.Answered.{answered}
use Rattle.library_answers.proofs.made.is_unmade.Goals as goal

pub returns-in-Ok : goal.returns-in-Ok
returns-in-Ok c =
    answered (OfMade NotWanted c.args.unmade.now.of_module) c.nothing-outputs.result c.print_unmade-printed.new.outputs c.print_unmade-printed.result _ _ c.answer_of.result
    c.nothing-outputs.ensures.out c.nothing-outputs.ensures.err c.print_unmade-printed.ensures c.answer_of.ensures.printed c.answer_of.ensures.failed

pub returns-in-Err : goal.returns-in-Err
returns-in-Err c = inr c.no_memory.ensures.memory
