use Rattle.command_line.specs.declared.options.Why.TheVariants.{NotWanted}
use Rattle.check_commands.specs.Checks.{OfMade}
use Rattle.library_answers.proofs.Answered.{answered}
use Rattle.library_answers.proofs.made.is_made.Goals as goal

pub returns : goal.returns
returns c = λ m same.
    answered (OfMade NotWanted m) c.nothing-outputs.result c.print_made-printed.new.outputs c.print_made-printed.result _ _ c.answer_of.result
    c.nothing-outputs.ensures.out c.nothing-outputs.ensures.err (c.print_made-printed.ensures m same) c.answer_of.ensures.printed c.answer_of.ensures.failed
