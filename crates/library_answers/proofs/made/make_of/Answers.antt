use Rattle.std.proofs.Common.{subst}
use Rattle.ir_ast.specs.declared.module.Module.{Module}
use Rattle.command_line.specs.declared.options.Why.TheVariants.{NotWanted}
use Rattle.check_commands.specs.Checks.{OfMade}
use Rattle.library_answers.proofs.Answered.{answered_as}
use Rattle.library_answers.proofs.made.make_of.Goals as goal

pub returns-in-Ok : goal.returns-in-Ok
returns-in-Ok c = c.is_made-answer.ensures c.args.of_module c.in-Ok.ensures.kept

pub returns-in-Err : goal.returns-in-Err
returns-in-Err c =
    answered_as (OfMade NotWanted c.in-Err.unmade.of_module) (OfMade NotWanted c.args.of_module) _ _ c.is_unmade-answer.result
    (λ said is. subst (λ (m : Module). OfMade NotWanted m said) c.in-Err.ensures.given_back is)
    c.is_unmade-answer.ensures
