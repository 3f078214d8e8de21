use Rattle.std.proofs.Common.{subst}
use Rattle.std.proofs.lemmas.Result.{IfOk-weaker}
use Rattle.ir_ast.specs.declared.module.Module.{Module}
use Rattle.check_commands.specs.Checks.{OfMade}
use Rattle.check_commands.proofs.making.make_of.Goals as goal

pub returns-in-Ok : goal.returns-in-Ok
returns-in-Ok g c = c.print_made-status.ensures c.args.of_module c.in-Ok.ensures.kept

pub returns-in-Err : goal.returns-in-Err
returns-in-Err g c =
    IfOk-weaker c.print_unmade-status.result _ _
    (λ status told. (told.0, subst (λ (m : Module). OfMade c.args.why m told.0) c.in-Err.ensures.given_back told.1, told.2))
    c.print_unmade-status.ensures
