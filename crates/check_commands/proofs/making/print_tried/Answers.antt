use Rattle.std.proofs.Common.{refl}
use Rattle.std.proofs.lemmas.Result.{IfOk-weaker}
use Rattle.reports.specs.Said.{OnOutput}
use Rattle.check_commands.specs.Checks.{none_made}
use Rattle.check_commands.proofs.making.print_tried.Goals as goal

pub returns-in-Wanted : goal.returns-in-Wanted
returns-in-Wanted c = rw c.in-Wanted.is c.print_refused.ensures

pub returns-in-NotWanted : goal.returns-in-NotWanted
returns-in-NotWanted c =
    IfOk-weaker c.print_no_answer.result _ _ (λ status told. (OnOutput _, none_made c.requires.plain, (told, refl))) c.print_no_answer.ensures
