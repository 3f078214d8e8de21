use Rattle.std.proofs.Common.{inr}
use Rattle.reports.proofs.files.read_traced.Goals as goal

pub returns-in-Err-clause-err : goal.returns-in-Err-clause-err
returns-in-Err-clause-err c = inr (c.in_ok-program.program, c.in_ok-program.ensures.ok, c.in-Err.ensures.err)
