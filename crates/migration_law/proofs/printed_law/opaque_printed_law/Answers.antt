use Rattle.migration_law.proofs.PrintableAfter.{printable}
use Rattle.migration_law.proofs.printed_law.opaque_printed_law.Goals as goal
use Rattle.copies.specs.Opaque.{opaque_module}

pub returns-clause-printable : goal.returns-clause-printable
returns-clause-printable c m ordered h = printable m ordered h

pub returns-clause-again : goal.returns-clause-again
returns-clause-again c m ordered h within = c.print_law.ensures (opaque_module m) (printable m ordered h) within
