use Rattle.ir_print_law.proofs.EndsRead.{jumps_are_read, empty_returns_are_read, unreachables_are_read}
use Rattle.ir_print_law.proofs.reading_laws.end_law.Goals as goal

pub returns-clause-jumps : goal.returns-clause-jumps
returns-clause-jumps c = jumps_are_read

pub returns-clause-empty_returns : goal.returns-clause-empty_returns
returns-clause-empty_returns c = empty_returns_are_read

pub returns-clause-unreachables : goal.returns-clause-unreachables
returns-clause-unreachables c = unreachables_are_read
