use Rattle.ir_print_law.proofs.ReplacedWithin.{replaced_is_within}
use Rattle.ir_print_law.proofs.WithinRead.{read_is_within}
use Rattle.ir_print_law.proofs.table_laws.within_law.Goals as goal

pub returns-clause-read : goal.returns-clause-read
returns-clause-read c = read_is_within

pub returns-clause-replaced : goal.returns-clause-replaced
returns-clause-replaced c = replaced_is_within
