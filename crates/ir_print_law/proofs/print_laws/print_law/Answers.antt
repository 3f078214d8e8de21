use Rattle.ir_print_law.proofs.Whole.{prints_again}
use Rattle.ir_print_law.proofs.print_laws.print_law.Goals as goal

pub returns : goal.returns
returns c = prints_again
