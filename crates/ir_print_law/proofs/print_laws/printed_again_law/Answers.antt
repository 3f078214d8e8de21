use Rattle.ir_print_law.proofs.ModuleRead.{read_is_printable}
use Rattle.ir_print_law.proofs.Whole.{prints_again}
use Rattle.ir_print_law.proofs.print_laws.printed_again_law.Goals as goal

pub returns : goal.returns
returns c = λ bytes m own text fits. prints_again m (read_is_printable bytes m own text) fits
