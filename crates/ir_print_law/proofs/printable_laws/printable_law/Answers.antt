use Rattle.ir_print_law.proofs.ModuleRead.{read_is_printable}
use Rattle.ir_print_law.proofs.printable_laws.printable_law.Goals as goal

pub returns : goal.returns
returns c = read_is_printable
