use Rattle.ir_print_law.proofs.ModuleRead.{read_has_names}
use Rattle.ir_print_law.proofs.printable_laws.named_law.Goals as goal

pub returns : goal.returns
returns c = read_has_names
