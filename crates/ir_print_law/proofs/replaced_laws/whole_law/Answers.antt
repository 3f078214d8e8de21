use Rattle.ir_print_law.proofs.ReplacedWhole.{read_is_whole}
use Rattle.ir_print_law.proofs.Whole.{prints_again}
use Rattle.ir_print_law.proofs.replaced_laws.whole_law.Goals as goal

pub returns-clause-read : goal.returns-clause-read
returns-clause-read c = read_is_whole

pub returns-clause-again : goal.returns-clause-again
returns-clause-again c = λ m whole fits. prints_again m whole.printable fits
