use Rattle.ir_print_law.proofs.Constants.{constants_are_read}
use Rattle.ir_print_law.proofs.reading_laws.constant_law.Goals as goal

pub returns : goal.returns
returns c = constants_are_read
