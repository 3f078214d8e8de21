use Rattle.ir_print_law.proofs.Constants.{integer_types_are_read}
use Rattle.ir_print_law.proofs.reading_laws.integer_type_law.Goals as goal

pub returns : goal.returns
returns c = integer_types_are_read
