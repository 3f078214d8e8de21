use Rattle.ir_print_law.proofs.StarsRead.{stars_are_read}
use Rattle.ir_print_law.proofs.reading_laws.star_law.Goals as goal

pub returns : goal.returns
returns c = stars_are_read
