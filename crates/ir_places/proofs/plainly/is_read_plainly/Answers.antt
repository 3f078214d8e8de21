use Rattle.ir_places.proofs.Plain.{read_plainly}
use Rattle.ir_places.proofs.plainly.is_read_plainly.Goals as goal

pub returns : goal.returns
returns c = read_plainly
