use Rattle.ir_print_law.proofs.Growth.{tables_stay}
use Rattle.ir_print_law.proofs.replaced_laws.grown_law.Goals as goal

pub returns : goal.returns
returns c = tables_stay
