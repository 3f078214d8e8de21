use Rattle.ir_print_law.proofs.Alone.{read_alone}
use Rattle.ir_print_law.proofs.Law.{read_anew}
use Rattle.ir_print_law.proofs.alone_laws.read_alone_law.Goals as goal

pub returns-clause-whole : goal.returns-clause-whole
returns-clause-whole c = read_alone

pub returns-clause-place : goal.returns-clause-place
returns-clause-place c = read_anew
