use Rattle.ir_print_law.proofs.Alone.{are_counted, stay_counted}
use Rattle.ir_print_law.proofs.alone_laws.counted_law.Goals as goal

pub returns-clause-read : goal.returns-clause-read
returns-clause-read c = are_counted

pub returns-clause-replaced : goal.returns-clause-replaced
returns-clause-replaced c = stay_counted
