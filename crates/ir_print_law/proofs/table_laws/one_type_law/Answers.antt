use Rattle.ir_print_law.proofs.Growth.{replaced_has_one_types}
use Rattle.ir_print_law.proofs.ModuleRead.{read_has_one_types}
use Rattle.ir_print_law.proofs.table_laws.one_type_law.Goals as goal

pub returns-clause-read : goal.returns-clause-read
returns-clause-read c = read_has_one_types

pub returns-clause-replaced : goal.returns-clause-replaced
returns-clause-replaced c = replaced_has_one_types
