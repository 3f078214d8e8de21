use Rattle.ir_print_law.proofs.CoreForms.{read_core, read_core_names, read_core_types, read_core_words}
use Rattle.ir_print_law.proofs.ModuleRead.{read_keeps_forms}
use Rattle.ir_print_law.proofs.reading_laws.core_law.Goals as goal

pub returns-clause-core : goal.returns-clause-core
returns-clause-core c = read_core

pub returns-clause-words : goal.returns-clause-words
returns-clause-words c = read_core_words

pub returns-clause-types : goal.returns-clause-types
returns-clause-types c = read_core_types

pub returns-clause-names : goal.returns-clause-names
returns-clause-names c = read_core_names

pub returns-clause-stay : goal.returns-clause-stay
returns-clause-stay c = read_keeps_forms
