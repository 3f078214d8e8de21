use Rattle.std.proofs.Common.{◌∙◌, sym}
use Rattle.heap_table.proofs.OwnWords.{holds_own}
use Rattle.heap_table.proofs.laws.own_word_law.Goals as goal

pub returns-clause-holds : goal.returns-clause-holds
returns-clause-holds c s run thread cell word value wrote = holds_own s thread cell word value run wrote

pub returns-clause-reads : goal.returns-clause-reads
returns-clause-reads c s run thread cell word value reader found wrote is_run = sym is_run.1.2 ∙ holds_own s thread cell word value run wrote
