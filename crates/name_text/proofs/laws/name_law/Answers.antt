use Rattle.name_text.specs.Reading.{globals_are_read, locals_are_read, numbers_are_read}
use Rattle.name_text.specs.NameWords.{names_are_words}
use Rattle.name_text.proofs.laws.name_law.Goals as goal

pub returns-clause-globals : goal.returns-clause-globals
returns-clause-globals c = globals_are_read

pub returns-clause-locals : goal.returns-clause-locals
returns-clause-locals c = locals_are_read

pub returns-clause-words : goal.returns-clause-words
returns-clause-words c = names_are_words

pub returns-clause-numbers : goal.returns-clause-numbers
returns-clause-numbers c = numbers_are_read
