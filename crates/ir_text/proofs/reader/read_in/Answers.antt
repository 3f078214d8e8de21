use Rattle.ir_text.proofs.reader.read_in.Goals as goal

pub returns-clause-only : goal.returns-clause-only
returns-clause-only c = λ m h. c.read_as.ensures.only m h

pub returns-clause-fault : goal.returns-clause-fault
returns-clause-fault c = c.read_as.ensures.fault

pub returns-clause-only_fault : goal.returns-clause-only_fault
returns-clause-only_fault c = λ e h. c.read_as.ensures.only_fault e h
