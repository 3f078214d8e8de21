use Rattle.std.proofs.Common.{◌∙◌, ap, arith, refl}
use Rattle.library_answers.proofs.Codes.{code_told, one_digit, read_text, two_digits}
use Rattle.library_answers.proofs.code.place_of_module.Goals as goal

pub returns-in-BadByte-clause-code : goal.returns-in-BadByte-clause-code
returns-in-BadByte-clause-code c = code_told _ 76 1 c.coded_at.result (ap read_text c.in-BadByte.is ∙ one_digit 76 1 (omega arith)) c.coded_at.ensures.letter c.coded_at.ensures.number

pub returns-in-Unfinished-clause-code : goal.returns-in-Unfinished-clause-code
returns-in-Unfinished-clause-code c = code_told _ 76 2 c.coded_at-in-Unfinished.result (ap read_text c.in-Unfinished.is ∙ one_digit 76 2 (omega arith)) c.coded_at-in-Unfinished.ensures.letter c.coded_at-in-Unfinished.ensures.number

pub returns-in-Unexpected-clause-code : goal.returns-in-Unexpected-clause-code
returns-in-Unexpected-clause-code c = code_told _ 76 3 c.coded_at-in-Unexpected.result (ap read_text c.in-Unexpected.is ∙ one_digit 76 3 (omega arith)) c.coded_at-in-Unexpected.ensures.letter c.coded_at-in-Unexpected.ensures.number

pub returns-in-DefinedTwice-clause-code : goal.returns-in-DefinedTwice-clause-code
returns-in-DefinedTwice-clause-code c = code_told _ 76 4 c.coded_at-in-DefinedTwice.result (ap read_text c.in-DefinedTwice.is ∙ one_digit 76 4 (omega arith)) c.coded_at-in-DefinedTwice.ensures.letter c.coded_at-in-DefinedTwice.ensures.number

pub returns-in-NotDefined-clause-code : goal.returns-in-NotDefined-clause-code
returns-in-NotDefined-clause-code c = code_told _ 76 5 c.coded_at-in-NotDefined.result (ap read_text c.in-NotDefined.is ∙ one_digit 76 5 (omega arith)) c.coded_at-in-NotDefined.ensures.letter c.coded_at-in-NotDefined.ensures.number

pub returns-in-OutOfRange-clause-code : goal.returns-in-OutOfRange-clause-code
returns-in-OutOfRange-clause-code c = code_told _ 76 6 c.coded_at-in-OutOfRange.result (ap read_text c.in-OutOfRange.is ∙ one_digit 76 6 (omega arith)) c.coded_at-in-OutOfRange.ensures.letter c.coded_at-in-OutOfRange.ensures.number

pub returns-in-LeftOut-clause-code : goal.returns-in-LeftOut-clause-code
returns-in-LeftOut-clause-code c = code_told _ 76 7 c.coded_at-in-LeftOut.result (ap read_text c.in-LeftOut.is ∙ one_digit 76 7 (omega arith)) c.coded_at-in-LeftOut.ensures.letter c.coded_at-in-LeftOut.ensures.number

pub returns-in-Limit-clause-code : goal.returns-in-Limit-clause-code
returns-in-Limit-clause-code c = code_told _ 76 8 c.coded_at-in-Limit.result (ap read_text c.in-Limit.is ∙ one_digit 76 8 (omega arith)) c.coded_at-in-Limit.ensures.letter c.coded_at-in-Limit.ensures.number

pub returns-in-WrongNumber-clause-code : goal.returns-in-WrongNumber-clause-code
returns-in-WrongNumber-clause-code c = code_told _ 76 9 c.coded_at-in-WrongNumber.result (ap read_text c.in-WrongNumber.is ∙ one_digit 76 9 (omega arith)) c.coded_at-in-WrongNumber.ensures.letter c.coded_at-in-WrongNumber.ensures.number

pub returns-in-OtherPointer-clause-code : goal.returns-in-OtherPointer-clause-code
returns-in-OtherPointer-clause-code c = code_told _ 76 10 c.coded_at-in-OtherPointer.result (ap read_text c.in-OtherPointer.is ∙ two_digits 76 1 10 (omega arith) (omega arith) refl (omega arith)) c.coded_at-in-OtherPointer.ensures.letter c.coded_at-in-OtherPointer.ensures.number
