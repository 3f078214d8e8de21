use Rattle.std.proofs.Common.{◌∙◌, ap, arith}
use Rattle.library_answers.proofs.Codes.{cert_text, code_told, one_digit}
use Rattle.library_answers.proofs.code.place_of_certificate.Goals as goal

pub returns-in-Syntax-clause-code : goal.returns-in-Syntax-clause-code
returns-in-Syntax-clause-code c = code_told _ 67 1 c.coded_at.result (ap cert_text c.in-Syntax.is ∙ one_digit 67 1 (omega arith)) c.coded_at.ensures.letter c.coded_at.ensures.number

pub returns-in-Version-clause-code : goal.returns-in-Version-clause-code
returns-in-Version-clause-code c = code_told _ 67 2 c.coded_at-in-Version.result (ap cert_text c.in-Version.is ∙ one_digit 67 2 (omega arith)) c.coded_at-in-Version.ensures.letter c.coded_at-in-Version.ensures.number

pub returns-in-UnknownName-clause-code : goal.returns-in-UnknownName-clause-code
returns-in-UnknownName-clause-code c = code_told _ 67 3 c.coded_at-in-UnknownName.result (ap cert_text c.in-UnknownName.is ∙ one_digit 67 3 (omega arith)) c.coded_at-in-UnknownName.ensures.letter c.coded_at-in-UnknownName.ensures.number

pub returns-in-ListedTwice-clause-code : goal.returns-in-ListedTwice-clause-code
returns-in-ListedTwice-clause-code c = code_told _ 67 4 c.coded_at-in-ListedTwice.result (ap cert_text c.in-ListedTwice.is ∙ one_digit 67 4 (omega arith)) c.coded_at-in-ListedTwice.ensures.letter c.coded_at-in-ListedTwice.ensures.number

pub returns-in-Missing-clause-code : goal.returns-in-Missing-clause-code
returns-in-Missing-clause-code c = code_told _ 67 5 c.coded.result (ap cert_text c.in-Missing.is ∙ one_digit 67 5 (omega arith)) c.coded.ensures.letter c.coded.ensures.number

pub returns-in-MissingBlock-clause-code : goal.returns-in-MissingBlock-clause-code
returns-in-MissingBlock-clause-code c = code_told _ 67 5 c.coded-in-MissingBlock.result (ap cert_text c.in-MissingBlock.is ∙ one_digit 67 5 (omega arith)) c.coded-in-MissingBlock.ensures.letter c.coded-in-MissingBlock.ensures.number

pub returns-in-MissingWord-clause-code : goal.returns-in-MissingWord-clause-code
returns-in-MissingWord-clause-code c = code_told _ 67 6 c.coded-in-MissingWord.result (ap cert_text c.in-MissingWord.is ∙ one_digit 67 6 (omega arith)) c.coded-in-MissingWord.ensures.letter c.coded-in-MissingWord.ensures.number

pub returns-in-MissingGlobal-clause-code : goal.returns-in-MissingGlobal-clause-code
returns-in-MissingGlobal-clause-code c = code_told _ 67 6 c.coded-in-MissingGlobal.result (ap cert_text c.in-MissingGlobal.is ∙ one_digit 67 6 (omega arith)) c.coded-in-MissingGlobal.ensures.letter c.coded-in-MissingGlobal.ensures.number

pub returns-in-MissingRoot-clause-code : goal.returns-in-MissingRoot-clause-code
returns-in-MissingRoot-clause-code c = code_told _ 67 6 c.coded-in-MissingRoot.result (ap cert_text c.in-MissingRoot.is ∙ one_digit 67 6 (omega arith)) c.coded-in-MissingRoot.ensures.letter c.coded-in-MissingRoot.ensures.number
