use Rattle.std.proofs.Common.{◌∙◌, ap, arith, refl}
use Rattle.block_rules.specs.RuleNames.{rule_name}
use Rattle.library_answers.proofs.Codes.{one_digit, two_digits}
use Rattle.library_answers.proofs.place.number_of.Goals as goal

pub returns-in-K1 : goal.returns-in-K1
returns-in-K1 c = ap rule_name c.in-K1.is ∙ one_digit 75 1 (omega arith)

pub returns-in-K2 : goal.returns-in-K2
returns-in-K2 c = ap rule_name c.in-K2.is ∙ one_digit 75 2 (omega arith)

pub returns-in-K3 : goal.returns-in-K3
returns-in-K3 c = ap rule_name c.in-K3.is ∙ one_digit 75 3 (omega arith)

pub returns-in-K4 : goal.returns-in-K4
returns-in-K4 c = ap rule_name c.in-K4.is ∙ one_digit 75 4 (omega arith)

pub returns-in-K5 : goal.returns-in-K5
returns-in-K5 c = ap rule_name c.in-K5.is ∙ one_digit 75 5 (omega arith)

pub returns-in-K6 : goal.returns-in-K6
returns-in-K6 c = ap rule_name c.in-K6.is ∙ one_digit 75 6 (omega arith)

pub returns-in-K7 : goal.returns-in-K7
returns-in-K7 c = ap rule_name c.in-K7.is ∙ one_digit 75 7 (omega arith)

pub returns-in-K8 : goal.returns-in-K8
returns-in-K8 c = ap rule_name c.in-K8.is ∙ one_digit 75 8 (omega arith)

pub returns-in-K9 : goal.returns-in-K9
returns-in-K9 c = ap rule_name c.in-K9.is ∙ one_digit 75 9 (omega arith)

pub returns-in-K10 : goal.returns-in-K10
returns-in-K10 c = ap rule_name c.in-K10.is ∙ two_digits 75 1 10 (omega arith) (omega arith) refl (omega arith)

pub returns-in-K11 : goal.returns-in-K11
returns-in-K11 c = ap rule_name c.in-K11.is ∙ two_digits 75 1 11 (omega arith) (omega arith) refl (omega arith)

pub returns-in-K12 : goal.returns-in-K12
returns-in-K12 c = ap rule_name c.in-K12.is ∙ two_digits 75 1 12 (omega arith) (omega arith) refl (omega arith)

pub returns-in-K13 : goal.returns-in-K13
returns-in-K13 c = ap rule_name c.in-K13.is ∙ two_digits 75 1 13 (omega arith) (omega arith) refl (omega arith)

pub returns-in-K14 : goal.returns-in-K14
returns-in-K14 c = ap rule_name c.in-K14.is ∙ two_digits 75 1 14 (omega arith) (omega arith) refl (omega arith)

pub returns-in-K15 : goal.returns-in-K15
returns-in-K15 c = ap rule_name c.in-K15.is ∙ two_digits 75 1 15 (omega arith) (omega arith) refl (omega arith)

pub returns-in-K16 : goal.returns-in-K16
returns-in-K16 c = ap rule_name c.in-K16.is ∙ two_digits 75 1 16 (omega arith) (omega arith) refl (omega arith)

pub returns-in-K17 : goal.returns-in-K17
returns-in-K17 c = ap rule_name c.in-K17.is ∙ two_digits 75 1 17 (omega arith) (omega arith) refl (omega arith)

pub returns-in-K18 : goal.returns-in-K18
returns-in-K18 c = ap rule_name c.in-K18.is ∙ two_digits 75 1 18 (omega arith) (omega arith) refl (omega arith)

pub returns-in-K19 : goal.returns-in-K19
returns-in-K19 c = ap rule_name c.in-K19.is ∙ two_digits 75 1 19 (omega arith) (omega arith) refl (omega arith)

pub returns-in-K20 : goal.returns-in-K20
returns-in-K20 c = ap rule_name c.in-K20.is ∙ two_digits 75 2 20 (omega arith) (omega arith) refl (omega arith)
