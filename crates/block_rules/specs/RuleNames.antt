-- The names of the rules, as they are printed.
use Rattle.std.specs.Prelude.{ℕ, List, codes}
use Rattle.block_rules.specs.declared.rule.Rule.{Rule}
use Rattle.block_rules.specs.declared.rule.Rule.TheVariants as rule

-- the name of a rule
abbrev pub rule_name : Rule → List ℕ
rule_name rule.K1 = codes "K1"
rule_name rule.K2 = codes "K2"
rule_name rule.K3 = codes "K3"
rule_name rule.K4 = codes "K4"
rule_name rule.K5 = codes "K5"
rule_name rule.K6 = codes "K6"
rule_name rule.K7 = codes "K7"
rule_name rule.K8 = codes "K8"
rule_name rule.K9 = codes "K9"
rule_name rule.K10 = codes "K10"
rule_name rule.K11 = codes "K11"
rule_name rule.K12 = codes "K12"
rule_name rule.K13 = codes "K13"
rule_name rule.K14 = codes "K14"
rule_name rule.K15 = codes "K15"
rule_name rule.K16 = codes "K16"
rule_name rule.K17 = codes "K17"
rule_name rule.K18 = codes "K18"
rule_name rule.K19 = codes "K19"
rule_name rule.K20 = codes "K20"
